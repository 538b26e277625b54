-- The text of a number below zero, and of one that is not.
use mathlib.Core.Path.{◌≡◌, refl}
use mathlib.Core.Bool.{true, false, true≢false}
use mathlib.Core.List.{◌∷◌}
use native.Mathlib.Nat.{not-suc-le-zero}
use borrow.Author.Tests.{ltb-true}
use lib.IntN.{ℤ, pos, negsuc, nat_abs}
use lib.Signed.{lt_z}
use Rattle.listing.specs.Numbers.{number, signed_number}

pub signed_below : (x : ℤ) → lt_z x (pos 0) ≡ true → signed_number x ≡ 45 ∷ number (nat_abs x)
signed_below (pos n) t = absurd (not-suc-le-zero (ltb-true n 0 t))
signed_below (negsuc n) t = refl

pub signed-not-below : (x : ℤ) → lt_z x (pos 0) ≡ false → signed_number x ≡ number (nat_abs x)
signed-not-below (pos n) t = refl
signed-not-below (negsuc n) t = absurd (true≢false t)

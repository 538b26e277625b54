-- Halves above and below zero, and what is next to one.
use mathlib.Core.Path.{◌≡◌, refl}
use mathlib.Core.List.{[], ◌∷◌, map}
use Prim.Native.Nat.{ℕ}
use lib.IntN.{ℤ, pos, negsuc}
use Rattle.rounding.specs.Fractions.{◌over◌, ◌overℤ◌}
use Rattle.rounding.specs.Rounding.{rounded, roundedℤ}

-- 0.5, 1.5, 2.5, 3.5, and 2.49, 2.51, 3.49, 3.51
pub halves :
    map (λ (n : ℕ). rounded (n over 100)) (50 ∷ 150 ∷ 250 ∷ 350 ∷ 249 ∷ 251 ∷ 349 ∷ 351 ∷ [])
    ≡ 0 ∷ 2 ∷ 2 ∷ 4 ∷ 2 ∷ 3 ∷ 3 ∷ 4 ∷ []
unfolding rounded
halves = refl

-- the same signed, and below zero: −0.5, −1.5, −2.5, −3.5, and −2.49, −2.51, −3.49, −3.51
pub signed-halves :
    map (λ (n : ℤ). roundedℤ (n overℤ 100)) (pos 50 ∷ pos 150 ∷ pos 250 ∷ pos 350 ∷ pos 249 ∷ pos 251 ∷ pos 349 ∷ pos 351 ∷ [])
    ≡ pos 0 ∷ pos 2 ∷ pos 2 ∷ pos 4 ∷ pos 2 ∷ pos 3 ∷ pos 3 ∷ pos 4 ∷ []
unfolding roundedℤ
signed-halves = refl

pub halves-below-zero :
    map (λ (n : ℕ). roundedℤ (negsuc n overℤ 100)) (49 ∷ 149 ∷ 249 ∷ 349 ∷ 248 ∷ 250 ∷ 348 ∷ 350 ∷ [])
    ≡ pos 0 ∷ negsuc 1 ∷ negsuc 1 ∷ negsuc 3 ∷ negsuc 1 ∷ negsuc 2 ∷ negsuc 2 ∷ negsuc 3 ∷ []
unfolding roundedℤ
halves-below-zero = refl

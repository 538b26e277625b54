-- Numbers below zero: raised by one and turned they fit, and so does how large they are.
use mathlib.Core.Path.{◌≡◌}
use mathlib.Core.Bool.{true, false, true≢false}
use Prim.Native.Nat.{zero, suc, ◌-◌, ◌^◌, ◌≤◌}
use native.Mathlib.Nat.{not-suc-le-zero}
use native.Mathlib.Omega.{arith}
use borrow.Author.Tests.{ltb-true}
use lib.Dec.{T}
use lib.IntN.{ℤ, pos, negsuc, nat_abs, ◌+ℤ◌, ◌-ℤ◌}
use lib.Signed.{lt_z, non_neg}
use mir.Syntax.{w64}
use mir.Val.{SFits}
use Rattle.integers.proofs.Linear.{up, dn, zarith, zsum, zdiff}

-- raised by one, and taken from 0
pub record Below (x : ℤ) : Type 0 where
  pub raised : SFits w64 (x +ℤ pos 1)
  pub turned : pos 0 -ℤ (x +ℤ pos 1) ≡ pos (nat_abs x - 1)
  pub least : 1 ≤ nat_abs x
  pub most : nat_abs x ≤ 2 ^ 63

pub below : (x : ℤ) → SFits w64 x → lt_z x (pos 0) ≡ true → Below x
unfolding up dn
below (pos n) h t = absurd (not-suc-le-zero (ltb-true n 0 t))
below (negsuc zero) h t =
    let e : negsuc 0 +ℤ pos 1 ≡ pos 0 = omega (zarith, zsum (negsuc 0) (pos 1)) in
    record {
      raised = rw e (record { sfits = omega arith });
      turned = rw e (omega (zarith, zdiff (pos 0) (pos 0)));
      least = omega arith;
      most = omega arith;
    }
below (negsuc (suc m)) h t =
    let e : negsuc (suc m) +ℤ pos 1 ≡ negsuc m = omega (zarith, zsum (negsuc (suc m)) (pos 1)) in
    record {
      raised = rw e (record { sfits = omega (arith, h.sfits) });
      turned = rw e (omega (zarith, zdiff (pos 0) (negsuc m)));
      least = omega arith;
      most = omega (arith, h.sfits);
    }

pub not-below : (x : ℤ) → lt_z x (pos 0) ≡ false → T (non_neg x)
not-below (pos n) t = tt
not-below (negsuc n) t = absurd (true≢false t)

pub magnitude-fits : (x : ℤ) → SFits w64 x → nat_abs x ≤ 2 ^ 63
magnitude-fits (pos n) h = omega (arith, h.sfits)
magnitude-fits (negsuc n) h = omega (arith, h.sfits)

-- Numbers far inside an i64 fit it, and read back.
use mathlib.Core.Path.{◌≡◌}
use Prim.Native.Nat.{ℕ, ◌^◌, ◌≤◌}
use native.Mathlib.Omega.{arith}
use lib.IntN.{ℤ, pos, nat_abs, ◌-ℤ◌}
use lib.Signed.{quot_z, rem_z}
use mir.Syntax.{w64}
use mir.Val.{to_z, of_z, SFits}
use Rattle.rounding.specs.Sizes.{Sizes}
use Rattle.rounding.proofs.Division.{quotient-most, left-most}
use Rattle.integers.proofs.Ranges.{within-abs, within-at, within-diff, within-weaken, within-fits, plain_fits}

pub small-fits : (x : ℤ) → nat_abs x ≤ 2 ^ 62 → SFits w64 x
small-fits x h = within-fits (within-weaken h (within-abs x)) (omega arith)

pub small_plain : (x : ℤ) → nat_abs x ≤ 2 ^ 62 → to_z w64 (of_z w64 x) ≡ x
small_plain x h = plain_fits (small-fits x h)

-- also one less
pub less-fits : (x : ℤ) → nat_abs x ≤ 2 ^ 61 → SFits w64 (x -ℤ pos 1)
less-fits x h = within-fits (within-diff (within-abs x) (within-at 1)) (omega arith)

-- what a division is of, and what it comes to
pub record Divided (num : ℤ) (den : ℕ) : Type 0 where
  pub over : to_z w64 (of_z w64 num) ≡ num
  pub under : to_z w64 (of_z w64 (pos den)) ≡ pos den
  pub fits : SFits w64 (quot_z num (pos den))
  pub quotient : to_z w64 (of_z w64 (quot_z num (pos den))) ≡ quot_z num (pos den)
  pub left : to_z w64 (of_z w64 (rem_z num (pos den))) ≡ rem_z num (pos den)

pub divided : (num : ℤ) (den : ℕ) → Sizes num den → Divided num den
divided num den s =
    let fits = small-fits (quot_z num (pos den)) (omega (arith, quotient-most den s.den-some num, s.num-most)) in
    record {
      over = small_plain num (omega (arith, s.num-most));
      under = small_plain (pos den) (omega (arith, s.den-most));
      fits = fits;
      quotient = plain_fits fits;
      left = small_plain (rem_z num (pos den)) (omega (arith, left-most den s.den-some num, s.den-most));
    }

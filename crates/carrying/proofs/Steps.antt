-- What is gained from step to step.
use mathlib.Core.Path.{◌≡◌, sym, ap, ◌∙◌}
use Prim.Native.Nat.{ℕ, suc, ◌+◌, ◌-◌, ◌*◌, ◌≤◌}
use native.Mathlib.Nat.{mul-le-mul_left}
use native.Mathlib.Omega.{arith}
use lib.IntN.{ℤ, pos, nat_abs, ◌+ℤ◌, ◌*ℤ◌}
use Rattle.integers.proofs.Ranges.{Within, within-abs, within-at, within-weaken, within-sum, within-mul}
use Rattle.commitment.specs.Bounds.{most_blocks}
use Rattle.geometry.specs.Layers.{swing}
use Rattle.intervals.specs.declared.rows.Ladder.{Ladder}
use Rattle.intervals.specs.Ladders.{brings, most_brought}
use Rattle.intervals.proofs.Ladders.{brings-least, brings-next}
use Rattle.carrying.specs.Images.{stepped}

module _ (gain rise : ℤ) where
  -- as a ladder from 0 has it
  abbrev from-none : Ladder
  from-none = record { low = 0; high = most_blocks; least = gain; rise = rise }

  brings-is : (d : ℕ) → brings from-none d ≡ stepped gain rise d
  unfolding brings stepped
  brings-is d = let e : d - 0 ≡ d = omega arith in ap (λ (n : ℕ). gain +ℤ rise *ℤ pos n) e

  pub stepped-none : stepped gain rise 0 ≡ gain
  stepped-none = sym (brings-is 0) ∙ brings-least from-none

  pub stepped-next : (d : ℕ) → stepped gain rise (suc d) ≡ stepped gain rise d +ℤ rise
  stepped-next d = sym (brings-is (suc d)) ∙ brings-next from-none d (omega arith) ∙ ap (λ (x : ℤ). x +ℤ rise) (brings-is d)

  -- the most that it comes to
  abbrev pub step_most : ℕ
  step_most = most_brought + swing * most_blocks

  pub stepped_within : (d : ℕ) → nat_abs gain ≤ most_brought → nat_abs rise ≤ swing → d ≤ most_blocks → Within step_most (stepped gain rise d)
  unfolding stepped
  stepped_within d g r few =
      within-sum (within-weaken g (within-abs gain))
      (within-weaken (mul-le-mul_left swing few) (within-mul (within-weaken r (within-abs rise)) (within-at d)))

-- The walk over a schedule, interval by interval: where the unit stands and what it has spent and earned so far.
use Rattle.std.specs.Prelude.{◌≡◌, Bool, true, false, ◌&&◌, cond, List, [], ◌∷◌, ℕ, zero, suc, ◌+◌, ◌^◌, ◌<◌, leb, ℤ, pos, nat_abs, ◌+ℤ◌, ◌-ℤ◌, Some, None, Ok, Err}
use Rattle.commitment.specs.declared.Opening.{Opening}
use Rattle.commitment.specs.declared.Generator.{Generator}
use Rattle.commitment.specs.declared.Limits.{Limits}
use Rattle.commitment.specs.declared.Limitation.{Limitation}
use Rattle.commitment.specs.declared.Cause.TheVariants.{NotKept}
use Rattle.commitment.specs.declared.UnitRecord.{UnitRecord}
use Rattle.commitment.specs.Keeping.{was_on}
use Rattle.commitment.specs.Bounds.{most_mwh}
use Rattle.commitment.specs.Limits.{within, limit_kept, limit_for}
use Rattle.commitment.specs.Profit.{earned, start_cost}
use Rattle.commitment.specs.Schedule.{is_output}
use Rattle.assessment.specs.Types.{Assessed}
use Rattle.assessment.specs.declared.Walk.{Walk}
use Rattle.assessment.specs.Types.{Walked}

abbrev pub opening_walk : Opening → Walk
opening_walk o = record { on = was_on o; spent = o.held; starts = 0; running = 0; output = 0; profit = pos 0 }

-- a run that ends has lasted mot, an off spell that ends mdt
abbrev pub spell_kept : Generator → Bool → ℕ → ℕ → Bool
spell_kept g true spent zero = leb g.mot spent
spell_kept g true spent (suc m) = true
spell_kept g false spent zero = true
spell_kept g false spent (suc m) = leb g.mdt spent

unfoldable pub may_follow : UnitRecord → Walk → ℕ → Bool
may_follow u at m = is_output u.generator m && spell_kept u.generator at.on at.spent m

-- off for so many intervals
abbrev pub rested : Walk → ℕ → Walk
rested at spent =
    record { on = false; spent = spent; starts = at.starts; running = at.running; output = at.output; profit = at.profit }

-- on for so many intervals, after so many starts, the last with an output that brought a gain
abbrev pub ran : Walk → ℕ → ℕ → ℕ → ℤ → Walk
ran at spent starts m gain =
    record { on = true; spent = spent; starts = starts; running = at.running + 1; output = at.output + m; profit = at.profit +ℤ gain }

abbrev pub advanced : UnitRecord → Walk → ℤ → Bool → ℕ → Walk
advanced u at price true zero = rested at 1
advanced u at price false zero = rested at (at.spent + 1)
advanced u at price true (suc m) = ran at (at.spent + 1) at.starts (suc m) (earned u.generator u.costs price (suc m))
advanced u at price false (suc m) = ran at 1 (at.starts + 1) (suc m) (earned u.generator u.costs price (suc m) -ℤ pos (start_cost u.costs))

unfoldable pub stepped : UnitRecord → Walk → ℤ → ℕ → Walk
stepped u at price m = advanced u at price at.on m

-- to the end, or to the first interval that may not follow
abbrev pub walk_from : UnitRecord → Walk → List ℤ → List ℕ → Walked
walk_from u at [] s = Some at
walk_from u at (price ∷ prices) [] = Some at
walk_from u at (price ∷ prices) (m ∷ s) = cond (may_follow u at m) (walk_from u (stepped u at price m) prices s) None

-- what was spent is within the limitations; hours and MWh are counted in quarter-hours
abbrev pub spent_within : Limits → ℕ → ℕ → ℕ → Bool
spent_within limits starts running output =
    within 1 starts limits.starts && within 4 running limits.hours && within 4 output limits.mwh

-- what the limitations say of the totals
abbrev pub settled : Limits → ℕ → ℕ → ℕ → ℤ → Assessed
settled limits starts running output p = cond (spent_within limits starts running output) (Ok p) (Err NotKept)

abbrev pub concluded : UnitRecord → Walked → Assessed
concluded u (Some at) = settled u.limits at.starts at.running at.output at.profit
concluded u None = Err NotKept

-- limitations whose counts are small numbers
abbrev pub SmallLimits : Limits → Type 0
SmallLimits limits = (which : Limitation) → limit_kept most_mwh (limit_for limits which) ≡ true

-- sizes that leave room for one interval more
pub record Small (at : Walk) : Type 0 where
  pub spent : at.spent < 2 ^ 32
  pub starts : at.starts < 2 ^ 32
  pub running : at.running < 2 ^ 32
  pub output : at.output < 2 ^ 32
  pub profit : nat_abs at.profit < 2 ^ 60

-- What the part of a schedule in one month spends, interval by interval.
use Rattle.std.specs.Prelude.{Bool, true, false, cond, List, ℕ, zero, suc, ◌+◌, ◌^◌, ◌≤◌, ◌<◌, length, get_or}
use Rattle.commitment.specs.Bounds.{most_mw}
use Rattle.commitment.specs.Keeping.{starts_in, on_intervals, output_sum}
use Rattle.commitment.specs.Months.{on_after}
use Rattle.assessment.specs.declared.months.Counts.{Counts}

abbrev pub counts : Bool → ℕ → ℕ → ℕ → Counts
counts on starts running output = record { on = on; starts = starts; running = running; output = output }

-- of a part, from the state before it
abbrev pub counts_of : Bool → List ℕ → Counts
counts_of on part = counts (on_after on part) (starts_in on part) (on_intervals part) (output_sum part)

-- one interval more
abbrev pub counted : Counts → ℕ → Counts
counted at zero = counts false at.starts at.running at.output
counted at (suc m) = counts true (at.starts + cond at.on 0 1) (at.running + 1) (at.output + suc m)

-- counts that leave room for one interval more
pub record Room (at : Counts) : Type 0 where
  pub starts : at.starts < 2 ^ 32
  pub running : at.running < 2 ^ 32
  pub output : at.output < 2 ^ 32

-- no output is above the highest of any unit
abbrev pub Outputs : List ℕ → Type 0
Outputs s = (i : ℕ) → i < length s → get_or s i 0 ≤ most_mw

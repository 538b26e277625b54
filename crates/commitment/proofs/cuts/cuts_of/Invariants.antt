use Rattle.std.proofs.Common.{◌≡◌, ◌≤◌, ℕ, ◌<◌, length}
use lib.ListN.{get_or}
use Rattle.calendar.specs.Months.{most_months}
use Rattle.commitment.specs.Months.{month_ends}
use Rattle.commitment.proofs.cuts.cuts_of.Given as goal

-- so far each cut is where a month ends; a horizon has no more than thirteen
abbrev pub invariant-loop-k : goal.invariant-loop-k
invariant-loop-k l =
    (length l.at ≡ 14) × (l.count ≤ most_months) × ((j : ℕ) → j < l.k → get_or l.at j 0 ≡ month_ends l.date l.intervals j)

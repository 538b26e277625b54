-- Valuing a limitation (specification 9): the gap between the best profit at the lowered limitation and one unit lower.
use Rattle.std.specs.Prelude.{List, ℕ, zero, suc, ◌*◌, ◌/◌, ℤ, ◌-ℤ◌, Some, None}
use Rattle.commitment.specs.Types.{BestProfit}
use Rattle.commitment.specs.Types.{Limit}
use Rattle.commitment.specs.declared.Limitation.{Limitation}
use Rattle.commitment.specs.declared.Limitation.TheVariants.{Starts, Hours, Mwh}
use Rattle.commitment.specs.declared.Outcome.{Outcome}
use Rattle.commitment.specs.declared.Outcome.TheVariants as outcome
use Rattle.commitment.specs.declared.Outcomes.{Outcomes}
use Rattle.commitment.specs.declared.UnitRecord.{UnitRecord}
use Rattle.commitment.specs.Limits.{limit_for, with_limit, limited}
use Rattle.commitment.specs.Best.{best, profit_of}

-- lowered to nine tenths, rounded down
abbrev pub lowered : ℕ → ℕ
lowered n = 9 * n / 10

-- the case with one limitation at a figure; the other two are taken whole
abbrev pub run_at : UnitRecord → Limitation → ℕ → UnitRecord
run_at u which figure = limited u (with_limit u.limits which (Some figure))

-- the first run's best profit less the lower run's; `never` where no schedule keeps the figure one unit less
abbrev pub gap_between : BestProfit → BestProfit → Outcome
gap_between first None = outcome.Never
gap_between None (Some q) = outcome.Never
gap_between (Some p) (Some q) = outcome.Gap (p -ℤ q)

-- the best profits at a figure and one unit below it; at 0 there is no lower run
abbrev pub gap_at : (ℕ → BestProfit) → ℕ → Outcome
gap_at profitAt zero = outcome.Empty
gap_at profitAt (suc less) = gap_between (profitAt (suc less)) (profitAt less)

abbrev pub gap_under : (ℕ → BestProfit) → Limit → Outcome
gap_under profitAt None = outcome.None
gap_under profitAt (Some figure) = gap_at profitAt (lowered figure)

-- the outcome of one limitation, and of all three
abbrev pub outcome_of : UnitRecord → List ℤ → Limitation → Outcome
outcome_of u prices which = gap_under (λ figure. profit_of (best (run_at u which figure) prices)) (limit_for u.limits which)

abbrev pub outcomes_of : UnitRecord → List ℤ → Outcomes
outcomes_of u prices =
    record { starts = outcome_of u prices Starts; hours = outcome_of u prices Hours; mwh = outcome_of u prices Mwh }

-- on a refusal every outcome is `none`
abbrev pub no_outcomes : Outcomes
no_outcomes = record { starts = outcome.None; hours = outcome.None; mwh = outcome.None }

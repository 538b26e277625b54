-- A report (specification 8, 9): plan and outcomes in one answer.
use Rattle.std.specs.Prelude.{List, ℕ, ℤ, pos, length, Ok, Err}
use Rattle.commitment.specs.declared.Cause.TheVariants.{NoSchedule}
use Rattle.commitment.specs.Types.{Checked}
use Rattle.commitment.specs.declared.Outcomes.{Outcomes}
use Rattle.commitment.specs.declared.UnitRecord.{UnitRecord}
use Rattle.commitment.specs.Best.{Plan, nothing, plan, best}
use Rattle.commitment.specs.Causes.{number_of}
use Rattle.commitment.specs.Valuing.{outcomes_of, no_outcomes}
use Rattle.planner.specs.Planning.{plan_checked}
use Rattle.planner.specs.Types.{Planned, plan_with}
use Rattle.planner.specs.Types.{Reported}

abbrev pub reported_by : Checked → Plan → Outcomes → Reported
reported_by (Ok _) (plan s p) outcomes = Ok (record { count = length s; profit = p; outcomes = outcomes })
reported_by (Ok _) nothing outcomes = Err NoSchedule
reported_by (Err cause) best outcomes = Err cause

-- the causes are those of planning
abbrev pub reported : UnitRecord → List ℤ → ℕ → ℕ → Reported
reported u prices scratch schedule = reported_by (plan_checked u prices scratch schedule) (best u prices) (outcomes_of u prices)

-- a report without its outcomes
abbrev pub plan_in : Reported → Planned
plan_in (Ok report) = plan_with report.count report.profit
plan_in (Err cause) = Err cause

abbrev pub reported_profit : Reported → ℤ
reported_profit (Ok report) = report.profit
reported_profit (Err cause) = pos 0

abbrev pub reported_count : Reported → ℕ
reported_count (Ok report) = report.count
reported_count (Err cause) = 0

abbrev pub reported_outcomes : Reported → Outcomes
reported_outcomes (Ok report) = report.outcomes
reported_outcomes (Err cause) = no_outcomes

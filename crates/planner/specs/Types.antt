-- The answers of planning, of valuing, and of both together.
use Rattle.std.specs.Prelude.{ℕ, ℤ, Result, Ok}
use Rattle.commitment.specs.declared.Cause.{Cause}
use Rattle.commitment.specs.declared.Outcomes.{Outcomes}
use Rattle.planner.specs.declared.BestPlan.{BestPlan}
use Rattle.planner.specs.declared.Report.{Report}

abbrev pub Planned : Type 0
Planned = Result BestPlan Cause

abbrev pub plan_with : ℕ → ℤ → Planned
plan_with count profit = Ok (record { count = count; profit = profit })

abbrev pub Valued : Type 0
Valued = Result Outcomes Cause

abbrev pub Reported : Type 0
Reported = Result Report Cause

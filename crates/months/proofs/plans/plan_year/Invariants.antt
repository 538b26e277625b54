-- The months before k are planned, and the plan goes on from the cell.
use Rattle.std.proofs.Common.{length}
use Rattle.months.specs.Planning.{PlanAsked}
use Rattle.months.proofs.Partway.{Partway}
use Rattle.months.proofs.plans.plan_year.Given as goal

abbrev pub invariant-loop-k : goal.invariant-loop-k
invariant-loop-k l =
    (asked : PlanAsked l.y l.initial.cells l.prices l.cuts l.initial.at (length l.initial.schedule))
    → Partway l.y l.initial.cells l.prices l.cuts l.initial.at l.initial.schedule asked l.cells l.schedule l.at l.tries l.k

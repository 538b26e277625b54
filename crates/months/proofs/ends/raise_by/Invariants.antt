-- The cells with fewer than x starts left are raised, where they have as much left.
use Rattle.months.specs.Ending.{Brought, InSection}
use Rattle.months.proofs.ends.raise_by.Given as goal

abbrev pub invariant-loop-x : goal.invariant-loop-x
invariant-loop-x l = Brought l.f l.at l.w (InSection l.w l.x) l.initial.cells l.cells

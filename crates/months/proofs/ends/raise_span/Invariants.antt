-- The cells with fewer than y on-intervals left are raised, where they have as much left.
use Rattle.months.specs.Ending.{Brought, InSpan}
use Rattle.months.proofs.ends.raise_span.Given as goal

abbrev pub invariant-loop-y : goal.invariant-loop-y
invariant-loop-y l = Brought l.f l.at l.w (InSpan l.w l.x l.y) l.initial.cells l.cells

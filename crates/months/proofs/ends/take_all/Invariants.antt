-- The ways that spend the first j cells of the box are taken.
use Rattle.months.specs.Ending.{WaysTaken}
use Rattle.months.proofs.ends.take_all.Given as goal

abbrev pub invariant-loop-j : goal.invariant-loop-j
invariant-loop-j l = WaysTaken l.f l.cap l.at l.to l.j l.initial.cells l.cells

-- The first i are numbered.
use Rattle.marks.specs.Passing.{OwnNumbers}
use Rattle.marks.proofs.passes.mark_own.Given as goal

abbrev pub invariant-loop-i : goal.invariant-loop-i
invariant-loop-i l = OwnNumbers l.w l.initial.cells l.cells l.i

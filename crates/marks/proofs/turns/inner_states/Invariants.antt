-- The states below s are turned.
use Rattle.marks.specs.Turning.{Partly, ServesFor}
use Rattle.marks.proofs.turns.inner_states.Given as goal

abbrev pub invariant-loop-s : goal.invariant-loop-s
invariant-loop-s l =
    record {
      partly : Partly l.t l.initial.cells l.cells l.p l.s;
      serves : ServesFor l.t l.cells l.s l.p l.ran;
    }

-- The states below s are done.
use Rattle.optimality.specs.Machine.{quarter}
use Rattle.layers.proofs.Making.{StatesDone}
use Rattle.layers.proofs.states.fill_layer.Given as goal

abbrev pub invariant-loop-s : goal.invariant-loop-s
invariant-loop-s l = StatesDone l.f (quarter l.price l.opens) l.fn.scratch l.scratch l.s

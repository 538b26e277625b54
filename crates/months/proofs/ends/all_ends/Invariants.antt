-- The ways to the first t states are taken.
use Rattle.layers.specs.Filling.{quarters_in, between}
use Rattle.months.specs.Ending.{EndsTaken}
use Rattle.months.proofs.ends.all_ends.Given as goal

abbrev pub invariant-loop-t : goal.invariant-loop-t
invariant-loop-t l = EndsTaken l.f (between (quarters_in l.hours l.prices) l.m.from l.m.to) l.m l.at 0 l.t l.initial.cells l.cells

-- The first i places are joined.
use Rattle.carrying.specs.Pairs.{Pairs, JoinedFrom}
use Rattle.carrying.proofs.pairs.join_all.Given as goal

abbrev pub invariant-loop-i : goal.invariant-loop-i
invariant-loop-i l = Pairs l.behind (JoinedFrom l.behind l.aside l.initial.cells l.image l.to) l.initial.cells l.cells l.to l.i

-- The first i places hold what stands in their cells.
use Rattle.carrying.specs.Images.{Aside, Shifted}
use Rattle.carrying.proofs.images.shifted.Given as goal

abbrev pub invariant-loop-i : goal.invariant-loop-i
invariant-loop-i l = Aside (Shifted l.cells l.w l.from l.gain) l.initial.out l.out l.to l.i

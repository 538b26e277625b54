-- The first i places hold no schedule.
use Rattle.std.proofs.Common.{◌≡◌}
use Rattle.geometry.specs.Layers.{infeasible}
use Rattle.carrying.specs.Images.{Aside}
use Rattle.carrying.proofs.images.nothing.Given as goal

abbrev pub invariant-loop-i : goal.invariant-loop-i
invariant-loop-i l = Aside (λ i v m. v ≡ infeasible) l.initial.out l.out 0 l.i

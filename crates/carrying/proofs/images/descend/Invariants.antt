-- The places from the i-th on are joined, and what is held is the best of the sources down to it.
use Rattle.std.proofs.Common.{◌-◌}
use Rattle.carrying.specs.Images.{Descended}
use Rattle.carrying.proofs.Descending.{Held}
use Rattle.carrying.proofs.images.descend.Given as goal

abbrev pub invariant-loop-i : goal.invariant-loop-i
invariant-loop-i l =
    record {
      held : Held l.cells l.w l.s (l.s.count - l.i) l.best l.mark;
      descended : Descended l.cells l.w l.s l.initial.out l.out l.to (l.s.count - l.i);
    }

-- The first i places stand aside, and what is held is the best of the sources up to the last of them.
use Rattle.carrying.specs.Images.{Aside, UpPicked}
use Rattle.carrying.proofs.Climbing.{Held}
use Rattle.carrying.proofs.images.climb.Given as goal

abbrev pub invariant-loop-i : goal.invariant-loop-i
invariant-loop-i l =
    record {
      held : Held l.cells l.w l.s l.i l.best l.mark;
      aside : Aside (UpPicked l.cells l.w l.s) l.initial.out l.out l.to l.i;
    }

-- Whole chunks are done. The places left fall.
use Rattle.carrying.specs.Images.{Chunks}
use Rattle.carrying.proofs.Chunks.{InChunks}
use Rattle.carrying.proofs.images.chunks.Given as goal

abbrev pub invariant-loop-done : goal.invariant-loop-done
invariant-loop-done l = (p : Chunks l.l l.cells l.w l.p) → InChunks l.l l.cells l.w l.p p l.initial.out l.out l.done

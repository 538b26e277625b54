-- The cells of the box before the i-th are stored, and all else is as it was.
use Rattle.std.proofs.Common.{length}
use Rattle.months.specs.Capping.{StoreAsked}
use Rattle.months.proofs.Storing.{Storing}
use Rattle.months.proofs.boxes.store.Given as goal

abbrev pub invariant-loop-i : goal.invariant-loop-i
invariant-loop-i l =
    (asked : StoreAsked l.f l.cap l.above (length l.initial.cells) l.from l.to)
    → Storing l.f l.cap l.above asked.fits l.initial.cells l.cells l.from l.to l.i

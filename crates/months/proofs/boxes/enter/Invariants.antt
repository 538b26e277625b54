-- The first i cells of the box have what the year's cells above them had, and all else is as it was.
use Rattle.std.proofs.Common.{◌+◌, get_or, pos}
use Rattle.geometry.specs.Geometry.{index}
use Rattle.intervals.proofs.Stretches.{Made}
use Rattle.months.specs.Capping.{high_cell}
use Rattle.months.proofs.boxes.enter.Given as goal

abbrev pub invariant-loop-i : goal.invariant-loop-i
invariant-loop-i l =
    Made (λ j. j) l.initial.cells l.cells l.to l.i (λ j. get_or l.initial.cells (l.from + index l.f (high_cell l.f l.cap l.above j)) (pos 0))

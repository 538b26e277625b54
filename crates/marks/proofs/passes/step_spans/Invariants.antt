-- The spans after x are turned.
use Rattle.std.proofs.Common.{◌+◌, ◌*◌}
use Rattle.geometry.specs.Geometry as geometry
use Rattle.marks.specs.Lines.{quarter_of}
use Rattle.marks.specs.Passing.{Columns}
use Rattle.marks.proofs.passes.step_spans.Given as goal

abbrev pub invariant-loop-x : goal.invariant-loop-x
invariant-loop-x l =
    Columns l.t.figures (quarter_of l.t) l.t.width l.initial.cells l.cells ((l.x + 1) * geometry.span l.t.figures) (geometry.section l.t.figures)

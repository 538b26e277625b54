-- The rows after y are turned.
use Rattle.std.proofs.Common.{◌+◌, ◌*◌}
use Rattle.geometry.specs.Geometry as geometry
use Rattle.marks.specs.Lines.{quarter_of}
use Rattle.marks.specs.Passing.{Columns}
use Rattle.marks.proofs.passes.step_rows.Given as goal

abbrev pub invariant-loop-y : goal.invariant-loop-y
invariant-loop-y l =
    Columns l.t.figures (quarter_of l.t) l.t.width l.initial.cells l.cells (l.x * geometry.span l.t.figures + (l.y + 1) * geometry.row l.t.figures)
    (l.x * geometry.span l.t.figures + geometry.span l.t.figures)

-- The pieces from the n-th on are turned.
use Rattle.std.proofs.Common.{◌+◌, ◌*◌, min}
use Rattle.marks.specs.Lines.{quarter_of}
use Rattle.marks.specs.Passing.{Columns}
use Rattle.marks.proofs.passes.upper_pieces.Given as goal

abbrev pub invariant-loop-n : goal.invariant-loop-n
invariant-loop-n l =
    Columns l.t.figures (quarter_of l.t) l.t.width l.initial.cells l.cells (l.l.start + min l.l.long (l.first + l.n * l.most)) (l.l.start + l.l.long)

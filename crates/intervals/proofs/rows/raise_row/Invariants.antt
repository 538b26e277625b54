-- The sources before a are counted where their highest output stays in the row. The sources left fall.
use Rattle.std.proofs.Common.{◌+◌, ◌-◌, ◌≤◌}
use Rattle.commitment.specs.Bounds.{most_blocks}
use Rattle.intervals.specs.Stretches.{Between, Reached}
use Rattle.intervals.proofs.rows.raise_row.Given as goal

abbrev pub invariant-loop-a : goal.invariant-loop-a
invariant-loop-a l =
    (l.a ≤ l.cells + (most_blocks + 1)) × Reached l.l l.cells (Between l.l l.cells 0 l.a) l.fn.scratch l.scratch l.to l.from

abbrev pub decreases-loop-a : goal.decreases-loop-a
decreases-loop-a l = l.cells + (most_blocks + 1) - l.a

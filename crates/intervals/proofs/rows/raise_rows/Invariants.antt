-- The rows below y more than are skipped are done.
use Rattle.std.proofs.Common.{◌+◌}
use Rattle.intervals.proofs.Passes.{RowsDone}
use Rattle.intervals.proofs.rows.raise_rows.Given as goal

abbrev pub invariant-loop-y : goal.invariant-loop-y
invariant-loop-y l = RowsDone l.fn.f l.l l.fn.scratch l.to l.from l.scratch (l.fn.f.takes.ons + l.y)

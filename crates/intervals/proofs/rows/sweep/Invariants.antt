-- The pass has come to the i-th place of its order.
use Rattle.intervals.proofs.Sweeping.{Sweeping}
use Rattle.intervals.proofs.rows.sweep.Given as goal

abbrev pub invariant-loop-i : goal.invariant-loop-i
invariant-loop-i l = Sweeping l.down l.fn.scratch l.to l.from l.count l.gain l.rise l.scratch l.i l.best

-- The intervals of a task fall: twice their number for `halves`, one more for `solve`, which calls it with as many.
use Rattle.std.proofs.Common.{◌+◌, ◌-◌}
use Rattle.halving.proofs.+halves_solve.Given as goal

abbrev pub decreases-halves : goal.decreases-halves
decreases-halves l = (l.t.to - l.t.from) + (l.t.to - l.t.from)

abbrev pub decreases-solve : goal.decreases-solve
decreases-solve l = (l.t.to - l.t.from) + (l.t.to - l.t.from) + 1

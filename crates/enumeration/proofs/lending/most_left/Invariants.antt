-- So many fit.
use Rattle.std.proofs.Common.{◌*◌, ◌≤◌}
use Rattle.enumeration.proofs.lending.most_left.Given as goal

abbrev pub invariant-loop-count : goal.invariant-loop-count
invariant-loop-count l = l.count * l.size ≤ l.room

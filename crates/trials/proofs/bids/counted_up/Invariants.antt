-- What is left falls by more than is counted.
use Rattle.std.proofs.Common.{◌+◌, ◌≤◌}
use Rattle.trials.proofs.bids.counted_up.Given as goal

abbrev pub invariant-loop-left : goal.invariant-loop-left
invariant-loop-left l = l.cents + l.left ≤ 40000000000

abbrev pub decreases-loop-left : goal.decreases-loop-left
decreases-loop-left l = l.left

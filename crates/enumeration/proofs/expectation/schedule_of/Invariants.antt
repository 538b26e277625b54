-- The front is that of the list.
use Rattle.std.proofs.Common.{◌≡◌, ◌++◌, take, drop, replicate}
use Rattle.enumeration.specs.Lists.{room, untouched}
use Rattle.enumeration.proofs.expectation.schedule_of.Given as goal

abbrev pub invariant-loop-i : goal.invariant-loop-i
invariant-loop-i l = l.schedule ≡ take l.i l.output-items ++ drop l.i (replicate room untouched)

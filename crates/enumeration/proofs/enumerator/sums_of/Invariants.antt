-- Each interval adds what one may.
use Rattle.std.proofs.Common.{length}
use Rattle.enumeration.specs.Expecting.{Summed}
use Rattle.enumeration.proofs.enumerator.sums_of.Given as goal

abbrev pub invariant-loop-output : goal.invariant-loop-output
invariant-loop-output l =
    (goal.iterator-loop-output).can_next l.output-iterator ×
    (goal.iterator-loop-output).is_finite l.output-iterator × Summed (length l.yielded) l.sums

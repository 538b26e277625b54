-- The first i of the stretch are raised, and all else is as it was.
use Rattle.std.proofs.Common.{pos, ◌+ℤ◌, ◌+◌}
use lib.ListN.{get_or}
use Rattle.integers.specs.Maximum.{maxℤ}
use Rattle.intervals.proofs.Stretches.{Made}
use Rattle.intervals.proofs.rows.raise.Given as goal

abbrev pub invariant-loop-i : goal.invariant-loop-i
invariant-loop-i l =
    let was = l.fn.scratch in
    Made (λ j. j) was l.scratch l.to l.i (λ j. maxℤ (get_or was (l.to + j) (pos 0)) (get_or was (l.from + j) (pos 0) +ℤ l.gain))

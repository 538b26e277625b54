-- The first i of the stretch are raised, and all else is as it was.
use Rattle.std.proofs.Common.{◌+◌, get_or, pos, ◌+ℤ◌}
use Rattle.integers.specs.Maximum.{maxℤ}
use Rattle.intervals.proofs.Stretches.{Made}
use Rattle.months.proofs.ends.raise_row.Given as goal

abbrev pub invariant-loop-i : goal.invariant-loop-i
invariant-loop-i l =
    Made (λ j. j) l.initial.cells l.cells l.to l.i
    (λ j. maxℤ (get_or l.initial.cells (l.to + j) (pos 0)) (get_or l.initial.cells (l.from + j) (pos 0) +ℤ l.gain))

use Rattle.std.proofs.Common.{◌≡◌}
use lib.ListN.{drop}
use Rattle.assessment.specs.Counting.{counts_of}
use Rattle.assessment.proofs.Counting.{counted_over, Few}
use Rattle.assessment.proofs.months.counts_in.Given as goal

-- what is left of the part, counted on, makes the whole; and the counts are small
abbrev pub invariant-loop-output : goal.invariant-loop-output
invariant-loop-output l = Few l.output-index l.at × (counted_over l.at (drop l.output-index l.part) ≡ counts_of l.was l.part)

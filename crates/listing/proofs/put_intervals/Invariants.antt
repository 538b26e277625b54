use lib.ListN.{take}
use Rattle.listing.specs.Listing.{interval_lines}
use Rattle.listing.specs.Writing.{Put}
use Rattle.listing.proofs.put_intervals.Given as goal

-- the lines of the intervals passed are written
abbrev pub invariant-loop-i : goal.invariant-loop-i
invariant-loop-i l = Put l.fn.out l.at (interval_lines 1 (take l.i l.schedule)) l.place l.out

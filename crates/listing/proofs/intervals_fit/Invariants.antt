use Rattle.std.proofs.Common.{◌≡◌, ◌≤◌, length}
use lib.ListN.{take}
use Rattle.listing.specs.Listing.{interval_lines}
use Rattle.listing.proofs.intervals_fit.Given as goal

-- the bytes counted are those of the lines passed, and fit
abbrev pub invariant-loop-i : goal.invariant-loop-i
invariant-loop-i l = (l.bytes ≡ length (interval_lines 1 (take l.i l.schedule))) × (l.bytes ≤ l.room)

use mathlib.Core.Path.{◌≡◌}
use lib.ListN.{take}
use Rattle.listing.specs.Writing.{written}
use Rattle.listing.proofs.put_text.Given as goal

-- the bytes passed are written
abbrev pub invariant-loop-i : goal.invariant-loop-i
invariant-loop-i l = l.out ≡ written l.fn.out l.at (take l.i l.text)

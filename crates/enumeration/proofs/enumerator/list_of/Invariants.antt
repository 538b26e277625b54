-- What is still to be split off the number comes before what was written.
use Rattle.std.proofs.Common.{◌≡◌, ◌++◌, map, drop, length}
use Rattle.enumeration.specs.Lists.{room, output_of, digits, in_front}
use Rattle.enumeration.proofs.enumerator.list_of.Given as goal

abbrev pub invariant-loop-i : goal.invariant-loop-i
invariant-loop-i l =
    (length l.list ≡ room) × (in_front l.case l.number 0 ≡ map (output_of l.case) (digits l.outputs l.i l.rest) ++ drop l.i l.list)

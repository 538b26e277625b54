-- The lengths of scratch that a generated case is tried with.
use Rattle.std.specs.Prelude.{ℕ, zero, suc, ◌+◌, ◌-◌, ◌*◌, ◌^◌, cond, Option, None, Some, ◌==◌, nat_le}
use Rattle.enumeration.specs.declared.enumerator.Case.{Case}
use Rattle.enumeration.specs.declared.lending.Length.{Length}
use Rattle.enumeration.specs.declared.lending.Length.TheVariants.{Long, UnderLong, TwoLayers, UnderTwoLayers}
use Rattle.enumeration.specs.declared.lending.Lent.{Lent}
use Rattle.enumeration.specs.Lists.{intervals_of}

-- the most of so many, each of that size, for which there is space
unfoldable pub fitting : ℕ → ℕ → ℕ → ℕ
fitting space size zero = 0
fitting space size (suc n) = cond (nat_le (suc n * size) space) (suc n) (fitting space size n)

-- what can be left of a limitation, but no more than the intervals can use
unfoldable pub most_left : Option ℕ → ℕ → ℕ → ℕ → ℕ
most_left None unit size usable = 0
most_left (Some most) unit size usable = fitting (most * unit) size usable

-- a cell for each state and for each number of starts, on-intervals and blocks that can be left
unfoldable pub layer_of : Case → ℕ
layer_of case =
    (case.mot + case.mdt) * (most_left case.limits.starts 1 1 (intervals_of case) + 1) * (most_left case.limits.hours 4 1 (intervals_of case) + 1)
    * (most_left case.limits.mwh 4 case.block (intervals_of case * case.pmax) + 1)

-- one less than 0 is the largest number
abbrev pub one_less : ℕ → ℕ
one_less cells = cond (cells == 0) (2 ^ 64 - 1) (cells - 1)

-- the long table where it fits, else two layers, else none
abbrev pub used_of : ℕ → ℕ → ℕ → Option ℕ
used_of long two cells = cond (nat_le long cells) (Some long) (cond (nat_le two cells) (Some two) None)

abbrev pub lent_with : ℕ → ℕ → ℕ → Lent
lent_with long two cells = record { cells = cells; used = used_of long two cells }

-- by number, the last for every number above
abbrev pub length_for : ℕ → Length
length_for zero = Long
length_for (suc zero) = UnderLong
length_for (suc (suc zero)) = TwoLayers
length_for (suc (suc (suc number))) = UnderTwoLayers

-- the long table, two layers, and one cell less than each
abbrev pub length_of : ℕ → ℕ → Length → ℕ
length_of long two Long = long
length_of long two UnderLong = one_less long
length_of long two TwoLayers = two
length_of long two UnderTwoLayers = one_less two

abbrev pub lent_of : Case → ℕ → Lent
lent_of case number =
    let two = 2 * layer_of case in
    let long = layer_of case * (intervals_of case + 1) in
    lent_with long two (length_of long two (length_for number))

-- The lists of outputs of a small case, by their numbers.
use Rattle.std.specs.Prelude.{ℕ, zero, suc, ◌+◌, ◌-◌, ◌*◌, ◌/◌, ◌%◌, ◌^◌, min, cond, List, [], ◌∷◌, ◌++◌, map, replicate, ◌==◌, nat_lt}
use Rattle.enumeration.specs.declared.enumerator.Case.{Case}

-- the intervals that a list has room for, and the outputs of an interval
abbrev pub room : ℕ
room = 9

abbrev pub most_outputs : ℕ
most_outputs = 64

abbrev pub intervals_of : Case → ℕ
intervals_of case = min case.intervals room

-- off, or pmin to pmax blocks
abbrev pub outputs_of : Case → ℕ
outputs_of case = cond (nat_lt case.pmax case.pmin) 1 (min (case.pmax - case.pmin + 2) most_outputs)

-- output 0 is off, output 1 is pmin × block, and so on up
abbrev pub output_of : Case → ℕ → ℕ
output_of case choice = cond (choice == 0) 0 ((case.pmin + choice - 1) * case.block)

abbrev pub lists_of : Case → ℕ
lists_of case = outputs_of case ^ intervals_of case

-- a number's last n digits, the most significant first
unfoldable pub digits : ℕ → ℕ → ℕ → List ℕ
digits base zero number = []
digits base (suc n) number = digits base n (number / base) ++ (number % base ∷ [])

unfoldable pub outputs_in : Case → ℕ → List ℕ
outputs_in case number = map (output_of case) (digits (outputs_of case) (intervals_of case) number)

-- a list with something else where there is no interval
abbrev pub in_front : Case → ℕ → ℕ → List ℕ
in_front case number else = outputs_in case number ++ replicate (room - intervals_of case) else

-- what no output of a small case is
abbrev pub untouched : ℕ
untouched = 7777

-- The text that a writer of the format makes of a record and prices (specification 11).
use Rattle.std.specs.Prelude.{cond, List, [], ◌∷◌, ◌++◌, map, ℕ, zero, suc, ◌+◌, ◌/◌, ◌%◌, ltb, ℤ, pos, negsuc, Some, None}
use Rattle.commitment.specs.Types.{Limit}
use Rattle.commitment.specs.Types.{Permit}
use Rattle.commitment.specs.declared.UnitRecord.{UnitRecord}
use Rattle.tabletext.specs.Bytes.{same}
use Rattle.tabletext.specs.Values.{none_word}
use Rattle.casetext.specs.Names.{block_name, pmin_name, pmax_name, mot_name, mdt_name, was_name, held_name, vec_name, mlc_name, suc_name}
use Rattle.casetext.specs.Names.{starts_name, hours_name, mwh_name, year_name, month_name, day_name, window_name, price_name, unit_names, dated_names}

-- fields joined by commas
abbrev pub joined : List (List ℕ) → List ℕ
joined [] = []
joined (field ∷ []) = field
joined (field ∷ next ∷ fields) = field ++ 44 ∷ joined (next ∷ fields)

-- lines, each closed by a line end
abbrev pub closing : List (List ℕ) → List ℕ
closing [] = []
closing (line ∷ lines) = line ++ 10 ∷ closing lines

-- the digits of a number in front of others, at most as many as the first argument says
abbrev pub digits_of : ℕ → ℕ → List ℕ → List ℕ
digits_of zero n others = others
digits_of (suc k) n others = cond (ltb n 10) ((48 + n) ∷ others) (digits_of k (n / 10) ((48 + n % 10) ∷ others))

-- a number of at most ten digits
abbrev pub shown_whole : ℕ → List ℕ
shown_whole n = digits_of 10 n []

abbrev pub shown_price : ℤ → List ℕ
shown_price (pos n) = shown_whole n
shown_price (negsuc n) = 45 ∷ shown_whole (suc n)

abbrev pub shown_limit : Limit → List ℕ
shown_limit None = none_word
shown_limit (Some n) = shown_whole n

-- of a date and its word, by the name
abbrev pub shown_dated : Permit → List ℕ → List ℕ
shown_dated None name = []
shown_dated (Some w) name =
    cond (same name year_name) (shown_whole w.date.year)
    (cond (same name month_name) (shown_whole w.date.month)
    (cond (same name day_name) (shown_whole w.date.day)
    (cond (same name window_name) (shown_whole w.word)
    [])))

-- a field of the record, by its name
abbrev pub shown_field : UnitRecord → List ℕ → List ℕ
shown_field u name =
    cond (same name block_name) (shown_whole u.generator.block)
    (cond (same name pmin_name) (shown_whole u.generator.pmin)
    (cond (same name pmax_name) (shown_whole u.generator.pmax)
    (cond (same name mot_name) (shown_whole u.generator.mot)
    (cond (same name mdt_name) (shown_whole u.generator.mdt)
    (cond (same name was_name) (shown_whole u.opening.was)
    (cond (same name held_name) (shown_whole u.opening.held)
    (cond (same name vec_name) (shown_whole u.costs.vec)
    (cond (same name mlc_name) (shown_whole u.costs.mlc)
    (cond (same name suc_name) (shown_whole u.costs.suc)
    (cond (same name starts_name) (shown_limit u.limits.starts)
    (cond (same name hours_name) (shown_limit u.limits.hours)
    (cond (same name mwh_name) (shown_limit u.limits.mwh)
    (shown_dated u.permit name)))))))))))))

-- the names that a record is written under: the thirteen, and with a date the four
abbrev pub dated_for : Permit → List (List ℕ)
dated_for None = []
dated_for (Some w) = dated_names

abbrev pub names_for : Permit → List (List ℕ)
names_for permit = unit_names ++ dated_for permit

-- the text of a case, its names in a sequence of the writer's own
unfoldable pub written : List (List ℕ) → UnitRecord → List ℤ → List ℕ
written names u prices = closing (joined names ∷ joined (map (shown_field u) names) ∷ [] ∷ price_name ∷ map shown_price prices)

-- The names of the two tables (specification 11). A name is added here by its letters and its line in a table, in `naming` by its line, and in
-- Reading by its field.
use Rattle.std.specs.Prelude.{List, [], ◌∷◌, ℕ}
use Rattle.lists.specs.Text.{bytes}

abbrev pub block_name : List ℕ
block_name = bytes "block"

abbrev pub pmin_name : List ℕ
pmin_name = bytes "pmin"

abbrev pub pmax_name : List ℕ
pmax_name = bytes "pmax"

abbrev pub mot_name : List ℕ
mot_name = bytes "mot"

abbrev pub mdt_name : List ℕ
mdt_name = bytes "mdt"

abbrev pub was_name : List ℕ
was_name = bytes "was"

abbrev pub held_name : List ℕ
held_name = bytes "held"

abbrev pub vec_name : List ℕ
vec_name = bytes "vec"

abbrev pub mlc_name : List ℕ
mlc_name = bytes "mlc"

abbrev pub suc_name : List ℕ
suc_name = bytes "suc"

abbrev pub starts_name : List ℕ
starts_name = bytes "starts"

abbrev pub hours_name : List ℕ
hours_name = bytes "hours"

abbrev pub mwh_name : List ℕ
mwh_name = bytes "mwh"

abbrev pub year_name : List ℕ
year_name = bytes "year"

abbrev pub month_name : List ℕ
month_name = bytes "month"

abbrev pub day_name : List ℕ
day_name = bytes "day"

abbrev pub window_name : List ℕ
window_name = bytes "window"

abbrev pub price_name : List ℕ
price_name = bytes "price"

-- ---- the names of each table: those that it must have, and groups of which it has all names or none, in any sequence

-- the unit's table has the thirteen
abbrev pub unit_names : List (List ℕ)
unit_names =
    block_name
    ∷ pmin_name
    ∷ pmax_name
    ∷ mot_name
    ∷ mdt_name
    ∷ was_name
    ∷ held_name
    ∷ vec_name
    ∷ mlc_name
    ∷ suc_name
    ∷ starts_name
    ∷ hours_name
    ∷ mwh_name
    ∷ []

-- those that a date and its permitted hours stand under
abbrev pub dated_names : List (List ℕ)
dated_names = year_name ∷ month_name ∷ day_name ∷ window_name ∷ []

-- a name that may be missing is a group of its own
abbrev pub unit_groups : List (List (List ℕ))
unit_groups = dated_names ∷ []

-- the second table has one
abbrev pub price_names : List (List ℕ)
price_names = price_name ∷ []

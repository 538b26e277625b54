-- The days before each month, and before the year's end, as the code has them in its two tables; which dates exist by them.
use Rattle.std.specs.Prelude.{Bool, true, false, ◌&&◌, List, [], ◌∷◌, ℕ, ◌-◌, leb, get_or}
use Rattle.calendar.specs.declared.Date.{Date}
use Rattle.calendar.specs.Dates.{leap}

abbrev pub table_before : Bool → List ℕ
table_before false = 0 ∷ 31 ∷ 59 ∷ 90 ∷ 120 ∷ 151 ∷ 181 ∷ 212 ∷ 243 ∷ 273 ∷ 304 ∷ 334 ∷ 365 ∷ []
table_before true = 0 ∷ 31 ∷ 60 ∷ 91 ∷ 121 ∷ 152 ∷ 182 ∷ 213 ∷ 244 ∷ 274 ∷ 305 ∷ 335 ∷ 366 ∷ []

abbrev pub days_by_table : ℕ → ℕ → ℕ
days_by_table year month = get_or (table_before (leap year)) month 0 - get_or (table_before (leap year)) (month - 1) 0

abbrev pub exists_by_table : Date → Bool
exists_by_table d = leb 1 d.month && leb d.month 12 && leb 1 d.day && leb d.day (days_by_table d.year d.month)

-- The case that a text holds (specification 11): the record, the prices, and the first cause for which the text is refused.
use Rattle.std.specs.Prelude.{cond, List, [], ◌∷◌, ◌++◌, map, ℕ, leb, ℤ, pos, negsuc, length, Some, None}
use Rattle.calendar.specs.declared.Date.{Date}
use Rattle.commitment.specs.declared.Cause.TheVariants.{Form, Name, Length}
use Rattle.commitment.specs.Types.{Checked}
use Rattle.commitment.specs.Types.{Limit}
use Rattle.commitment.specs.declared.Generator.{Generator}
use Rattle.commitment.specs.declared.Costs.{Costs}
use Rattle.commitment.specs.declared.Opening.{Opening}
use Rattle.commitment.specs.declared.Limits.{Limits}
use Rattle.commitment.specs.Types.{Permit}
use Rattle.commitment.specs.declared.Window.{Window}
use Rattle.commitment.specs.declared.UnitRecord.{UnitRecord}
use Rattle.commitment.specs.Causes.{Check, ◌else◌, first_of}
use Rattle.commitment.specs.Ranges.{prices_kept, case_checks, case_checked}
use Rattle.tabletext.specs.declared.Value.{Value}
use Rattle.tabletext.specs.declared.Value.TheVariants.{Malformed, WordNone, Number}
use Rattle.tabletext.specs.Pieces.{fields_of}
use Rattle.tabletext.specs.Tables.{standing, under}
use Rattle.casetext.specs.Form.{unit_head, unit_row, price_head, price_rows, form_kept, names_kept}
use Rattle.casetext.specs.Names.{block_name, pmin_name, pmax_name, mot_name, mdt_name, was_name, held_name}
use Rattle.casetext.specs.Names.{vec_name, mlc_name, suc_name, starts_name, hours_name, mwh_name}
use Rattle.casetext.specs.Names.{year_name, month_name, day_name, window_name, price_name}

-- A number that no range reaches, though ten digits come near. It stands for what a field cannot hold: a number below 0, or `none`
-- where it may not stand. So the check of the ranges refuses these too.
abbrev pub beyond : ℕ
beyond = 10000000000

abbrev pub natural_of : ℤ → ℕ
natural_of (pos n) = n
natural_of (negsuc n) = beyond

abbrev pub whole_of : Value → ℕ
whole_of Malformed = beyond
whole_of WordNone = beyond
whole_of (Number z) = natural_of z

abbrev pub limit_of : Value → Limit
limit_of Malformed = Some beyond
limit_of WordNone = None
limit_of (Number z) = Some (natural_of z)

abbrev pub cents_of : Value → ℤ
cents_of Malformed = pos beyond
cents_of WordNone = pos beyond
cents_of (Number z) = z

-- each field is the value under its name, group by group
module _ (names values : List (List ℕ)) where
  abbrev whole : List ℕ → ℕ
  whole name = whole_of (under name names values)

  abbrev limit : List ℕ → Limit
  limit name = limit_of (under name names values)

  abbrev pub generator_of : Generator
  generator_of = record { block = whole block_name; pmin = whole pmin_name; pmax = whole pmax_name; mot = whole mot_name; mdt = whole mdt_name }

  abbrev pub costs_of : Costs
  costs_of = record { vec = whole vec_name; mlc = whole mlc_name; suc = whole suc_name }

  abbrev pub opening_of : Opening
  opening_of = record { was = whole was_name; held = whole held_name }

  abbrev pub limits_of : Limits
  limits_of = record { starts = limit starts_name; hours = limit hours_name; mwh = limit mwh_name }

  abbrev pub date_of : Date
  date_of = record { year = whole year_name; month = whole month_name; day = whole day_name }

  abbrev pub window_of : Window
  window_of = record { date = date_of; word = whole window_name }

  -- the four names stand together or not at all, so that one of them tells
  abbrev pub permit_of : Permit
  permit_of = cond (standing 1 names year_name) (Some window_of) None

  abbrev pub unit_of : UnitRecord
  unit_of = record { generator = generator_of; costs = costs_of; opening = opening_of; limits = limits_of; permit = permit_of }

unfoldable pub unit_in : List ℕ → UnitRecord
unit_in text = unit_of (fields_of (unit_head text)) (fields_of (unit_row text))

abbrev pub price_of : List ℕ → List ℕ → ℤ
price_of head row = cents_of (under price_name (fields_of head) (fields_of row))

-- the prices in the order of their lines
unfoldable pub prices_in : List ℕ → List ℤ
prices_in text = map (price_of (price_head text)) (price_rows text)

-- ---- the causes: 1, 2 and those of the case, which the text alone decides; then 7 where the prices do not fit

unfoldable pub case_in : List ℕ → Checked
case_in text = case_checked (unit_in text) (prices_kept (prices_in text)) (length (prices_in text))

abbrev pub written_checks : List ℕ → List Check
written_checks text =
    (form_kept text else Form) ∷ (names_kept text else Name) ∷ case_checks (unit_in text) (prices_kept (prices_in text)) (length (prices_in text))

abbrev pub room_checks : List ℕ → ℕ → List Check
room_checks text room = (leb (length (prices_in text)) room else Length) ∷ []

abbrev pub text_checks : List ℕ → ℕ → List Check
text_checks text room = written_checks text ++ room_checks text room

unfoldable pub written_checked : List ℕ → Checked
written_checked text = first_of (written_checks text)

unfoldable pub text_checked : List ℕ → ℕ → Checked
text_checked text room = first_of (text_checks text room)

-- A text read as the figures written in it (specification 11): each field is the value under its name, and the prices are those of the lines in order.
use Rattle.std.specs.Prelude.{◌≡◌, List, [], ◌∷◌, ℕ, ◌<◌, ℤ, pos, length, get_or, Some, None}
use Rattle.commitment.specs.Types.{Limit}
use Rattle.commitment.specs.Types.{Permit}
use Rattle.commitment.specs.declared.Window.{Window}
use Rattle.commitment.specs.declared.UnitRecord.{UnitRecord}
use Rattle.tabletext.specs.declared.Value.{Value}
use Rattle.tabletext.specs.declared.Value.TheVariants.{WordNone, Number}
use Rattle.tabletext.specs.Pieces.{lines_of, fields_of}
use Rattle.tabletext.specs.Values.{value_of}
use Rattle.casetext.specs.Names.{block_name, pmin_name, pmax_name, mot_name, mdt_name, was_name, held_name, vec_name, mlc_name, suc_name}
use Rattle.casetext.specs.Names.{starts_name, hours_name, mwh_name, year_name, month_name, day_name, window_name, price_name}
use Rattle.casetext.specs.Form.{unit_head, unit_row, price_head, price_rows}

-- the value under its name: the name stands at one place of the line of names, and the value at that place of the line of values
pub record StandsUnder (names values : List (List ℕ)) (name : List ℕ) (value : Value) : Type 0 where
  pub place : ℕ
  pub within : place < length names
  pub named : get_or names place [] ≡ name
  pub holds : value_of (get_or values place []) ≡ value
  pub only : (i : ℕ) → i < length names → get_or names i [] ≡ name → i ≡ place

-- the value of a limitation, as it is written
abbrev pub limit_value : Limit → Value
limit_value None = WordNone
limit_value (Some n) = Number (pos n)

-- the name stands at no place of the line of names
abbrev pub StandsNowhere : List (List ℕ) → List ℕ → Type 0
StandsNowhere names name = (i : ℕ) → i < length names → get_or names i [] ≡ name → ⊥

pub record WindowWritten (names values : List (List ℕ)) (w : Window) : Type 0 where
  pub year : StandsUnder names values year_name (Number (pos w.date.year))
  pub month : StandsUnder names values month_name (Number (pos w.date.month))
  pub day : StandsUnder names values day_name (Number (pos w.date.day))
  pub window : StandsUnder names values window_name (Number (pos w.word))

pub record NoWindow (names : List (List ℕ)) : Type 0 where
  pub no-year : StandsNowhere names year_name
  pub no-month : StandsNowhere names month_name
  pub no-day : StandsNowhere names day_name
  pub no-window : StandsNowhere names window_name

-- a date and its word stand under their four names; where every hour is permitted, none of the four names is there
abbrev pub PermitWritten : List (List ℕ) → List (List ℕ) → Permit → Type 0
PermitWritten names values None = NoWindow names
PermitWritten names values (Some w) = WindowWritten names values w

pub record AsWritten (text : List ℕ) (u : UnitRecord) (prices : List ℤ) : Type 0 where
  pub lines : lines_of text ≡ unit_head text ∷ unit_row text ∷ [] ∷ price_head text ∷ price_rows text
  pub block : StandsUnder (fields_of (unit_head text)) (fields_of (unit_row text)) block_name (Number (pos u.generator.block))
  pub pmin : StandsUnder (fields_of (unit_head text)) (fields_of (unit_row text)) pmin_name (Number (pos u.generator.pmin))
  pub pmax : StandsUnder (fields_of (unit_head text)) (fields_of (unit_row text)) pmax_name (Number (pos u.generator.pmax))
  pub mot : StandsUnder (fields_of (unit_head text)) (fields_of (unit_row text)) mot_name (Number (pos u.generator.mot))
  pub mdt : StandsUnder (fields_of (unit_head text)) (fields_of (unit_row text)) mdt_name (Number (pos u.generator.mdt))
  pub was : StandsUnder (fields_of (unit_head text)) (fields_of (unit_row text)) was_name (Number (pos u.opening.was))
  pub held : StandsUnder (fields_of (unit_head text)) (fields_of (unit_row text)) held_name (Number (pos u.opening.held))
  pub vec : StandsUnder (fields_of (unit_head text)) (fields_of (unit_row text)) vec_name (Number (pos u.costs.vec))
  pub mlc : StandsUnder (fields_of (unit_head text)) (fields_of (unit_row text)) mlc_name (Number (pos u.costs.mlc))
  pub suc-cost : StandsUnder (fields_of (unit_head text)) (fields_of (unit_row text)) suc_name (Number (pos u.costs.suc))
  pub starts : StandsUnder (fields_of (unit_head text)) (fields_of (unit_row text)) starts_name (limit_value u.limits.starts)
  pub hours : StandsUnder (fields_of (unit_head text)) (fields_of (unit_row text)) hours_name (limit_value u.limits.hours)
  pub mwh : StandsUnder (fields_of (unit_head text)) (fields_of (unit_row text)) mwh_name (limit_value u.limits.mwh)
  pub permit : PermitWritten (fields_of (unit_head text)) (fields_of (unit_row text)) u.permit
  pub price-name : price_head text ≡ price_name
  pub one-a-line : length prices ≡ length (price_rows text)
  pub price : (i : ℕ) → i < length prices → value_of (get_or (price_rows text) i []) ≡ Number (get_or prices i (pos 0))

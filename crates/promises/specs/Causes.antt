-- The causes of each call in the order in which it gives them, each with when it holds of the call's inputs.
use Rattle.std.specs.Prelude.{◌≡◌, false, List, [], ◌∷◌, ◌++◌, ◌⊎◌, ℕ, suc, ◌-◌, ◌*◌, ◌≤◌, ◌<◌, ℤ, length, get_or, Some, None}
use Rattle.calendar.specs.declared.Date as calendar
use Rattle.calendar.specs.Dates.{days_in}
use Rattle.commitment.specs.declared.Cause.{Cause}
use Rattle.commitment.specs.declared.Cause.TheVariants.{Form, Name, Range, Levels, Shape, Date, Horizon, Segments, Length, Scratch, NoSchedule, NotKept}
use Rattle.costs.specs.declared.CostInputs.{CostInputs}
use Rattle.commitment.specs.Types.{Permit}
use Rattle.commitment.specs.declared.UnitRecord.{UnitRecord}
use Rattle.commitment.specs.Cells.{cells_needed}
use Rattle.costs.specs.Figures.{total_mw}
use Rattle.commitment.specs.Rivals.{Rival}
use Rattle.casetext.specs.Form.{form_kept, names_kept}
use Rattle.casefile.specs.Reading.{unit_in, prices_in}
use Rattle.costs.specs.Ranges.{range_mw}
use Rattle.curves.specs.declared.CurveInputs.{CurveInputs}
use Rattle.listing.specs.Types.{HourWord}
use Rattle.answers.specs.Sizes.{cell_room}
use Rattle.promises.specs.Ranges.{InRange, PricesInRange, case_figures, cost_ranges, curve_ranges, clock_ranges}

-- a cause of a call, and when it holds; a cause that is not in a call's list does not concern it
pub record Reason : Type 1 where
  pub cause : Cause
  pub Holds : Type 0

infix 3 ◌when◌
abbrev pub ◌when◌ : Cause → Type 0 → Reason
cause when Holds = record { cause = cause; Holds = Holds }

-- of several that hold the first in the list is given, whatever its number
abbrev pub FirstOf : List Reason → Cause → Type 0
FirstOf [] cause = ⊥
FirstOf (first ∷ later) cause = ((first.cause ≡ cause) × first.Holds) ⊎ ((first.Holds → ⊥) × FirstOf later cause)

-- none of them holds
abbrev pub NoneOf : List Reason → Type 0
NoneOf [] = Unit {0}
NoneOf (first ∷ later) = (first.Holds → ⊥) × NoneOf later

-- ---- a record and its prices

-- pmin over pmax, or pmax × block over 500
abbrev pub Misshapen : ℕ → ℕ → ℕ → Type 0
Misshapen block pmin pmax = (pmax < pmin) ⊎ (500 < pmax * block)

-- the day is none of those of its month
abbrev pub NoSuchDay : calendar.Date → Type 0
NoSuchDay d = (1 ≤ d.day) × (d.day ≤ days_in d.year d.month) → ⊥

abbrev pub NoSuchDate : Permit → Type 0
NoSuchDate None = ⊥
NoSuchDate (Some w) = NoSuchDay w.date

abbrev pub case_causes : UnitRecord → List ℤ → List Reason
case_causes u prices =
    (Range when (InRange (case_figures u) × PricesInRange prices → ⊥))
    ∷ (Shape when Misshapen u.generator.block u.generator.pmin u.generator.pmax)
    ∷ (Date when NoSuchDate u.permit)
    ∷ (Horizon when ((length prices ≡ 0) ⊎ (2976 < length prices)))
    ∷ []

-- ---- reading a text into a slice with room for so many prices

abbrev pub text_causes : List ℕ → List Reason
text_causes text = (Form when form_kept text ≡ false) ∷ (Name when names_kept text ≡ false) ∷ case_causes (unit_in text) (prices_in text)

abbrev pub reading_causes : List ℕ → ℕ → List Reason
reading_causes text room = text_causes text ++ (Length when room < length (prices_in text)) ∷ []

-- ---- cost figures

abbrev pub cost_causes : CostInputs → List ℕ → List ℕ → List Reason
cost_causes k mws heats =
    (Range when (InRange (cost_ranges k mws heats) → ⊥))
    ∷ (Shape when Misshapen k.block k.pmin k.pmax)
    ∷ (Segments when (total_mw mws ≡ range_mw k → ⊥))
    ∷ (Length when (length mws ≡ length heats → ⊥))
    ∷ []

-- ---- handing in a schedule

abbrev pub handed_causes : UnitRecord → List ℤ → List ℕ → List Reason
handed_causes u prices s =
    (Length when (length s ≡ length prices → ⊥)) ∷ (NotKept when (Rival u prices s → ⊥)) ∷ []

abbrev pub hand_in_causes : UnitRecord → List ℤ → List ℕ → List Reason
hand_in_causes u prices s = case_causes u prices ++ handed_causes u prices s

-- ---- planning and reporting, with so many cells of scratch and so many entries of the schedule slice; valuing takes no such slice

abbrev pub NoRival : UnitRecord → List ℤ → Type 0
NoRival u prices = (rival : List ℕ) → Rival u prices rival → ⊥

abbrev pub table_causes : UnitRecord → List ℤ → ℕ → List Reason
table_causes u prices cells = (Scratch when cells < cells_needed u (length prices)) ∷ (NoSchedule when NoRival u prices) ∷ []

abbrev pub slices_causes : UnitRecord → List ℤ → ℕ → ℕ → List Reason
slices_causes u prices cells entries = (Length when entries < length prices) ∷ table_causes u prices cells

abbrev pub planning_causes : UnitRecord → List ℤ → ℕ → ℕ → List Reason
planning_causes u prices cells entries = case_causes u prices ++ slices_causes u prices cells entries

abbrev pub valuing_causes : UnitRecord → List ℤ → ℕ → List Reason
valuing_causes u prices cells = case_causes u prices ++ table_causes u prices cells

-- ---- answering a text, with the program's cells

abbrev pub answering_causes : List ℕ → List Reason
answering_causes text = text_causes text ++ table_causes (unit_in text) (prices_in text) cell_room

-- ---- the clock hour of an interval from a date's midnight on

abbrev pub clock_causes : calendar.Date → ℕ → List Reason
clock_causes d interval = (Range when (InRange (clock_ranges d interval) → ⊥)) ∷ (Date when NoSuchDay d) ∷ []

-- ---- a bid curve, into lists that have room for so many segments

-- a level is not above the one before it
abbrev pub NotRising : List ℕ → Type 0
NotRising levels = (i : ℕ) × (suc i < length levels) × (get_or levels (suc i) 0 ≤ get_or levels i 0)

abbrev pub curve_causes : CurveInputs → List ℕ → List ℕ → ℕ → List Reason
curve_causes k levels rates room =
    (Range when (InRange (curve_ranges k levels rates) → ⊥))
    ∷ (Levels when NotRising levels)
    ∷ (Length when ((length levels ≡ length rates → ⊥) ⊎ (room < length levels - 1)))
    ∷ []

-- ---- the listing of a plan, and the line of a refusal, into a buffer of so many bytes

-- a word of more than 24 bits
abbrev pub WordTooLarge : HourWord → Type 0
WordTooLarge None = ⊥
WordTooLarge (Some word) = 16777215 < word

abbrev pub listing_causes : List ℕ → HourWord → ℕ → List Reason
listing_causes lines word room = (Range when WordTooLarge word) ∷ (Length when room < length lines) ∷ []

abbrev pub line_causes : List ℕ → ℕ → List Reason
line_causes line room = (Length when room < length line) ∷ []

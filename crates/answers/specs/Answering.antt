-- The answer to the text of a case (specification 12, 14, 15): what is found of it, the lines printed, and the number and the bytes answered.
use Rattle.std.specs.Prelude.{List, ◌∷◌, ◌++◌, ℕ, leb, ℤ, length, Some, None, Ok, Err}
use Rattle.commitment.specs.declared.Cause.TheVariants.{Scratch}
use Rattle.commitment.specs.Types.{Checked}
use Rattle.commitment.specs.Types.{Permit}
use Rattle.commitment.specs.declared.UnitRecord.{UnitRecord}
use Rattle.commitment.specs.Best.{best}
use Rattle.commitment.specs.Causes.{number_of, Check, ◌else◌, first_of, answered_number}
use Rattle.commitment.specs.Cells.{cells_needed}
use Rattle.commitment.specs.Valuing.{outcomes_of}
use Rattle.casefile.specs.Reading.{unit_in, prices_in, written_checks}
use Rattle.listing.specs.Types.{HourWord}
use Rattle.listing.specs.Types.{Written}
use Rattle.listing.specs.Listing.{listing, refusal, fitted, written_by, bytes_in}
use Rattle.planner.specs.Types.{Reported}
use Rattle.planner.specs.Planning.{schedule_checks, planned_part}
use Rattle.planner.specs.Reporting.{reported_by}
use Rattle.answers.specs.declared.Answered.{Answered}
use Rattle.answers.specs.Sizes.{cell_room}

-- ---- the causes: those of the text, then 8 and 9 of its case with the program's cells

abbrev pub answer_checks : List ℕ → List Check
answer_checks text =
    written_checks text
    ++ ((leb (cells_needed (unit_in text) (length (prices_in text))) cell_room else Scratch) ∷ schedule_checks (unit_in text) (prices_in text))

unfoldable pub all_found : List ℕ → Checked
all_found text = first_of (answer_checks text)

-- ---- the lines and the answer, by what was found of a case

abbrev pub report_for : Checked → UnitRecord → List ℤ → Reported
report_for found u prices = reported_by found (best u prices) (outcomes_of u prices)

-- the hour word of a permit that has one
abbrev pub word_of : Permit → HourWord
word_of None = None
word_of (Some w) = Some w.word

-- a report and the outputs planned: their listing; a refusal: its line
abbrev pub report_printed : HourWord → Reported → List ℕ → List ℕ
report_printed word (Ok report) outputs = listing outputs report.profit report.outcomes word
report_printed word (Err cause) outputs = refusal (number_of cause)

abbrev pub printed_for : Checked → UnitRecord → List ℤ → List ℕ
printed_for found u prices = report_printed (word_of u.permit) (report_for found u prices) (planned_part found (best u prices))

-- a plan has the number of writing its listing: 0, or 7 where it does not fit; a refusal has its own, whether its line fits or not
abbrev pub answered_by : Reported → Written → Answered
answered_by (Ok report) written = record { number = answered_number written; bytes = bytes_in written }
answered_by (Err cause) written = record { number = number_of cause; bytes = bytes_in written }

abbrev pub answered_for : Checked → UnitRecord → List ℤ → ℕ → Answered
answered_for found u prices room = answered_by (report_for found u prices) (written_by (fitted (length (printed_for found u prices)) room))

-- ---- of a text, and a buffer of so many bytes

abbrev pub report_on : List ℕ → Reported
report_on text = report_for (all_found text) (unit_in text) (prices_in text)

unfoldable pub printed : List ℕ → List ℕ
printed text = printed_for (all_found text) (unit_in text) (prices_in text)

unfoldable pub answered : List ℕ → ℕ → Answered
answered text room = answered_for (all_found text) (unit_in text) (prices_in text) room

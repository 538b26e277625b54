-- The answers of the calls in numbers (specification 16): that of the cause, or 0, and the values; on a refusal every other number is 0, and
-- limitations and outcomes are none.
use Rattle.std.specs.Prelude.{ℕ, Ok, Err}
use Rattle.assessment.specs.Types.{Assessed}
use Rattle.assessment.specs.Assessed.{assessed_profit}
use Rattle.casefile.specs.Types.{CaseRead, case_with}
use Rattle.commitment.specs.Types.{Checked}
use Rattle.checking.specs.Types.{ClockRead}
use Rattle.checking.specs.Clock.{hour_in}
use Rattle.commitment.specs.Causes.{number_of, answered_number}
use Rattle.costs.specs.Types.{Costed}
use Rattle.costs.specs.Answers.{costed_vec, costed_suc, costed_mlc}
use Rattle.curves.specs.Types.{Curved}
use Rattle.curves.specs.Answers.{curved_count}
use Rattle.listing.specs.Types.{Written}
use Rattle.listing.specs.Listing.{bytes_in}
use Rattle.planner.specs.Types.{Planned}
use Rattle.planner.specs.Types.{Reported}
use Rattle.planner.specs.Types.{Valued}
use Rattle.planner.specs.Planning.{planned_count, planned_profit}
use Rattle.planner.specs.Reporting.{reported_count, reported_profit, reported_outcomes}
use Rattle.planner.specs.Valuing.{valued_outcomes}
use Rattle.exports.specs.declared.numbers.AssessNumbers.{AssessNumbers}
use Rattle.exports.specs.declared.numbers.CaseNumbers.{CaseNumbers}
use Rattle.exports.specs.declared.numbers.CellsNumbers.{CellsNumbers}
use Rattle.exports.specs.declared.numbers.ClockNumbers.{ClockNumbers}
use Rattle.exports.specs.declared.numbers.CurveNumbers.{CurveNumbers}
use Rattle.exports.specs.declared.numbers.FiguresNumbers.{FiguresNumbers}
use Rattle.exports.specs.declared.numbers.HoursNumbers.{HoursNumbers}
use Rattle.exports.specs.declared.numbers.PlanNumbers.{PlanNumbers}
use Rattle.exports.specs.declared.numbers.ReportNumbers.{ReportNumbers}
use Rattle.exports.specs.declared.numbers.ValueNumbers.{ValueNumbers}
use Rattle.exports.specs.declared.numbers.WrittenNumbers.{WrittenNumbers}
use Rattle.exports.specs.Records.{unit_numbers, no_numbers, outcomes_numbers}

abbrev pub case_numbers : CaseRead → CaseNumbers
case_numbers (Ok case) = record { number = 0; count = case.count; unit = unit_numbers case.unit }
case_numbers (Err cause) = record { number = number_of cause; count = 0; unit = no_numbers }

abbrev pub figures_numbers : Costed → FiguresNumbers
figures_numbers answer =
    record { number = answered_number answer; vec = costed_vec answer; suc = costed_suc answer; mlc = costed_mlc answer }

abbrev pub curve_numbers : Curved → CurveNumbers
curve_numbers answer = record { number = answered_number answer; count = curved_count answer }

abbrev pub assess_numbers : Assessed → AssessNumbers
assess_numbers answer = record { number = answered_number answer; profit = assessed_profit answer }

abbrev pub plan_numbers : Planned → PlanNumbers
plan_numbers answer =
    record { number = answered_number answer; count = planned_count answer; profit = planned_profit answer }

abbrev pub value_numbers : Valued → ValueNumbers
value_numbers answer = record { number = answered_number answer; outcomes = outcomes_numbers (valued_outcomes answer) }

abbrev pub report_numbers : Reported → ReportNumbers
report_numbers answer =
    record {
      number = answered_number answer;
      count = reported_count answer;
      profit = reported_profit answer;
      outcomes = outcomes_numbers (reported_outcomes answer);
    }

abbrev pub clock_numbers : ClockRead → ClockNumbers
clock_numbers answer = record { number = answered_number answer; hour = hour_in answer }

-- ---- the clock hours of a slice of so many entries, where the check of its date and intervals passes

abbrev pub hours_numbers : Checked → ℕ → HoursNumbers
hours_numbers (Ok _) entries = record { number = 0; count = entries }
hours_numbers (Err cause) entries = record { number = number_of cause; count = 0 }

-- ---- the cells that a case of so many intervals needs, and those of its long table, where its check passes

abbrev pub cells_numbers : Checked → ℕ → ℕ → CellsNumbers
cells_numbers (Ok _) needed long = record { number = 0; needed = needed; table = long }
cells_numbers (Err cause) needed long = record { number = number_of cause; needed = 0; table = 0 }

-- ---- a text written into a buffer

abbrev pub written_numbers : Written → WrittenNumbers
written_numbers answer = record { number = answered_number answer; bytes = bytes_in answer }

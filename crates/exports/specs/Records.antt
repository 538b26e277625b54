-- The unit record and the outcomes in numbers (specification 16).
use Rattle.std.specs.Prelude.{cond, ◌&&◌, ℕ, eqb, ℤ, pos, Some, None}
use Rattle.commitment.specs.Types.{Limit}
use Rattle.commitment.specs.declared.Outcome.{Outcome}
use Rattle.commitment.specs.declared.Outcome.TheVariants as outcome
use Rattle.commitment.specs.declared.Outcomes.{Outcomes}
use Rattle.calendar.specs.declared.Date.{Date}
use Rattle.calendar.specs.Dates.{date}
use Rattle.commitment.specs.Types.{Permit}
use Rattle.commitment.specs.declared.Window.{Window}
use Rattle.commitment.specs.declared.UnitRecord.{UnitRecord}
use Rattle.listing.specs.Types.{HourWord}
use Rattle.exports.specs.declared.numbers.UnitNumbers.{UnitNumbers}
use Rattle.exports.specs.declared.numbers.OutcomeNumbers.{OutcomeNumbers}
use Rattle.exports.specs.declared.numbers.OutcomesNumbers.{OutcomesNumbers}

-- ---- limitations: `none` is the largest number of 64 bits

abbrev pub none : ℕ
none = 18446744073709551615

abbrev pub limit_from : ℕ → Limit
limit_from number = cond (eqb number none) None (Some number)

abbrev pub limit_number : Limit → ℕ
limit_number None = none
limit_number (Some number) = number

-- ---- the permit: all four at `none` is without a date and word; some of them are beyond the ranges

abbrev pub permit_from : Date → ℕ → Permit
permit_from d word =
    cond (eqb d.year none && eqb d.month none && eqb d.day none && eqb word none) None (Some (record { date = d; word = word }))

abbrev pub window_numbers : Permit → Window
window_numbers None = record { date = date none none none; word = none }
window_numbers (Some w) = w

abbrev pub word_from : ℕ → HourWord
word_from word = cond (eqb word none) None (Some word)

-- ---- the record

abbrev pub record_of : UnitNumbers → UnitRecord
record_of u =
    record {
      generator = record { block = u.block; pmin = u.pmin; pmax = u.pmax; mot = u.mot; mdt = u.mdt };
      costs = record { vec = u.vec; mlc = u.mlc; suc = u.suc };
      opening = record { was = u.was; held = u.held };
      limits = record { starts = limit_from u.starts; hours = limit_from u.hours; mwh = limit_from u.mwh };
      permit = permit_from (date u.year u.month u.day) u.window;
    }

abbrev pub unit_numbers : UnitRecord → UnitNumbers
unit_numbers u =
    record {
      block = u.generator.block;
      pmin = u.generator.pmin;
      pmax = u.generator.pmax;
      mot = u.generator.mot;
      mdt = u.generator.mdt;
      was = u.opening.was;
      held = u.opening.held;
      vec = u.costs.vec;
      mlc = u.costs.mlc;
      suc = u.costs.suc;
      starts = limit_number u.limits.starts;
      hours = limit_number u.limits.hours;
      mwh = limit_number u.limits.mwh;
      year = (window_numbers u.permit).date.year;
      month = (window_numbers u.permit).date.month;
      day = (window_numbers u.permit).date.day;
      window = (window_numbers u.permit).word;
    }

-- of a text that is refused: the limitations none, every other figure 0
abbrev pub no_numbers : UnitNumbers
no_numbers =
    record {
      block = 0;
      pmin = 0;
      pmax = 0;
      mot = 0;
      mdt = 0;
      was = 0;
      held = 0;
      vec = 0;
      mlc = 0;
      suc = 0;
      starts = none;
      hours = none;
      mwh = none;
      year = 0;
      month = 0;
      day = 0;
      window = 0;
    }

-- ---- outcomes: 0 none, 1 empty, 2 never, 3 a gap

abbrev pub outcome_numbers : Outcome → OutcomeNumbers
outcome_numbers outcome.None = record { kind = 0; gap = pos 0 }
outcome_numbers outcome.Empty = record { kind = 1; gap = pos 0 }
outcome_numbers outcome.Never = record { kind = 2; gap = pos 0 }
outcome_numbers (outcome.Gap gap) = record { kind = 3; gap = gap }

-- any other kind is none
abbrev pub outcome_from : ℕ → ℤ → Outcome
outcome_from kind gap =
    cond (eqb kind 1) outcome.Empty (cond (eqb kind 2) outcome.Never (cond (eqb kind 3) (outcome.Gap gap) outcome.None))

abbrev pub outcomes_numbers : Outcomes → OutcomesNumbers
outcomes_numbers o =
    record { starts = outcome_numbers o.starts; hours = outcome_numbers o.hours; mwh = outcome_numbers o.mwh }

abbrev pub outcomes_from : OutcomesNumbers → Outcomes
outcomes_from o =
    record {
      starts = outcome_from o.starts.kind o.starts.gap;
      hours = outcome_from o.hours.kind o.hours.gap;
      mwh = outcome_from o.mwh.kind o.mwh.gap;
    }

-- Each figure of the C record and each kind of outcome through one example, there and back: a figure in another's place would show.
use Rattle.std.specs.Prelude.{Some}
use mathlib.Core.Path.{◌≡◌, refl}
use mathlib.Core.List.{List, [], ◌∷◌, map}
use lib.IntN.{pos, negsuc}
use Rattle.calendar.specs.Dates.{date}
use Rattle.commitment.specs.declared.Outcome.{Outcome}
use Rattle.commitment.specs.declared.Outcome.TheVariants as outcome
use Rattle.commitment.specs.declared.Outcomes.{Outcomes}
use Rattle.commitment.specs.declared.UnitRecord.{UnitRecord}
use Rattle.exports.specs.declared.numbers.OutcomeNumbers.{OutcomeNumbers}
use Rattle.exports.specs.declared.numbers.OutcomesNumbers.{OutcomesNumbers}
use Rattle.exports.specs.declared.numbers.UnitNumbers.{UnitNumbers}
use Rattle.exports.specs.Records.{none, record_of, unit_numbers, outcome_numbers, outcome_from, outcomes_from, outcomes_numbers}

-- the figures of a case with a date, 1 to 17 in the order of the C struct
abbrev dated : UnitNumbers
dated =
    record {
      block = 1;
      pmin = 2;
      pmax = 3;
      mot = 4;
      mdt = 5;
      was = 6;
      held = 7;
      vec = 8;
      mlc = 9;
      suc = 10;
      starts = 11;
      hours = 12;
      mwh = 13;
      year = 14;
      month = 15;
      day = 16;
      window = 17;
    }

abbrev unit : UnitRecord
unit =
    record {
      generator = record { block = 1; pmin = 2; pmax = 3; mot = 4; mdt = 5 };
      costs = record { vec = 8; mlc = 9; suc = 10 };
      opening = record { was = 6; held = 7 };
      limits = record { starts = Some 11; hours = Some 12; mwh = Some 13 };
      permit = Some (record { date = date 14 15 16; word = 17 });
    }

record-there-and-back : (record_of dated ≡ unit) × (unit_numbers unit ≡ dated)
record-there-and-back = (refl, refl)

-- kinds: 0 none, 1 empty, 2 never, 3 a gap
abbrev kinds : List OutcomeNumbers
kinds =
    record { kind = 0; gap = pos 0 }
    ∷ record { kind = 1; gap = pos 0 }
    ∷ record { kind = 2; gap = pos 0 }
    ∷ record { kind = 3; gap = negsuc 4 }
    ∷ []

abbrev outcomes : List Outcome
outcomes = outcome.None ∷ outcome.Empty ∷ outcome.Never ∷ outcome.Gap (negsuc 4) ∷ []

outcomes-there-and-back :
    (map outcome_numbers outcomes ≡ kinds) × (map (λ (o : OutcomeNumbers). outcome_from o.kind o.gap) kinds ≡ outcomes)
outcomes-there-and-back = (refl, refl)

-- the three limitations' outcomes, each in its place
abbrev three : OutcomesNumbers
three = record { starts = record { kind = 1; gap = pos 0 }; hours = record { kind = 2; gap = pos 0 }; mwh = record { kind = 3; gap = pos 5 } }

abbrev said : Outcomes
said = record { starts = outcome.Empty; hours = outcome.Never; mwh = outcome.Gap (pos 5) }

three-there-and-back : (outcomes_from three ≡ said) × (outcomes_numbers said ≡ three)
three-there-and-back = (refl, refl)

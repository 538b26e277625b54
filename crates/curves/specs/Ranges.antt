-- The ranges of the inputs of a bid curve (specification 21), and the check of them before anything is worked out.
use Rattle.std.specs.Prelude.{Bool, true, ◌&&◌, List, [], ◌∷◌, ℕ, ◌-◌, leb, ltb, eqb, length}
use Rattle.lists.specs.Every.{every}
use Rattle.commitment.specs.declared.Cause.TheVariants.{Range, Levels, Length}
use Rattle.commitment.specs.Types.{Checked}
use Rattle.commitment.specs.Bounds.{most_mw}
use Rattle.commitment.specs.Causes.{Check, ◌else◌, first_of}
use Rattle.costs.specs.Bounds.{most_tariff, most_heat}
use Rattle.costs.specs.Ranges.{one_to}
use Rattle.curves.specs.declared.CurveInputs.{CurveInputs}
use Rattle.curves.specs.Bounds.{fewest_points, most_points, most_bid_adder}

-- gas, om and gmc, each 0 to 10,000, and an adder of 0 to 1,000,000 cents
abbrev pub inputs_kept : CurveInputs → Bool
inputs_kept k = leb k.gas most_tariff && leb k.om most_tariff && leb k.gmc most_tariff && leb k.adder most_bid_adder

-- 2 to 11 points: the count of either list
abbrev pub count_kept : ℕ → Bool
count_kept n = leb fewest_points n && leb n most_points

-- levels of 1 to 500 MW and rates of 1 to 50,000
unfoldable pub points_kept : List ℕ → List ℕ → Bool
points_kept levels rates =
    (count_kept (length levels) && count_kept (length rates)) && every (one_to most_mw) levels && every (one_to most_heat) rates

-- levels that rise strictly, from one on
abbrev pub rising_from : ℕ → List ℕ → Bool
rising_from level [] = true
rising_from level (next ∷ levels) = ltb level next && rising_from next levels

abbrev pub rising : List ℕ → Bool
rising [] = true
rising (level ∷ levels) = rising_from level levels

-- lists of the same length, and room for the points less one
abbrev pub lengths_kept : List ℕ → List ℕ → ℕ → Bool
lengths_kept levels rates room = eqb (length levels) (length rates) && leb (length levels - 1) room

-- ---- the causes: 3, 11, 7, each check with those after it

abbrev pub length_checks : List ℕ → List ℕ → ℕ → List Check
length_checks levels rates room = (lengths_kept levels rates room else Length) ∷ []

abbrev pub level_checks : List ℕ → List ℕ → ℕ → List Check
level_checks levels rates room = (rising levels else Levels) ∷ length_checks levels rates room

abbrev pub curve_checks : CurveInputs → List ℕ → List ℕ → ℕ → List Check
curve_checks k levels rates room = (inputs_kept k && points_kept levels rates else Range) ∷ level_checks levels rates room

unfoldable pub curve_checked : CurveInputs → List ℕ → List ℕ → ℕ → Checked
curve_checked k levels rates room = first_of (curve_checks k levels rates room)

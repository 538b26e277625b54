-- The ranges of the inputs of the cost figures, and the check of them before anything is worked out (specification 10).
use Rattle.std.specs.Prelude.{◌≡◌, Bool, true, ◌&&◌, List, [], ◌∷◌, ℕ, ◌-◌, ◌*◌, leb, eqb, length}
use Rattle.costs.specs.declared.CostInputs.{CostInputs}
use Rattle.commitment.specs.declared.Cause.TheVariants.{Range, Shape, Segments, Length}
use Rattle.commitment.specs.Types.{Checked}
use Rattle.commitment.specs.Causes.{Check, ◌else◌, first_of}
use Rattle.lists.specs.Every.{every}
use Rattle.commitment.specs.Bounds.{most_mw, most_blocks}
use Rattle.costs.specs.Figures.{total_mw}
use Rattle.costs.specs.Bounds.{most_tariff, most_rate, most_heat, most_segments, most_fuel, most_aux, most_minutes, most_adder}

-- a number from 1 to the most
abbrev pub one_to : ℕ → ℕ → Bool
one_to most n = leb 1 n && leb n most

-- ---- the inputs but for the segments, in four groups

-- block, pmin and pmax, 1 to 500
abbrev pub sizes_kept : CostInputs → Bool
sizes_kept k = one_to most_mw k.block && one_to most_blocks k.pmin && one_to most_blocks k.pmax

-- gas, transport, allowance price, om and gmc, each 0 to 10,000
abbrev pub tariffs_kept : CostInputs → Bool
tariffs_kept k =
    leb k.gas most_tariff && leb k.transport most_tariff && leb k.allowance most_tariff && leb k.om most_tariff && leb k.gmc most_tariff

-- rate, 0 to 1,000,000, and heat rate at pmin, 1 to 50,000
abbrev pub rates_kept : CostInputs → Bool
rates_kept k = leb k.rate most_rate && one_to most_heat k.min_heat

-- start fuel, aux and start minutes, and the maintenance adders
abbrev pub start_kept : CostInputs → Bool
start_kept k =
    leb k.fuel most_fuel && leb k.aux most_aux && leb k.minutes most_minutes && leb k.start_adder most_adder && leb k.load_adder most_adder

unfoldable pub inputs_kept : CostInputs → Bool
inputs_kept k = sizes_kept k && tariffs_kept k && rates_kept k && start_kept k

-- ---- the segments

-- 0 to 10 segments: the count of either list
abbrev pub count_kept : ℕ → Bool
count_kept n = leb n most_segments

-- each MW 1 to 500 and heat rate 1 to 50,000
unfoldable pub segments_kept : List ℕ → List ℕ → Bool
segments_kept mws heats =
    count_kept (length mws) && count_kept (length heats) && every (one_to most_mw) mws && every (one_to most_heat) heats

-- ---- what the inputs have to do with each other

-- pmin is at most pmax, and pmax × block at most 500
abbrev pub outputs_kept : CostInputs → Bool
outputs_kept k = leb k.pmin k.pmax && leb (k.pmax * k.block) most_mw

-- segment MW add up to (pmax − pmin) × block
abbrev pub range_mw : CostInputs → ℕ
range_mw k = (k.pmax - k.pmin) * k.block

-- ---- the causes: 3, 4, 6, 7, each check with those after it

abbrev pub length_checks : ℕ → ℕ → List Check
length_checks mws heats = (eqb mws heats else Length) ∷ []

abbrev pub total_checks : CostInputs → List ℕ → List ℕ → List Check
total_checks k mws heats = (eqb (total_mw mws) (range_mw k) else Segments) ∷ length_checks (length mws) (length heats)

abbrev pub output_checks : CostInputs → List ℕ → List ℕ → List Check
output_checks k mws heats = (outputs_kept k else Shape) ∷ total_checks k mws heats

abbrev pub inputs_checks : CostInputs → List ℕ → List ℕ → List Check
inputs_checks k mws heats = (inputs_kept k && segments_kept mws heats else Range) ∷ output_checks k mws heats

unfoldable pub inputs_checked : CostInputs → List ℕ → List ℕ → Checked
inputs_checked k mws heats = first_of (inputs_checks k mws heats)

-- inputs and segments in their ranges
pub record Ranged (k : CostInputs) (mws heats : List ℕ) : Type 0 where
  pub inputs : inputs_kept k ≡ true
  pub segments : segments_kept mws heats ≡ true

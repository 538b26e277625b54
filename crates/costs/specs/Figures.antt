-- The cost figures of a gas-fired unit (specification 10): formulas (1), (2) and (3), each an exact fraction rounded once to whole cents.
use Rattle.std.specs.Prelude.{List, [], ◌∷◌, ℕ, ◌+◌, ◌*◌}
use Rattle.costs.specs.declared.CostInputs.{CostInputs}
use Rattle.rounding.specs.Fractions.{Fraction, ◌over◌, ◌plus◌, ◌times◌, whole}
use Rattle.rounding.specs.Rounding.{rounded}

-- the output at minimum load, in MW
abbrev pub pmin_mw : CostInputs → ℕ
pmin_mw k = k.pmin * k.block

-- gas and transport, cents per MMBtu
abbrev pub fuel_price : CostInputs → ℕ
fuel_price k = k.gas + k.transport

-- heat rates are in thousandths, rates of allowances in ten-millionths
abbrev pub heat_units : ℕ
heat_units = 1000

abbrev pub rate_units : ℕ
rate_units = 10000000

-- allowance × rate / 10,000,000: the allowances' cost, cents per MMBtu
abbrev pub allowance_cost : CostInputs → Fraction
allowance_cost k = (k.allowance * k.rate) over rate_units

-- ---- (1) vec: the MW-weighted mean over segments of heat rate / 1000 × (gas + transport + allowance × rate / 10,000,000) + om

abbrev pub segment_cost : CostInputs → ℕ → Fraction
segment_cost k heat = heat over heat_units times (whole (fuel_price k) plus allowance_cost k) plus whole k.om

abbrev pub total_mw : List ℕ → ℕ
total_mw [] = 0
total_mw (mw ∷ mws) = mw + total_mw mws

abbrev pub weighted_cost : CostInputs → List ℕ → List ℕ → Fraction
weighted_cost k [] heats = whole 0
weighted_cost k (mw ∷ mws) [] = whole 0
weighted_cost k (mw ∷ mws) (heat ∷ heats) = whole mw times segment_cost k heat plus weighted_cost k mws heats

-- the fraction of (1); with no segments it is 0
abbrev pub vec_fraction : CostInputs → List ℕ → List ℕ → Fraction
vec_fraction k [] heats = whole 0
vec_fraction k (mw ∷ mws) heats = weighted_cost k (mw ∷ mws) heats times 1 over total_mw (mw ∷ mws)

-- ---- (2) suc: fuel × (gas + transport) + aux × 10 × gas + fuel × allowance × rate / 10,000,000 + start adder + Pmin MW × minutes / 60 × gmc / 2

abbrev pub suc_fraction : CostInputs → Fraction
suc_fraction k =
    whole (k.fuel * fuel_price k) plus whole (k.aux * 10 * k.gas) plus whole k.fuel times allowance_cost k plus whole k.start_adder
    plus (pmin_mw k * k.minutes) over 60 times k.gmc over 2

-- ---- (3) mlc: heat rate × Pmin MW × (gas + transport) / 1000 + allowance × rate / 10,000,000 × heat rate / 1000 × Pmin MW + om × Pmin MW
-- + load adder + gmc × Pmin MW

-- the appendix prints this term without Pmin MW, the guide to bid generation multiplies by it: the guide is followed
abbrev pub allowance_at_minimum : CostInputs → Fraction
allowance_at_minimum k = allowance_cost k times k.min_heat over heat_units times whole (pmin_mw k)

abbrev pub mlc_fraction : CostInputs → Fraction
mlc_fraction k =
    (k.min_heat * pmin_mw k * fuel_price k) over heat_units plus allowance_at_minimum k plus whole (k.om * pmin_mw k) plus whole k.load_adder
    plus whole (k.gmc * pmin_mw k)

-- ---- the figures, in whole cents

abbrev pub vec_of : CostInputs → List ℕ → List ℕ → ℕ
vec_of k mws heats = rounded (vec_fraction k mws heats)

abbrev pub suc_of : CostInputs → ℕ
suc_of k = rounded (suc_fraction k)

abbrev pub mlc_of : CostInputs → ℕ
mlc_of k = rounded (mlc_fraction k)

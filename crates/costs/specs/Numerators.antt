-- What the code adds up before it rounds: each figure as a whole number of small parts of a cent.
use Rattle.std.specs.Prelude.{List, [], ◌∷◌, ℕ, ◌+◌, ◌*◌}
use Rattle.costs.specs.declared.CostInputs.{CostInputs}
use Rattle.costs.specs.Figures.{pmin_mw, fuel_price, heat_units, rate_units}

-- the parts of a cent: of (1) and (3), whose heat rates are in thousandths and allowances in ten-millionths; and of (2)
abbrev pub units : ℕ
units = heat_units * rate_units

abbrev pub start_units : ℕ
start_units = 120 * rate_units

-- ---- (1)

-- gas, transport and allowances, in ten-millionths of a cent per MMBtu
abbrev pub heat_price : CostInputs → ℕ
heat_price k = fuel_price k * rate_units + k.allowance * k.rate

abbrev pub segment_units : ℕ → ℕ → ℕ → ℕ
segment_units price om heat = heat * price + om * units

-- the sum over the segments, each times its MW
abbrev pub weighted_units : ℕ → ℕ → List ℕ → List ℕ → ℕ
weighted_units price om [] heats = 0
weighted_units price om (mw ∷ mws) [] = 0
weighted_units price om (mw ∷ mws) (heat ∷ heats) = mw * segment_units price om heat + weighted_units price om mws heats

-- ---- (2)

abbrev pub suc_units : CostInputs → ℕ
suc_units k =
    (k.fuel * fuel_price k + k.aux * 10 * k.gas + k.start_adder) * start_units + k.fuel * (k.allowance * k.rate) * 120
    + pmin_mw k * k.minutes * k.gmc * rate_units

-- ---- (3)

abbrev pub mlc_units : CostInputs → ℕ
mlc_units k =
    k.min_heat * pmin_mw k * fuel_price k * rate_units + k.allowance * k.rate * k.min_heat * pmin_mw k
    + (k.om * pmin_mw k + k.load_adder + k.gmc * pmin_mw k) * units

-- The ends of the ranges of the inputs that the unit record does not have (specification 10), each by its name. MW and blocks end as in the record.
use Rattle.std.specs.Prelude.{ℕ}

-- gas, transport and allowance price, om and gmc
abbrev pub most_tariff : ℕ
most_tariff = 10000

-- allowance tonnes per MMBtu, times 10,000,000
abbrev pub most_rate : ℕ
most_rate = 1000000

-- heat rates, Btu per kWh
abbrev pub most_heat : ℕ
most_heat = 50000

abbrev pub most_segments : ℕ
most_segments = 10

-- ---- a start: fuel, auxiliary energy, minutes

abbrev pub most_fuel : ℕ
most_fuel = 100000

abbrev pub most_aux : ℕ
most_aux = 1000

abbrev pub most_minutes : ℕ
most_minutes = 1440

-- the maintenance adders, cents
abbrev pub most_adder : ℕ
most_adder = 10000000

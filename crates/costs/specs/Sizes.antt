-- How large the products of the code get where every input is in its range: each fits an unsigned 64-bit number, and so do their sums.
use Rattle.std.specs.Prelude.{◌+◌, ◌*◌, ◌≤◌}
use Rattle.costs.specs.declared.CostInputs.{CostInputs}
use Rattle.commitment.specs.Bounds.{most_mw}
use Rattle.costs.specs.Bounds.{most_tariff, most_rate, most_heat, most_fuel, most_aux, most_minutes, most_adder}

-- of the price of heat
pub record HeatSizes (k : CostInputs) : Type 0 where
  pub price : k.gas + k.transport ≤ most_tariff + most_tariff
  pub allowance : k.allowance * k.rate ≤ most_tariff * most_rate

-- of (2)
pub record StartSizes (k : CostInputs) : Type 0 where
  pub price : k.gas + k.transport ≤ most_tariff + most_tariff
  pub fuel : k.fuel * (k.gas + k.transport) ≤ most_fuel * (most_tariff + most_tariff)
  pub aux : k.aux ≤ most_aux
  pub aux-gas : k.aux * 10 * k.gas ≤ most_aux * 10 * most_tariff
  pub adder : k.start_adder ≤ most_adder
  pub allowance : k.allowance * k.rate ≤ most_tariff * most_rate
  pub allowances : k.fuel * (k.allowance * k.rate) ≤ most_fuel * (most_tariff * most_rate)
  pub mw : k.pmin * k.block ≤ most_mw
  pub minutes : k.pmin * k.block * k.minutes ≤ most_mw * most_minutes
  pub grid : k.pmin * k.block * k.minutes * k.gmc ≤ most_mw * most_minutes * most_tariff

-- of (3)
pub record LoadSizes (k : CostInputs) : Type 0 where
  pub price : k.gas + k.transport ≤ most_tariff + most_tariff
  pub mw : k.pmin * k.block ≤ most_mw
  pub heat : k.min_heat * (k.pmin * k.block) ≤ most_heat * most_mw
  pub fuel : k.min_heat * (k.pmin * k.block) * (k.gas + k.transport) ≤ most_heat * most_mw * (most_tariff + most_tariff)
  pub om : k.om * (k.pmin * k.block) ≤ most_tariff * most_mw
  pub gmc : k.gmc * (k.pmin * k.block) ≤ most_tariff * most_mw
  pub adder : k.load_adder ≤ most_adder
  pub allowance : k.allowance * k.rate ≤ most_tariff * most_rate
  pub allowance-heat : k.allowance * k.rate * k.min_heat ≤ most_tariff * most_rate * most_heat
  pub allowances : k.allowance * k.rate * k.min_heat * (k.pmin * k.block) ≤ most_tariff * most_rate * most_heat * most_mw

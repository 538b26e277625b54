-- Formula (3) as the market operator's appendix prints it, whose allowances Pmin MW does not multiply (specification 10).
use Rattle.std.specs.Prelude.{◌*◌}
use Rattle.costs.specs.declared.CostInputs.{CostInputs}
use Rattle.costs.specs.Figures.{pmin_mw, fuel_price, allowance_cost}
use Rattle.rounding.specs.Fractions.{Fraction, ◌over◌, ◌plus◌, ◌times◌, whole}

abbrev pub mlc_printed : CostInputs → Fraction
mlc_printed k =
    (k.min_heat * pmin_mw k * fuel_price k) over 1000 plus allowance_cost k times k.min_heat over 1000 plus whole (k.om * pmin_mw k)
    plus whole k.load_adder plus whole (k.gmc * pmin_mw k)

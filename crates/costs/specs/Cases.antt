-- C10 to C12 (specification 18): the unit, one table of its figures beside the values given for them, and one statement over it.
use Rattle.std.specs.Prelude.{◌≡◌, refl, List, [], ◌∷◌, map, ℕ}
use Rattle.rounding.specs.Rounding.{rounded}
use Rattle.commitment.specs.PlanCases.{cents, Row, row}
use Rattle.costs.specs.declared.CostInputs.{CostInputs}
use Rattle.costs.specs.Figures.{vec_of, suc_of, mlc_of}

-- the unit but for om, gmc, allowance, rate, fuel, aux and minutes
abbrev c10-but : ℕ → ℕ → ℕ → ℕ → ℕ → ℕ → ℕ → CostInputs
c10-but om gmc allowance rate fuel aux minutes =
    record {
      block = 10;
      pmin = 7;
      pmax = 15;
      gas = 550;
      transport = 0;
      allowance = allowance;
      om = om;
      gmc = gmc;
      rate = rate;
      min_heat = 14440;
      fuel = fuel;
      aux = aux;
      minutes = minutes;
      start_adder = 0;
      load_adder = 0;
    }

abbrev pub c10 : CostInputs
c10 = c10-but 280 0 0 0 0 0 0

abbrev pub c11 : CostInputs
c11 = c10-but 280 50 1300 531148 0 0 0

abbrev pub c12 : CostInputs
c12 = c10-but 0 50 0 0 100 2 30

-- its one segment
abbrev pub c10-mws : List ℕ
c10-mws = 80 ∷ []

abbrev pub c10-heats : List ℕ
c10-heats = 9790 ∷ []

-- vec, mlc and suc
abbrev pub table : List Row
table =
    row (cents (vec_of c10 c10-mws c10-heats) ∷ []) (cents 5664 ∷ [])
    ∷ row (cents (mlc_of c11) ∷ []) (cents 648835 ∷ [])
    ∷ row (cents (suc_of c12) ∷ []) (cents 66875 ∷ [])
    ∷ []

-- the formulas give it; that the call answers it stands in `promises`
pub worked : map (λ (r : Row). r.computed) table ≡ map (λ (r : Row). r.given) table
unfolding rounded
worked = refl

-- Each figure is its formula's fraction, rounded once to whole cents, a half to the even neighbour.
use Rattle.std.specs.Prelude.{List, ℕ, pos}
use Rattle.rounding.specs.Fractions.{signed}
use Rattle.rounding.specs.Rounding.{HalfEven}
use Rattle.costs.specs.declared.CostInputs.{CostInputs}
use Rattle.costs.specs.Figures.{vec_fraction, suc_fraction, mlc_fraction}
use Rattle.costs.specs.declared.CostFigures.{CostFigures}

pub record RoundedOnce (k : CostInputs) (mws heats : List ℕ) (figures : CostFigures) : Type 0 where
  pub vec : HalfEven (pos figures.vec) (signed (vec_fraction k mws heats))
  pub suc : HalfEven (pos figures.suc) (signed (suc_fraction k))
  pub mlc : HalfEven (pos figures.mlc) (signed (mlc_fraction k))

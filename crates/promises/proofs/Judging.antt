-- Demand 2 (specification 17): a schedule handed in, and the cost figures.
use Rattle.std.specs.Prelude.{Ok}
use mathlib.Core.Path.{◌≡◌}
use mathlib.Core.List.{List}
use mathlib.Core.Logic.{◌↔◌}
use Prim.Native.Nat.{ℕ}
use lib.IntN.{ℤ, pos}
use lib.ListN.{length}
use Rattle.costs.specs.declared.CostInputs.{CostInputs}
use Rattle.commitment.specs.declared.UnitRecord.{UnitRecord}
use Rattle.rounding.specs.Fractions.{SignedFraction, signed}
use Rattle.rounding.specs.Rounding.{HalfEven, HalfWay, even_of}
use Rattle.rounding.proofs.Neighbours as neighbours
use Rattle.costs.specs.Figures.{pmin_mw}
use Rattle.commitment.specs.Profit.{profit}
use Rattle.commitment.specs.Ranges.{prices_kept, case_checked}
use Rattle.commitment.specs.Rivals.{Rival}
use Rattle.costs.specs.declared.CostFigures.{CostFigures}
use Rattle.costs.specs.Answers.{costed}
use Rattle.costs.specs.Rounding.{RoundedOnce}
use Rattle.costs.proofs.Rounding as rounding
use Rattle.assessment.specs.Assessed.{assessed}
use Rattle.assessment.proofs.Passed as passed
use Rattle.answers.specs.Answering.{printed}
use Rattle.promises.specs.Appendix.{mlc_printed}
use Rattle.promises.proofs.Appendix as appendix

-- A schedule handed in is passed exactly when it keeps the case and no other cause holds; its profit is formula (7).

pub passed-exactly : (u : UnitRecord) (prices : List ℤ) (s : List ℕ) (p : ℤ)
    → (assessed u prices s ≡ Ok p)
    ↔ ((case_checked u (prices_kept prices) (length prices) ≡ Ok tt) × Rival u prices s × (profit u prices s ≡ p))
passed-exactly = passed.passed-exactly

-- The cost figures are formulas (1) to (3), rounded once: none is further than half a cent from its fraction, and where it is half a cent from it, it is
-- even.

pub rounded-once : (k : CostInputs) (mws heats : List ℕ) (figures : CostFigures) → costed k mws heats ≡ Ok figures
    → RoundedOnce k mws heats figures
rounded-once = rounding.rounded-once

-- One whole number alone is so: of the two that a half stands between, the even one, of figures as of prices.

pub rounded-to-one : (f : SignedFraction) (x y : ℤ) → HalfEven x f → HalfEven y f → x ≡ y
rounded-to-one = neighbours.alone

pub half-to-even : (f : SignedFraction) (below : ℤ) → HalfWay below f → (whole : ℤ) → HalfEven whole f → whole ≡ even_of below
half-to-even = neighbours.half-way

-- The allowances of (3) are multiplied by Pmin MW; a unit of 1 MW has the mlc of the formula as printed.

pub one-mw-as-printed : (k : CostInputs) → pmin_mw k ≡ 1 → (mws heats : List ℕ) (figures : CostFigures) → costed k mws heats ≡ Ok figures
    → HalfEven (pos figures.mlc) (signed (mlc_printed k))
one-mw-as-printed = appendix.one-mw-as-printed

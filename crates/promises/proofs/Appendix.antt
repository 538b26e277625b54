-- Of a unit of 1 MW formula (3) is that of the appendix: the factor of its allowances is 1.
use Rattle.std.specs.Prelude.{Ok}
use mathlib.Core.Path.{◌≡◌, ap, subst, ◌∙◌}
use mathlib.Core.List.{List}
use Prim.Native.Nat.{ℕ, ◌*◌}
use native.Mathlib.Nat.{mul-one}
use lib.IntN.{pos}
use Rattle.rounding.specs.Fractions.{Fraction, ◌over◌, ◌plus◌, ◌times◌, whole, signed}
use Rattle.rounding.specs.Rounding.{HalfEven}
use Rattle.costs.specs.declared.CostInputs.{CostInputs}
use Rattle.costs.specs.Figures.{pmin_mw, fuel_price, allowance_cost, allowance_at_minimum, mlc_fraction}
use Rattle.costs.specs.declared.CostFigures.{CostFigures}
use Rattle.costs.specs.Answers.{costed}
use Rattle.costs.proofs.Rounding.{rounded-once}
use Rattle.promises.specs.Appendix.{mlc_printed}

module _ (k : CostInputs) (one : pmin_mw k ≡ 1) where
  one-mw : allowance_at_minimum k ≡ allowance_cost k times k.min_heat over 1000
  one-mw =
      ap (λ (mw : ℕ). allowance_cost k times k.min_heat over 1000 times whole mw) one
      ∙ ap (λ (n : ℕ). n over 10000000000) (mul-one (k.allowance * k.rate * k.min_heat))

  fraction-as-printed : mlc_fraction k ≡ mlc_printed k
  fraction-as-printed =
      ap
      (λ (allowances : Fraction). (k.min_heat * pmin_mw k * fuel_price k) over 1000 plus allowances plus whole (k.om * pmin_mw k)
      plus whole k.load_adder plus whole (k.gmc * pmin_mw k))
      one-mw

  pub one-mw-as-printed :
      (mws heats : List ℕ) (figures : CostFigures) → costed k mws heats ≡ Ok figures → HalfEven (pos figures.mlc) (signed (mlc_printed k))
  one-mw-as-printed mws heats figures e =
      subst (λ (f : Fraction). HalfEven (pos figures.mlc) (signed f)) fraction-as-printed (rounded-once k mws heats figures e).mlc

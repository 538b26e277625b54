-- How large the products of a segment's own price get: all of them far inside an i64.
use mathlib.Core.Path.{◌≡◌, sym, ap, subst}
use Prim.Native.Nat.{ℕ, ◌+◌, ◌-◌, ◌*◌, ◌≤◌}
use native.Mathlib.Nat.{mul-le-mul}
use native.Mathlib.Omega.{arith}
use lib.IntN.{ℤ, pos, ◌+ℤ◌, ◌*ℤ◌}
use Rattle.integers.proofs.Linear.{zarith, ztimes}
use Rattle.integers.proofs.Ranges.{Within, within-at, within-weaken, within-diff, within-mul, within-sum, abs-within}
use Rattle.rounding.specs.Sizes.{Sizes}
use Rattle.commitment.specs.Bounds.{most_mw}
use Rattle.costs.specs.Bounds.{most_heat}
use Rattle.costs.specs.Figures.{heat_units}
use Rattle.curves.specs.declared.CurveInputs.{CurveInputs}
use Rattle.curves.specs.Curve.{incremental_rate, price_fraction}
use Rattle.curves.specs.Sizes.{InputSizes, PointSizes}

-- the most that level × rate, the change in it and its fuel's price come to, and the cents that no fuel is in, in parts of a cent
abbrev pub most_heat_run : ℕ
most_heat_run = 25000000

abbrev pub most_fuel_units : ℕ
most_fuel_units = 500000000000

abbrev pub most_fixed_units : ℕ
most_fixed_units = 510000000000

module _ {from rate to rate' : ℕ} (s : PointSizes from rate to rate') where
  pub from-run : from * rate ≤ most_heat_run
  from-run = mul-le-mul {n₂ = most_mw} {m₂ = most_heat} (omega (arith, s.rises, s.level-most)) s.rate-most

  pub to-run : to * rate' ≤ most_heat_run
  to-run = mul-le-mul s.level-most s.rate'-most

  pub change-within : Within (most_heat_run + most_heat_run) (incremental_rate from rate to rate').num
  change-within = within-diff (within-weaken to-run (within-at (to * rate'))) (within-weaken from-run (within-at (from * rate)))

  module _ {k : CurveInputs} (i : InputSizes k) where
    pub fuel-within : Within most_fuel_units ((incremental_rate from rate to rate').num *ℤ pos k.gas)
    fuel-within = within-mul change-within (within-weaken i.gas (within-at k.gas))

    pub fixed-most : (k.om + k.gmc + k.adder) * ((to - from) * heat_units) ≤ most_fixed_units
    fixed-most = mul-le-mul {n₂ = 1020000} {m₂ = 500000} (omega (arith, i.om, i.gmc, i.adder)) (omega (arith, s.level-most))

    -- the code's sum is the numerator of the fraction
    pub sum_is :
        (incremental_rate from rate to rate').num *ℤ pos k.gas +ℤ pos ((k.om + k.gmc + k.adder) * ((to - from) * heat_units))
        ≡ (price_fraction k from rate to rate').num
    sum_is =
        ap (λ (x : ℤ). x +ℤ pos ((k.om + k.gmc + k.adder) * ((to - from) * heat_units)))
        (sym (once ((incremental_rate from rate to rate').num *ℤ pos k.gas)))
      where
        once : (x : ℤ) → x *ℤ pos 1 ≡ x
        once x = omega (zarith, ztimes x 1)

    pub sum-within : Within (most_fuel_units + most_fixed_units) (price_fraction k from rate to rate').num
    sum-within =
        subst (Within (most_fuel_units + most_fixed_units)) sum_is
        (within-sum fuel-within (within-weaken fixed-most (within-at ((k.om + k.gmc + k.adder) * ((to - from) * heat_units)))))

    pub division-sizes : Sizes (price_fraction k from rate to rate').num ((to - from) * heat_units)
    division-sizes =
        record {
          num-most = omega (arith, abs-within sum-within);
          den-some = omega (arith, s.rises);
          den-most = omega (arith, s.level-most);
        }

-- Two neighbouring points in their ranges, and inputs in theirs: what the code's products ask.
use Rattle.std.specs.Prelude.{ℕ, ◌≤◌, ◌<◌}
use Rattle.commitment.specs.Bounds.{most_mw}
use Rattle.costs.specs.Bounds.{most_tariff, most_heat}
use Rattle.curves.specs.declared.CurveInputs.{CurveInputs}
use Rattle.curves.specs.Bounds.{most_bid_adder}

pub record InputSizes (k : CurveInputs) : Type 0 where
  pub gas : k.gas ≤ most_tariff
  pub om : k.om ≤ most_tariff
  pub gmc : k.gmc ≤ most_tariff
  pub adder : k.adder ≤ most_bid_adder

pub record PointSizes (level rate level' rate' : ℕ) : Type 0 where
  pub rises : level < level'
  pub level-most : level' ≤ most_mw
  pub rate-most : rate ≤ most_heat
  pub rate'-most : rate' ≤ most_heat

-- The fractions of (1), (2) and (3) over the code's denominators, and so the figures as the code rounds them.
use mathlib.Core.Path.{◌≡◌, refl}
use mathlib.Core.List.{List, [], ◌∷◌}
use Prim.Native.Nat.{ℕ, ◌*◌, ◌<◌}
use native.Mathlib.Nat.{mul-pos, mul-one}
use native.Mathlib.Omega.{arith}
use lib.Dec.{lit<}
use lib.ListN.{length}
use Rattle.costs.specs.declared.CostInputs.{CostInputs}
use Rattle.rounding.specs.Fractions.{◌over◌}
use Rattle.rounding.specs.Rounding.{rounded}
use Rattle.costs.specs.Figures.{pmin_mw, fuel_price, heat_units, rate_units, allowance_cost, allowance_at_minimum, segment_cost, total_mw, weighted_cost}
use Rattle.costs.specs.Figures.{vec_fraction, suc_fraction, mlc_fraction, vec_of, suc_of, mlc_of}
use Rattle.costs.specs.Numerators.{units, start_units, heat_price, segment_units, weighted_units, suc_units, mlc_units}
use Rattle.rounding.proofs.Fractions.{Worth, worth-over, worth-whole, worth-plus, worth-times, worth-as, worth-scaled}
use Rattle.rounding.proofs.Rounding.{rounded-same}

module _ (k : CostInputs) where
  allowance-worth : Worth rate_units (k.allowance * k.rate) (allowance_cost k)
  allowance-worth = worth-over (lit< tt)

  -- ---- (1)

  segment-worth : (heat : ℕ) → Worth units (segment_units (heat_price k) k.om heat) (segment_cost k heat)
  segment-worth heat =
      worth-plus
      (worth-times {d = heat_units} {e = rate_units} (worth-over (lit< tt)) (worth-plus (worth-whole rate_units (fuel_price k)) allowance-worth))
      (worth-whole units k.om)

  weighted-worth : (mws heats : List ℕ) → Worth units (weighted_units (heat_price k) k.om mws heats) (weighted_cost k mws heats)
  weighted-worth [] heats = worth-whole units 0
  weighted-worth (mw ∷ mws) [] = worth-whole units 0
  weighted-worth (mw ∷ mws) (heat ∷ heats) =
      worth-plus (worth-times {d = 1} {e = units} (worth-over (lit< tt)) (segment-worth heat)) (weighted-worth mws heats)

  -- with no segment vec is 0
  pub vec-none : (mws heats : List ℕ) → length mws ≡ 0 → 0 ≡ vec_of k mws heats
  unfolding rounded
  vec-none [] heats h = refl
  vec-none (mw ∷ mws) heats h = absurd (omega arith)

  module _ (mws heats : List ℕ) (some : 0 < length mws) (positive : 0 < total_mw mws) where
    pub vec-worth : Worth (units * total_mw mws) (weighted_units (heat_price k) k.om mws heats) (vec_fraction k mws heats)
    vec-worth = mean mws some positive
      where
        mean :
            (mws : List ℕ) → 0 < length mws → 0 < total_mw mws →
            Worth (units * total_mw mws) (weighted_units (heat_price k) k.om mws heats) (vec_fraction k mws heats)
        mean [] h t = absurd (omega arith)
        mean (mw ∷ mws) h t =
            worth-as (worth-times (weighted-worth (mw ∷ mws) heats) (worth-over t)) (mul-one (weighted_units (heat_price k) k.om (mw ∷ mws) heats))

    pub vec-rounds : vec_of k mws heats ≡ rounded (weighted_units (heat_price k) k.om mws heats over (units * total_mw mws))
    vec-rounds = rounded-same (mul-pos (lit< tt) positive) vec-worth

  -- ---- (2)

  pub suc-worth : Worth start_units (suc_units k) (suc_fraction k)
  suc-worth =
      worth-as
      (worth-plus
      (worth-plus
      (worth-plus
      (worth-plus (worth-whole start_units (k.fuel * fuel_price k)) (worth-whole start_units (k.aux * 10 * k.gas)))
      (worth-scaled 120 {d = rate_units} (worth-times {d = 1} {e = rate_units} (worth-over (lit< tt)) allowance-worth)))
      (worth-whole start_units k.start_adder))
      (worth-scaled rate_units {d = 120} (worth-times {d = 60} {e = 2} (worth-over (lit< tt)) (worth-over (lit< tt)))))
      (omega arith)

  pub suc-rounds : suc_of k ≡ rounded (suc_units k over start_units)
  suc-rounds = rounded-same (lit< tt) suc-worth

  -- ---- (3)

  allowances-worth : Worth units (k.allowance * k.rate * k.min_heat * pmin_mw k) (allowance_at_minimum k)
  allowances-worth =
      worth-times {d = units} {e = 1} (worth-times {d = rate_units} {e = heat_units} allowance-worth (worth-over (lit< tt))) (worth-over (lit< tt))

  pub mlc-worth : Worth units (mlc_units k) (mlc_fraction k)
  mlc-worth =
      worth-as
      (worth-plus
      (worth-plus
      (worth-plus
      (worth-plus (worth-scaled rate_units {d = heat_units} (worth-over (lit< tt))) allowances-worth)
      (worth-whole units (k.om * pmin_mw k)))
      (worth-whole units k.load_adder))
      (worth-whole units (k.gmc * pmin_mw k)))
      (omega arith)

  pub mlc-rounds : mlc_of k ≡ rounded (mlc_units k over units)
  mlc-rounds = rounded-same (lit< tt) mlc-worth

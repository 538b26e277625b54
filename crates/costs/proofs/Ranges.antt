-- What the check of the inputs says, as orders of numbers; and so how large the products of the code get.
use Rattle.std.specs.Prelude.{Ok}
use mathlib.Core.Path.{◌≡◌}
use mathlib.Core.Bool.{true, ◌&&◌}
use mathlib.Core.List.{List}
use Prim.Native.Nat.{ℕ, ◌-◌, ◌*◌, ◌≤◌}
use native.Mathlib.Nat.{le_refl, mul-le-mul, mul-le-mul_right}
use native.Mathlib.Omega.{arith}
use borrow.Author.Tests.{leb-true, eqb-true}
use lib.Dec.{leb, eqb}
use lib.ListN.{length}
use Rattle.costs.specs.Bounds.{most_tariff, most_rate, most_heat, most_segments, most_fuel, most_aux, most_minutes, most_adder}
use Rattle.commitment.specs.Bounds.{most_mw, most_blocks}
use Rattle.costs.specs.declared.CostInputs.{CostInputs}
use Rattle.commitment.specs.declared.Cause.TheVariants.{Range, Shape, Segments, Length}
use Rattle.lists.specs.Every.{every}
use Rattle.costs.specs.Figures.{total_mw}
use Rattle.costs.specs.Ranges.{one_to, count_kept, sizes_kept, tariffs_kept, rates_kept, start_kept}
use Rattle.costs.specs.Ranges.{inputs_kept, segments_kept, outputs_kept, range_mw, inputs_checked}
use Rattle.costs.specs.Sizes.{HeatSizes, StartSizes, LoadSizes}
use Rattle.commitment.proofs.Causes.{unless-passed}
use Rattle.lists.proofs.Conjunctions.{both}

-- ---- the inputs but for the segments

pub one-to : (most n : ℕ) → one_to most n ≡ true → (1 ≤ n) × (n ≤ most)
one-to most n e = let f = both (leb 1 n) (leb n most) e in (leb-true 1 n f.0, leb-true n most f.1)

pub record InRange (k : CostInputs) : Type 0 where
  pub block : k.block ≤ most_mw
  pub pmin : k.pmin ≤ most_blocks
  pub pmax : k.pmax ≤ most_blocks
  pub gas : k.gas ≤ most_tariff
  pub transport : k.transport ≤ most_tariff
  pub allowance : k.allowance ≤ most_tariff
  pub om : k.om ≤ most_tariff
  pub gmc : k.gmc ≤ most_tariff
  pub rate : k.rate ≤ most_rate
  pub min-heat : k.min_heat ≤ most_heat
  pub fuel : k.fuel ≤ most_fuel
  pub aux : k.aux ≤ most_aux
  pub minutes : k.minutes ≤ most_minutes
  pub start-adder : k.start_adder ≤ most_adder
  pub load-adder : k.load_adder ≤ most_adder

pub in-range : (k : CostInputs) → inputs_kept k ≡ true → InRange k
unfolding inputs_kept
in-range k e =
    let start = both _ (start_kept k) e in
    let rates = both _ (rates_kept k) start.0 in
    let groups = both (sizes_kept k) (tariffs_kept k) rates.0 in
    let s3 = both _ (one_to most_blocks k.pmax) groups.0 in
    let s2 = both (one_to most_mw k.block) (one_to most_blocks k.pmin) s3.0 in
    let p5 = both _ (leb k.gmc most_tariff) groups.1 in
    let p4 = both _ (leb k.om most_tariff) p5.0 in
    let p3 = both _ (leb k.allowance most_tariff) p4.0 in
    let p2 = both (leb k.gas most_tariff) (leb k.transport most_tariff) p3.0 in
    let r2 = both (leb k.rate most_rate) (one_to most_heat k.min_heat) rates.1 in
    let t5 = both _ (leb k.load_adder most_adder) start.1 in
    let t4 = both _ (leb k.start_adder most_adder) t5.0 in
    let t3 = both _ (leb k.minutes most_minutes) t4.0 in
    let t2 = both (leb k.fuel most_fuel) (leb k.aux most_aux) t3.0 in
    record {
      block = (one-to most_mw k.block s2.0).1;
      pmin = (one-to most_blocks k.pmin s2.1).1;
      pmax = (one-to most_blocks k.pmax s3.1).1;
      gas = leb-true k.gas most_tariff p2.0;
      transport = leb-true k.transport most_tariff p2.1;
      allowance = leb-true k.allowance most_tariff p3.1;
      om = leb-true k.om most_tariff p4.1;
      gmc = leb-true k.gmc most_tariff p5.1;
      rate = leb-true k.rate most_rate r2.0;
      min-heat = (one-to most_heat k.min_heat r2.1).1;
      fuel = leb-true k.fuel most_fuel t2.0;
      aux = leb-true k.aux most_aux t2.1;
      minutes = leb-true k.minutes most_minutes t3.1;
      start-adder = leb-true k.start_adder most_adder t4.1;
      load-adder = leb-true k.load_adder most_adder t5.1;
    }

pub record InShape (k : CostInputs) : Type 0 where
  pub ordered : k.pmin ≤ k.pmax
  pub most : k.pmax * k.block ≤ most_mw

pub in-shape : (k : CostInputs) → outputs_kept k ≡ true → InShape k
in-shape k e =
    let f = both (leb k.pmin k.pmax) (leb (k.pmax * k.block) most_mw) e in
    record { ordered = leb-true k.pmin k.pmax f.0; most = leb-true (k.pmax * k.block) most_mw f.1 }

-- ---- the segments

pub record InSegments (mws heats : List ℕ) : Type 0 where
  pub mw-count : length mws ≤ most_segments
  pub mws-kept : every (one_to most_mw) mws ≡ true
  pub heats-kept : every (one_to most_heat) heats ≡ true

pub in-segments : (mws heats : List ℕ) → segments_kept mws heats ≡ true → InSegments mws heats
unfolding segments_kept
in-segments mws heats e =
    let f4 = both _ (every (one_to most_heat) heats) e in
    let f3 = both _ (every (one_to most_mw) mws) f4.0 in
    let f2 = both (count_kept (length mws)) (count_kept (length heats)) f3.0 in
    record {
      mw-count = leb-true (length mws) most_segments f2.0;
      mws-kept = f3.1;
      heats-kept = f4.1;
    }

-- ---- the whole check

pub record Accepted (k : CostInputs) (mws heats : List ℕ) : Type 0 where
  pub inputs : InRange k
  pub segments : InSegments mws heats
  pub shape : InShape k
  pub total : total_mw mws ≡ range_mw k
  pub lengths : length mws ≡ length heats

pub accepted : (k : CostInputs) (mws heats : List ℕ) → inputs_checked k mws heats ≡ Ok tt → Accepted k mws heats
unfolding inputs_checked
accepted k mws heats e =
    let ranges = unless-passed (inputs_kept k && segments_kept mws heats) Range _ e in
    let shape = unless-passed (outputs_kept k) Shape _ ranges.1 in
    let total = unless-passed (eqb (total_mw mws) (range_mw k)) Segments _ shape.1 in
    let lengths = unless-passed (eqb (length mws) (length heats)) Length _ total.1 in
    let f = both (inputs_kept k) (segments_kept mws heats) ranges.0 in
    record {
      inputs = in-range k f.0;
      segments = in-segments mws heats f.1;
      shape = in-shape k shape.0;
      total = eqb-true (total_mw mws) (range_mw k) total.0;
      lengths = eqb-true (length mws) (length heats) lengths.0;
    }

-- ---- how large the products get

module _ (k : CostInputs) (range : InRange k) where
  pub heat-sizes : HeatSizes k
  heat-sizes = record { price = omega arith; allowance = mul-le-mul range.allowance range.rate }

  module _ (shape : InShape k) where
    pmin-mw : k.pmin * k.block ≤ most_mw
    pmin-mw = omega (arith, mul-le-mul_right k.block shape.ordered, shape.most)

    -- what the segments add up to
    pub range-mw : range_mw k ≤ most_mw
    range-mw = omega (arith, mul-le-mul_right {m = k.pmax - k.pmin} {n = k.pmax} k.block (omega arith), shape.most)

    pub start-sizes : StartSizes k
    start-sizes =
        let minutes = mul-le-mul pmin-mw range.minutes in
        record {
          price = heat-sizes.price;
          fuel = mul-le-mul range.fuel heat-sizes.price;
          aux = range.aux;
          aux-gas = mul-le-mul (mul-le-mul range.aux (le_refl 10)) range.gas;
          adder = range.start-adder;
          allowance = heat-sizes.allowance;
          allowances = mul-le-mul range.fuel heat-sizes.allowance;
          mw = pmin-mw;
          minutes = minutes;
          grid = mul-le-mul minutes range.gmc;
        }

    pub load-sizes : LoadSizes k
    load-sizes =
        let heat = mul-le-mul range.min-heat pmin-mw in
        let allowance-heat = mul-le-mul heat-sizes.allowance range.min-heat in
        record {
          price = heat-sizes.price;
          mw = pmin-mw;
          heat = heat;
          fuel = mul-le-mul heat heat-sizes.price;
          om = mul-le-mul range.om pmin-mw;
          gmc = mul-le-mul range.gmc pmin-mw;
          adder = range.load-adder;
          allowance = heat-sizes.allowance;
          allowance-heat = allowance-heat;
          allowances = mul-le-mul allowance-heat pmin-mw;
        }

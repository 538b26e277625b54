-- Sums over the segments: one segment more, and how large they get.
use mathlib.Core.Path.{◌≡◌, refl, sym, ap, ap₂, ◌∙◌}
use mathlib.Core.Bool.{true}
use mathlib.Core.List.{List, [], ◌∷◌}
use Prim.Native.Nat.{ℕ, zero, suc, ◌+◌, ◌*◌, ◌^◌, ◌≤◌, ◌<◌}
use native.Mathlib.Nat.{mul-le-mul, mul-le-mul_left, mul-le-mul_right}
use native.Mathlib.Omega.{arith}
use lib.ListN.{length}
use Rattle.costs.specs.Bounds.{most_heat}
use Rattle.commitment.specs.Bounds.{most_mw}
use Rattle.costs.specs.declared.CostInputs.{CostInputs}
use Rattle.lists.specs.Every.{every}
use Rattle.costs.specs.Figures.{total_mw}
use Rattle.costs.specs.Ranges.{one_to}
use Rattle.costs.specs.Numerators.{heat_price, segment_units, weighted_units}
use Rattle.lists.proofs.Conjunctions.{both}
use Rattle.costs.proofs.Ranges.{one-to, Accepted, heat-sizes, range-mw}

-- ---- one segment more

-- what the first of the segments left adds, that its MW do not make it less, and that those behind it are as these were
pub record Next (price om mw heat : ℕ) (mws heats mws' heats' : List ℕ) : Type 0 where
  pub sum : weighted_units price om mws heats ≡ mw * segment_units price om heat + weighted_units price om mws' heats'
  pub unit : segment_units price om heat ≤ mw * segment_units price om heat
  pub kept : every (one_to most_mw) mws' ≡ true
  pub even : length mws' ≡ length heats'

pub weighted-next :
    (price om mw heat : ℕ) (mws heats mws' heats' : List ℕ) → mws ≡ mw ∷ mws' → heats ≡ heat ∷ heats' →
    every (one_to most_mw) mws ≡ true → length mws ≡ length heats → Next price om mw heat mws heats mws' heats'
weighted-next price om mw heat mws heats mws' heats' m h e n =
    let f = both (one_to most_mw mw) (every (one_to most_mw) mws') (ap (every (one_to most_mw)) (sym m) ∙ e) in
    let long : suc (length mws') ≡ suc (length heats') = ap length (sym m) ∙ n ∙ ap length h in
    record {
      sum = ap₂ (weighted_units price om) m h;
      unit = omega (arith, mul-le-mul_right (segment_units price om heat) (one-to most_mw mw f.0).0);
      kept = f.1;
      even = omega (arith, long);
    }

pub weighted-none : (price om : ℕ) (mws heats : List ℕ) → length mws ≡ 0 → weighted_units price om mws heats ≡ 0
weighted-none price om [] heats e = refl
weighted-none price om (mw ∷ mws) heats e = absurd (omega arith)

-- ---- how large

pub total-most : (most : ℕ) (mws : List ℕ) → every (one_to most) mws ≡ true → total_mw mws ≤ most * length mws
total-most most [] e = omega arith
total-most most (mw ∷ mws) e =
    let f = both (one_to most mw) (every (one_to most) mws) e in
    omega (arith, one-to most mw f.0, total-most most mws f.1)

module _ (price om most : ℕ) where
  -- each segment costs no more than one at the highest heat rate
  weighted-most :
      (mws heats : List ℕ) → every (one_to most) heats ≡ true →
      weighted_units price om mws heats ≤ total_mw mws * segment_units price om most
  weighted-most [] heats e = omega arith
  weighted-most (mw ∷ mws) [] e = omega arith
  weighted-most (mw ∷ mws) (heat ∷ heats) e =
      let f = both (one_to most heat) (every (one_to most) heats) e in
      let dear : heat * price ≤ most * price = mul-le-mul_right price (one-to most heat f.0).1 in
      let unit : segment_units price om heat ≤ segment_units price om most = omega arith in
      joined mw (total_mw mws) (segment_units price om most) (mul-le-mul_left mw unit) (weighted-most mws heats f.1)
    where
      joined : (mw total unit : ℕ) {a b : ℕ} → a ≤ mw * unit → b ≤ total * unit → a + b ≤ (mw + total) * unit
      joined mw total unit h j = omega arith

-- some segments have some MW
pub total-some : (most : ℕ) (mws : List ℕ) → every (one_to most) mws ≡ true → 0 < length mws → 0 < total_mw mws
total-some most [] e h = absurd (omega arith)
total-some most (mw ∷ mws) e h = omega (arith, one-to most mw (both (one_to most mw) (every (one_to most) mws) e).0)

-- the inputs at the ends of their ranges
pub weighted-fits : (k : CostInputs) (mws heats : List ℕ) → Accepted k mws heats → weighted_units (heat_price k) k.om mws heats < 2 ^ 64
weighted-fits k mws heats a =
    let s = heat-sizes k a.inputs in
    let total : total_mw mws ≤ most_mw = omega (arith, a.total, range-mw k a.inputs a.shape) in
    let unit : segment_units (heat_price k) k.om most_heat ≤ 10600000000000000 = omega (arith, s.price, s.allowance, a.inputs.om) in
    below (weighted-most (heat_price k) k.om most_heat mws heats a.segments.heats-kept) (mul-le-mul total unit)
  where
    below : {n m : ℕ} → n ≤ m → m ≤ 5300000000000000000 → n < 2 ^ 64
    below h j = omega arith

-- What the check of the inputs says, as orders of numbers.
use Rattle.std.specs.Prelude.{Ok}
use mathlib.Core.Path.{◌≡◌, refl, sym}
use mathlib.Core.Bool.{and-false, Bool, true, false, ◌&&◌}
use mathlib.Core.List.{List, [], ◌∷◌}
use Prim.Native.Nat.{ℕ, zero, suc, ◌+◌, ◌-◌, ◌≤◌, ◌<◌}
use native.Mathlib.Numerals.{add-one}
use native.Mathlib.Numerals.{unary_clauses}
use native.Mathlib.Omega.{arith}
use borrow.Author.Tests.{leb-true, ltb-true, eqb-true, lt-ltb, le-ltb}
use lib.Dec.{leb, ltb, eqb}
use lib.ListN.{length, get_or, drop}
use Rattle.lists.specs.Every.{every}
use Rattle.lists.proofs.Conjunctions.{both}
use Rattle.lists.proofs.Every.{every-at}
use Rattle.lists.proofs.Fills.{drop-next}
use Rattle.commitment.specs.declared.Cause.TheVariants.{Range, Levels, Length}
use Rattle.commitment.specs.Bounds.{most_mw}
use Rattle.commitment.proofs.Causes.{unless-passed}
use Rattle.costs.specs.Bounds.{most_tariff, most_heat}
use Rattle.costs.specs.Ranges.{one_to}
use Rattle.costs.proofs.Ranges.{one-to}
use Rattle.curves.specs.declared.CurveInputs.{CurveInputs}
use Rattle.curves.specs.Bounds.{fewest_points, most_points, most_bid_adder}
use Rattle.curves.specs.Ranges.{inputs_kept, count_kept, points_kept, rising_from, rising, lengths_kept, curve_checked}
use Rattle.curves.specs.Sizes.{InputSizes, PointSizes}

-- ---- levels that rise

-- each is below the next, or one is not
pub rises :
    (levels : List ℕ) (r : Bool) → (r ≡ true → (i : ℕ) → i + 1 < length levels → get_or levels i 0 < get_or levels (i + 1) 0) →
    (r ≡ false → (i : ℕ) × (i + 1 < length levels) × (get_or levels (i + 1) 0 ≤ get_or levels i 0)) → r ≡ rising levels
rises [] true up down = refl
rises [] false up down = absurd (let h = (down refl).1 in omega arith)
rises (level ∷ levels) true up down = sym (climbs level levels (λ i h. simp unary_clauses at (up refl i (omega arith))))
  where
    climbs : (level : ℕ) (levels : List ℕ) → ((i : ℕ) → i < length levels → get_or (level ∷ levels) i 0 < get_or levels i 0) → rising_from level levels ≡ true
    climbs level [] up = refl
    climbs level (next ∷ levels) up =
        simp (lt-ltb level next (up 0 (omega arith))) (climbs next levels (λ i h. up (suc i) (omega arith)))
rises (level ∷ levels) false up down = let d = down refl in sym (falls level levels d.0 (omega (arith, d.1)) (simp unary_clauses at d.2))
  where
    falls : (level : ℕ) (levels : List ℕ) (i : ℕ) → i < length levels → get_or levels i 0 ≤ get_or (level ∷ levels) i 0 → rising_from level levels ≡ false
    falls level [] i h l = absurd (omega arith)
    falls level (next ∷ levels) zero h l = simp (le-ltb level next l)
    falls level (next ∷ levels) (suc i) h l = simp (falls next levels i (omega arith) l) (and-false (ltb level next))

-- each level is below the next
pub rises-at : (levels : List ℕ) (i : ℕ) → rising levels ≡ true → i + 1 < length levels → get_or levels i 0 < get_or levels (i + 1) 0
rises-at [] i e h = absurd (omega arith)
rises-at (level ∷ levels) i e h = rw add-one (go level levels i e (omega arith))
  where
    go :
        (level : ℕ) (levels : List ℕ) (i : ℕ) → rising_from level levels ≡ true → i < length levels →
        get_or (level ∷ levels) i 0 < get_or levels i 0
    go level [] i e h = absurd (omega arith)
    go level (next ∷ levels) zero e h = ltb-true level next (both (ltb level next) (rising_from next levels) e).0
    go level (next ∷ levels) (suc i) e h = go next levels i (both (ltb level next) (rising_from next levels) e).1 (omega arith)

-- ---- the inputs and the points

pub input-sizes : (k : CurveInputs) → inputs_kept k ≡ true → InputSizes k
input-sizes k e =
    let f4 = both _ (leb k.adder most_bid_adder) e in
    let f3 = both _ (leb k.gmc most_tariff) f4.0 in
    let f2 = both (leb k.gas most_tariff) (leb k.om most_tariff) f3.0 in
    record {
      gas = leb-true k.gas most_tariff f2.0;
      om = leb-true k.om most_tariff f2.1;
      gmc = leb-true k.gmc most_tariff f3.1;
      adder = leb-true k.adder most_bid_adder f4.1;
    }

pub record InPoints (levels rates : List ℕ) : Type 0 where
  pub some-levels : fewest_points ≤ length levels
  pub few-levels : length levels ≤ most_points
  pub levels-kept : every (one_to most_mw) levels ≡ true
  pub rates-kept : every (one_to most_heat) rates ≡ true

pub in-points : (levels rates : List ℕ) → points_kept levels rates ≡ true → InPoints levels rates
unfolding points_kept
in-points levels rates e =
    let f3 = both _ (every (one_to most_heat) rates) e in
    let f2 = both (count_kept (length levels) && count_kept (length rates)) (every (one_to most_mw) levels) f3.0 in
    let counts = both (count_kept (length levels)) (count_kept (length rates)) f2.0 in
    let count = both (leb fewest_points (length levels)) (leb (length levels) most_points) counts.0 in
    record {
      some-levels = leb-true fewest_points (length levels) count.0;
      few-levels = leb-true (length levels) most_points count.1;
      levels-kept = f2.1;
      rates-kept = f3.1;
    }

-- ---- the whole check

pub record Accepted (k : CurveInputs) (levels rates : List ℕ) (room : ℕ) : Type 0 where
  pub inputs : InputSizes k
  pub points : InPoints levels rates
  pub up : rising levels ≡ true
  pub lengths : length levels ≡ length rates
  pub fits : length levels - 1 ≤ room

pub accepted :
    (k : CurveInputs) (levels rates : List ℕ) (room : ℕ) → curve_checked k levels rates room ≡ Ok tt →
    Accepted k levels rates room
unfolding curve_checked
accepted k levels rates room e =
    let ranges = unless-passed (inputs_kept k && points_kept levels rates) Range _ e in
    let levels-up = unless-passed (rising levels) Levels _ ranges.1 in
    let lengths = unless-passed (lengths_kept levels rates room) Length _ levels-up.1 in
    let f = both (inputs_kept k) (points_kept levels rates) ranges.0 in
    let g = both (eqb (length levels) (length rates)) (leb (length levels - 1) room) lengths.0 in
    record {
      inputs = input-sizes k f.0;
      points = in-points levels rates f.1;
      up = levels-up.0;
      lengths = eqb-true (length levels) (length rates) g.0;
      fits = leb-true (length levels - 1) room g.1;
    }

-- two neighbouring points
pub point-sizes :
    {k : CurveInputs} {levels rates : List ℕ} {room : ℕ} → Accepted k levels rates room → (i : ℕ) → i + 1 < length levels →
    PointSizes (get_or levels i 0) (get_or rates i 0) (get_or levels (i + 1) 0) (get_or rates (i + 1) 0)
point-sizes {k} {levels} {rates} {room} a i h =
    record {
      rises = rises-at levels i a.up h;
      level-most = (one-to most_mw (get_or levels (i + 1) 0) (every-at (one_to most_mw) 0 levels (i + 1) a.points.levels-kept h)).1;
      rate-most = rate-at i (omega (arith, a.lengths));
      rate'-most = rate-at (i + 1) (omega (arith, a.lengths));
    }
  where
    rate-at : (j : ℕ) → j < length rates → get_or rates j 0 ≤ most_heat
    rate-at j h = (one-to most_heat (get_or rates j 0) (every-at (one_to most_heat) 0 rates j a.points.rates-kept h)).1

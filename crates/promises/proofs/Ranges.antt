-- The checks of the ranges by what they mean: each passes exactly where every figure of the call is in its range, and likewise the other checks whose
-- cause has a plainer word.
use Rattle.std.specs.Prelude.{None, Some}
use mathlib.Core.Path.{◌≡◌, refl, sym, ◌∙◌}
use mathlib.Core.Bool.{Bool, true, false, ◌&&◌, false≢true}
use mathlib.Core.List.{List, [], ◌∷◌, ◌++◌, map}
use mathlib.Core.Logic.Iff
use mathlib.Core.Logic.{◌↔◌, ◌⊎◌, inl, inr, ⊎_elim}
use Prim.Native.Nat.{ℕ, zero, suc, ◌*◌, ◌≤◌, ◌<◌}
use native.Mathlib.Omega.{arith}
use borrow.Author.Tests.{le-leb, lt-leb, leb-true, leb-false, eqb-false, ne_eqb, le-ltb, ltb-false}
use lib.Dec.{leb, eqb, ltb}
use lib.IntN.{ℤ, pos, negsuc, nat_abs}
use lib.ListN.{length, get_or}
use Rattle.lists.specs.Every.{every}
use Rattle.lists.proofs.Conjunctions.{both}
use Rattle.integers.proofs.Linear.{up, dn, zarith}
use Rattle.integers.proofs.Order.{le-le_z}
use Rattle.calendar.specs.declared.Date.{Date}
use Rattle.calendar.specs.Dates.{days_in, exists}
use Rattle.costs.specs.declared.CostInputs.{CostInputs}
use Rattle.commitment.specs.Types.{Limit}
use Rattle.commitment.specs.Types.{Permit}
use Rattle.commitment.specs.declared.UnitRecord.{UnitRecord}
use Rattle.commitment.specs.Limits.{limit_kept}
use Rattle.commitment.specs.Ranges.{ranges_kept, permit_kept, date_ranged, date_kept, price_kept, prices_kept, horizon_kept}
use Rattle.commitment.proofs.Passing.{prices-small}
use Rattle.costs.specs.Ranges.{one_to, inputs_kept, segments_kept}
use Rattle.curves.specs.declared.CurveInputs.{CurveInputs}
use Rattle.curves.specs.Ranges.{points_kept, rising_from, rising}
use Rattle.curves.specs.Ranges as curves
use Rattle.promises.specs.Causes.{Misshapen, NoSuchDay, NoSuchDate, NotRising}
use Rattle.promises.specs.Ranges.{Figure, InRange, PricesInRange, limit_figure, permit_figures, case_figures, cost_ranges, curve_ranges, clock_ranges}
use Rattle.promises.specs.Ranges as ranges

-- ---- tests and what they say

-- a test fails exactly where what it passes for does not hold
pub unless-so : (t : Bool) {So : Type 0} → (t ≡ true) ↔ So → (t ≡ false) ↔ (So → ⊥)
unless-so true exactly = (λ e. absurd (false≢true (sym e)), λ no. absurd (no (exactly.0 refl)))
unless-so false exactly = (λ e so. false≢true (exactly.1 so), λ no. refl)

pub at_most : (a b : ℕ) → (leb a b ≡ false) ↔ (b < a)
at_most a b = (leb-false a b, lt-leb a b)

pub as_many : (a b : ℕ) → (eqb a b ≡ false) ↔ (a ≡ b → ⊥)
as_many a b = (eqb-false a b, ne_eqb a b)

-- one of two tests fails
pub either : {A B : Type 0} (a b : Bool) → (a ≡ false) ↔ A → (b ≡ false) ↔ B → (a && b ≡ false) ↔ (A ⊎ B)
either true b f g = (λ e. inr (g.0 e), ⊎_elim (λ x. absurd (false≢true (sym (f.1 x)))) g.1)
either false b f g = (λ e. inl (f.0 refl), λ w. refl)

-- both pass
pub and_so : {A B : Type 0} (a b : Bool) → (a ≡ true) ↔ A → (b ≡ true) ↔ B → (a && b ≡ true) ↔ (A × B)
and_so true b f g = (λ e. (f.0 refl, g.0 e), λ so. g.1 so.1)
and_so false b f g = (λ e. absurd (false≢true e), λ so. f.1 so.0)

-- ---- a list of figures, as one test

abbrev in_range : List Figure → Bool
in_range [] = true
in_range (figure ∷ figures) = leb figure.least figure.given && (leb figure.given figure.most && in_range figures)

in-range-exactly : (figures : List Figure) → (in_range figures ≡ true) ↔ InRange figures
in-range-exactly [] = (λ e. tt, λ so. refl)
in-range-exactly (figure ∷ figures) = (
  λ e.
      let first = both (leb figure.least figure.given) _ e in
      let second = both (leb figure.given figure.most) _ first.1 in
      (leb-true _ _ first.0, leb-true _ _ second.0, (in-range-exactly figures).0 second.1),
  λ so. rw (le-leb _ _ so.0, le-leb _ _ so.1, (in-range-exactly figures).1 so.2) refl,
)

and_assoc : (a b c : Bool) → ((a && b) && c) ≡ (a && (b && c))
and_assoc true b c = refl
and_assoc false b c = refl

and-true : (a : Bool) → (a && true) ≡ a
and-true true = refl
and-true false = refl

from_zero : (n : ℕ) → leb 0 n ≡ true
from_zero n = le-leb 0 n (omega arith)

in-append : (a b : List Figure) → in_range (a ++ b) ≡ (in_range a && in_range b)
in-append [] b = refl
in-append (figure ∷ figures) b = simp (in-append figures b, and_assoc)

limit-in : (most : ℕ) (l : Limit) → limit_kept most l ≡ in_range (limit_figure most l)
limit-in most None = refl
limit-in most (Some limit) = simp (from_zero, and-true)

permit_in : (p : Permit) → permit_kept p ≡ in_range (permit_figures p)
permit_in None = refl
permit_in (Some w) = simp (from_zero, and-true, and_assoc)

-- a range of a whole list
each_in : (most : ℕ) (xs : List ℕ) → every (one_to most) xs ≡ in_range (map (λ x. ranges.◌to◌is◌ 1 most x) xs)
each_in most [] = refl
each_in most (x ∷ xs) = simp (each_in most xs, and_assoc)

-- ---- the ranges of each call

case-in : (u : UnitRecord) → ranges_kept u ≡ in_range (case_figures u)
unfolding ranges_kept
case-in u =
    let starts = limit_figure 2976 u.limits.starts in
    let hours = limit_figure 744 u.limits.hours in
    let mwh = limit_figure 372000 u.limits.mwh in
    let permit = permit_figures u.permit in
    simp (
      in-append starts (hours ++ (mwh ++ permit)),
      in-append hours (mwh ++ permit),
      in-append mwh permit,
      from_zero,
      and_assoc,
      limit-in 2976 u.limits.starts,
      limit-in 744 u.limits.hours,
      limit-in 372000 u.limits.mwh,
      permit_in u.permit,
    )

prices-exactly : (prices : List ℤ) → (prices_kept prices ≡ true) ↔ PricesInRange prices
unfolding prices_kept up dn
prices-exactly prices = (prices-small prices, each prices)
  where
    price : (z : ℤ) → nat_abs z ≤ 200000 → price_kept z ≡ true
    price (pos n) h = rw (le-le_z (negsuc 199999) (pos n) (omega zarith), le-le_z (pos n) (pos 200000) (omega zarith)) refl
    price (negsuc n) h = rw (le-le_z (negsuc 199999) (negsuc n) (omega zarith), le-le_z (negsuc n) (pos 200000) (omega zarith)) refl

    each : (prices : List ℤ) → PricesInRange prices → every price_kept prices ≡ true
    each [] so = refl
    each (z ∷ prices) so = rw (price z (so 0 (omega arith)), each prices (λ i h. so (suc i) (omega arith))) refl

pub case-range : (u : UnitRecord) (prices : List ℤ) → ((ranges_kept u && prices_kept prices) ≡ true) ↔ (InRange (case_figures u) × PricesInRange prices)
case-range u prices =
    and_so (ranges_kept u) (prices_kept prices)
    (Iff.trans (λ e. sym (case-in u) ∙ e, λ e. case-in u ∙ e) (in-range-exactly (case_figures u)))
    (prices-exactly prices)

pub cost-range : (k : CostInputs) (mws heats : List ℕ) → ((inputs_kept k && segments_kept mws heats) ≡ true) ↔ InRange (cost_ranges k mws heats)
unfolding inputs_kept segments_kept
cost-range k mws heats = Iff.trans (λ e. sym same ∙ e, λ e. same ∙ e) (in-range-exactly (cost_ranges k mws heats))
  where
    same : (inputs_kept k && segments_kept mws heats) ≡ in_range (cost_ranges k mws heats)
    same =
        simp (
          in-append (map (λ mw. ranges.◌to◌is◌ 1 500 mw) mws) (map (λ heat. ranges.◌to◌is◌ 1 50000 heat) heats),
          from_zero,
          and_assoc,
          each_in 500 mws,
          each_in 50000 heats,
        )

pub curve-range : (k : CurveInputs) (levels rates : List ℕ)
    → ((curves.inputs_kept k && points_kept levels rates) ≡ true) ↔ InRange (curve_ranges k levels rates)
unfolding points_kept
curve-range k levels rates = Iff.trans (λ e. sym same ∙ e, λ e. same ∙ e) (in-range-exactly (curve_ranges k levels rates))
  where
    same : (curves.inputs_kept k && points_kept levels rates) ≡ in_range (curve_ranges k levels rates)
    same =
        simp (
          in-append (map (λ level. ranges.◌to◌is◌ 1 500 level) levels) (map (λ rate. ranges.◌to◌is◌ 1 50000 rate) rates),
          from_zero,
          and_assoc,
          each_in 500 levels,
          each_in 50000 rates,
        )

pub clock-range : (d : Date) (interval : ℕ) → ((date_ranged d && horizon_kept interval) ≡ true) ↔ InRange (clock_ranges d interval)
clock-range d interval = Iff.trans (λ e. sym same ∙ e, λ e. same ∙ e) (in-range-exactly (clock_ranges d interval))
  where
    same : (date_ranged d && horizon_kept interval) ≡ in_range (clock_ranges d interval)
    same = simp (and-true, and_assoc)

-- ---- the other causes

pub misshapen : (block pmin pmax : ℕ) → ((leb pmin pmax && leb (pmax * block) 500) ≡ false) ↔ Misshapen block pmin pmax
misshapen block pmin pmax = either (leb pmin pmax) (leb (pmax * block) 500) (at_most pmin pmax) (at_most (pmax * block) 500)

pub no-such-day : (d : Date) → (exists d ≡ false) ↔ NoSuchDay d
no-such-day d =
    let days = days_in d.year d.month in
    unless-so (exists d) (and_so (leb 1 d.day) (leb d.day days) (leb-true 1 d.day, le-leb 1 d.day) (leb-true d.day days, le-leb d.day days))

pub no-such-date : (p : Permit) → (date_kept p ≡ false) ↔ NoSuchDate p
no-such-date None = (λ e. absurd (false≢true (sym e)), λ no. absurd no)
no-such-date (Some w) = no-such-day w.date

pub horizon : (n : ℕ) → (horizon_kept n ≡ false) ↔ ((n ≡ 0) ⊎ (2976 < n))
horizon n = either (leb 1 n) (leb n 2976) (λ e. let less = leb-false 1 n e in omega arith, λ e. lt-leb 1 n (omega arith)) (at_most n 2976)

pub not-rising : (levels : List ℕ) → (rising levels ≡ false) ↔ NotRising levels
not-rising [] = (λ e. absurd (false≢true (sym e)), λ w. absurd (omega (arith, w.1)))
not-rising (level ∷ levels) = from level levels
  where
    from : (level : ℕ) (levels : List ℕ) → (rising_from level levels ≡ false) ↔ NotRising (level ∷ levels)
    from level [] = (λ e. absurd (false≢true (sym e)), λ w. absurd (omega (arith, w.1)))
    from level (next ∷ levels) =
        Iff.trans (either (ltb level next) (rising_from next levels) (ltb-false level next, le-ltb level next) (from next levels)) (here, found)
      where
        here : (next ≤ level) ⊎ NotRising (next ∷ levels) → NotRising (level ∷ next ∷ levels)
        here = ⊎_elim (λ (h : next ≤ level). (0, omega arith, h)) (λ (w : NotRising (next ∷ levels)). (suc w.0, omega (arith, w.1), w.2))

        found : NotRising (level ∷ next ∷ levels) → (next ≤ level) ⊎ NotRising (next ∷ levels)
        found w = by w.0 w.1 w.2
          where
            by : (i : ℕ) → suc i < length (level ∷ next ∷ levels) → get_or (level ∷ next ∷ levels) (suc i) 0 ≤ get_or (level ∷ next ∷ levels) i 0
                → (next ≤ level) ⊎ NotRising (next ∷ levels)
            by zero short low = inl low
            by (suc i) short low = inr (i, omega arith, low)

-- The laws of the final curve: own prices within half a cent; it rises strictly, covers the levels, asks the greatest own price up to there.
use mathlib.Core.Path.{◌≡◌, refl, sym, subst, ◌∙◌}
use mathlib.Core.Bool.{true}
use mathlib.Core.List.{List, [], ◌∷◌}
use mathlib.Core.Logic.{⊎_elim}
use Prim.Native.Nat.{ℕ, ◌≤◌, ◌<◌}
use native.Mathlib.Omega.{arith}
use borrow.Author.Tests.{ltb-true, le-leb, lt-leb}
use lib.Dec.{ltb}
use lib.IntN.{ℤ}
use lib.ListN.{length}
use lib.Signed.{◌≤ℤ◌, ◌<ℤ◌, ≤ℤ_refl}
use Rattle.lists.proofs.Conjunctions.{both}
use Rattle.integers.specs.Maximum.{maxℤ}
use Rattle.integers.proofs.Maximum.{max-is}
use Rattle.integers.proofs.Order.{lt_z-dec, lt-lt_z, le-lt_z}
use Rattle.rounding.specs.Rounding.{HalfEven}
use Rattle.rounding.proofs.Rounding.{rounded-half-evenℤ}
use Rattle.curves.specs.declared.CurveInputs.{CurveInputs}
use Rattle.curves.specs.declared.Segment.{Segment}
use Rattle.curves.specs.Ranges.{rising_from, rising}
use Rattle.curves.specs.Curve.{price_fraction, own_price, extended, own_from, own_segments, raised, merged, final_curve}
use Rattle.curves.specs.Passes.{curve_from}
use Rattle.curves.specs.Laws.{RisesFrom, Rises, last_from, first_level, last_level, Covers, asked, GreatestFrom, Greatest}
use Rattle.curves.proofs.Steps.{max-up, max-stay, closes, longer}

-- ---- an own price is its fraction rounded once, a half to the even neighbour

pub own-half-even :
    (k : CurveInputs) (level rate level' rate' : ℕ) → level < level' →
    HalfEven (own_price k level rate level' rate') (price_fraction k level rate level' rate')
unfolding own_price
own-half-even k level rate level' rate' h = rounded-half-evenℤ (price_fraction k level rate level' rate') (omega arith)

-- ---- what holds of both ways holds

by-step :
    (P : List Segment → Type 0) (last next : Segment) (rest : List Segment) →
    (last.price <ℤ next.price → P (last ∷ curve_from next rest)) →
    (next.price ≤ℤ last.price → P (curve_from (extended last next.to) rest)) →
    P (curve_from last (next ∷ rest))
by-step P last next rest f g =
    ⊎_elim
    (λ w. subst P (sym (closes last next rest w.0)) (f w.1))
    (λ w. subst P (sym (longer last next rest w.0)) (g w.1))
    (lt_z-dec last.price next.price)

-- ---- it rises strictly

rises-above : (before : ℤ) (last : Segment) (own : List Segment) → before <ℤ last.price → RisesFrom before (curve_from last own)
rises-above before last [] h = (h, tt)
rises-above before last (next ∷ rest) h =
    by-step (RisesFrom before) last next rest
    (λ l. (h, rises-above last.price next rest l))
    (λ l. rises-above before (extended last next.to) rest h)

rises-from : (last : Segment) (own : List Segment) → Rises (curve_from last own)
rises-from last [] = tt
rises-from last (next ∷ rest) =
    by-step Rises last next rest (λ l. rises-above last.price next rest l) (λ l. rises-from (extended last next.to) rest)

curve-rises : (own : List Segment) → Rises (merged (raised own))
curve-rises [] = tt
curve-rises (s ∷ own) = rises-from s own

pub rises : (k : CurveInputs) (levels rates : List ℕ) → Rises (final_curve k levels rates)
unfolding final_curve
rises k levels rates = curve-rises (own_segments k levels rates)

-- ---- it covers the levels

covers-from :
    (to : ℕ) (last : Segment) (own : List Segment) → last.from < last.to → Covers last.to to own →
    Covers last.from to (curve_from last own)
covers-from to last [] h c = (refl, h, c)
covers-from to last (next ∷ rest) h c =
    by-step (Covers last.from to) last next rest
    (λ l. (refl, h, subst (λ (x : ℕ). Covers x to (curve_from next rest)) c.0 (covers-from to next rest (omega (arith, c.0, c.1)) c.2)))
    (λ l. covers-from to (extended last next.to) rest (omega (arith, c.1)) c.2)

-- the own segments do
own-covers :
    (k : CurveInputs) (level rate : ℕ) (levels rates : List ℕ) → rising_from level levels ≡ true → length levels ≡ length rates →
    Covers level (last_from level levels) (own_from k level rate levels rates)
own-covers k level rate [] rates e n = refl
own-covers k level rate (next ∷ levels) [] e n = absurd (omega arith)
own-covers k level rate (next ∷ levels) (rate' ∷ rates) e n =
    let f = both (ltb level next) (rising_from next levels) e in
    (refl, ltb-true level next f.0, own-covers k next rate' levels rates f.1 (omega arith))

covers-own : (from to : ℕ) (own : List Segment) → Covers from to own → Covers from to (merged (raised own))
covers-own from to [] c = c
covers-own from to (s ∷ own) c =
    subst (λ (x : ℕ). Covers x to (curve_from s own)) c.0 (covers-from to s own (omega (arith, c.0, c.1)) c.2)

covered :
    (k : CurveInputs) (levels rates : List ℕ) → rising levels ≡ true → length levels ≡ length rates →
    Covers (first_level levels) (last_level levels) (own_segments k levels rates)
covered k [] rates e n = refl
covered k (level ∷ levels) [] e n = absurd (omega arith)
covered k (level ∷ levels) (rate ∷ rates) e n = own-covers k level rate levels rates e (omega arith)

-- ---- it asks the greatest own price

-- up to the end of the open segment it asks the open segment's
asks-open :
    (to level : ℕ) (last : Segment) (own : List Segment) → Covers last.to to own → level ≤ last.to →
    asked level (curve_from last own) ≡ last.price
asks-open to level last [] c h = simp (le-leb level last.to h)
asks-open to level last (next ∷ rest) c h =
    by-step (λ (curve : List Segment). asked level curve ≡ last.price) last next rest
    (λ l. simp (le-leb level last.to h))
    (λ l. asks-open to level (extended last next.to) rest c.2 (omega (arith, c.1)))

-- a segment in front has no part in what is asked behind it
behind :
    (last : Segment) (curve : List Segment) (before : ℤ) (to end : ℕ) (own : List Segment) →
    last.to ≤ end → Covers end to own → GreatestFrom curve before own → GreatestFrom (last ∷ curve) before own
behind last curve before to end [] h c g = tt
behind last curve before to end (s ∷ own) h c g = (
  record { is = λ level f l. rw (lt-leb level last.to (omega (arith, c.0))) (g.0.is level f l); own = g.0.own },
  behind last curve (maxℤ before s.price) to s.to own (omega (arith, c.1)) c.2 g.1,
)

greatest-from :
    (to : ℕ) (last : Segment) (own : List Segment) → Covers last.to to own →
    GreatestFrom (curve_from last own) last.price own
greatest-from to last [] c = tt
greatest-from to last (next ∷ rest) c =
    let own = (max-is last.price next.price).right in
    by-step (λ (curve : List Segment). GreatestFrom curve last.price (next ∷ rest)) last next rest
    (λ l.
    let max = sym (max-up last.price next.price (lt-lt_z last.price next.price l)) in (
      record { is = λ level f h. simp (lt-leb level last.to (omega (arith, c.0))) (asks-open to level next rest c.2 h ∙ max); own = own },
      subst (λ (m : ℤ). GreatestFrom (last ∷ curve_from next rest) m rest) max
          (behind last (curve_from next rest) next.price to next.to rest (omega (arith, c.1)) c.2 (greatest-from to next rest c.2)),
    ))
    (λ l.
    let max = sym (max-stay last.price next.price (le-lt_z last.price next.price l)) in
    let longer = extended last next.to in (
      record { is = λ level f h. asks-open to level longer rest c.2 h ∙ max; own = own },
      subst (λ (m : ℤ). GreatestFrom (curve_from longer rest) m rest) max (greatest-from to longer rest c.2),
    ))

curve-greatest : (from to : ℕ) (own : List Segment) → Covers from to own → Greatest (merged (raised own)) own
curve-greatest from to [] c = tt
curve-greatest from to (s ∷ own) c =
    (record { is = λ level f l. asks-open to level s own c.2 l; own = ≤ℤ_refl s.price }, greatest-from to s own c.2)

-- ---- of levels that rise, with as many rates

module _ (k : CurveInputs) (levels rates : List ℕ) (up : rising levels ≡ true) (long : length levels ≡ length rates) where
  pub covers : Covers (first_level levels) (last_level levels) (final_curve k levels rates)
  unfolding final_curve
  covers = covers-own (first_level levels) (last_level levels) (own_segments k levels rates) (covered k levels rates up long)

  pub greatest : Greatest (final_curve k levels rates) (own_segments k levels rates)
  unfolding final_curve
  greatest = curve-greatest (first_level levels) (last_level levels) (own_segments k levels rates) (covered k levels rates up long)

-- The bid curve, as the request asks for it: each theorem in its words, each proof a citation.
use Rattle.std.specs.Prelude.{Err, Ok}
use mathlib.Core.Path.{◌≡◌, refl}
use mathlib.Core.List.{List}
use mathlib.Core.Logic.{◌↔◌}
use Prim.Native.Nat.{ℕ, ◌<◌}
use lib.IntN.{ℤ}
use lib.ListN.{length}
use Rattle.rounding.specs.Rounding.{HalfEven}
use Rattle.commitment.specs.declared.Cause.{Cause}
use Rattle.commitment.specs.Causes.{number_of, answered_number}
use Rattle.curves.specs.declared.CurveInputs.{CurveInputs}
use Rattle.curves.specs.Curve.{price_fraction, own_price, own_segments, final_curve}
use Rattle.curves.specs.Answers.{room, curved, curved_count, filled, from_of, to_of, price_of, froms_left, tos_left, prices_left}
use Rattle.curves.specs.Laws.{Rises, first_level, last_level, Covers, Greatest}
use Rattle.curves.proofs.Curve as curve
use Rattle.curves.proofs.Answers as answers
use Rattle.promises.specs.Causes.{FirstOf, NoneOf, curve_causes}
use Rattle.promises.proofs.CurveCauses as causes

-- ---- 3, then 11, then 7: a number is given only where its cause holds, and every cause that holds is met by a refusal

pub curve-refused :
    (k : CurveInputs) (levels rates : List ℕ) (room : ℕ) (cause : Cause) →
    (curved k levels rates room ≡ Err cause) ↔ FirstOf (curve_causes k levels rates room) cause
curve-refused k levels rates room cause = causes.curve-refused k levels rates room

pub curve-answered :
    (k : CurveInputs) (levels rates : List ℕ) (room : ℕ) →
    (curved k levels rates room ≡ Ok (length (final_curve k levels rates))) ↔ NoneOf (curve_causes k levels rates room)
curve-answered = causes.curve-answered

-- with a refusal come its number and count 0

pub curve-refusal : (cause : Cause) → (answered_number {A = ℕ} (Err cause) ≡ number_of cause) × (curved_count (Err cause) ≡ 0)
curve-refusal cause = (refl, refl)

module _ (k : CurveInputs) (levels rates froms tos : List ℕ) (prices : List ℤ) where
  -- and every list as it was

  pub lists-untouched :
      (cause : Cause) → curved k levels rates (room froms tos prices) ≡ Err cause →
      (froms_left k levels rates froms tos prices ≡ froms) × (tos_left k levels rates froms tos prices ≡ tos)
      × (prices_left k levels rates froms tos prices ≡ prices)
  lists-untouched cause e = (
    causes.list-untouched k levels rates _ from_of froms e,
    causes.list-untouched k levels rates _ to_of tos e,
    causes.list-untouched k levels rates _ price_of prices e,
  )

  -- else the segments stand in front of each, and the rest is untouched

  pub lists_filled :
      (n : ℕ) → curved k levels rates (room froms tos prices) ≡ Ok n →
      (n ≡ length (final_curve k levels rates)) × (froms_left k levels rates froms tos prices ≡ filled from_of (final_curve k levels rates) froms)
      × (tos_left k levels rates froms tos prices ≡ filled to_of (final_curve k levels rates) tos)
      × (prices_left k levels rates froms tos prices ≡ filled price_of (final_curve k levels rates) prices)
  lists_filled n e = (
    answers.count-is k levels rates _ e,
    answers.list-filled k levels rates _ e from_of froms,
    answers.list-filled k levels rates _ e to_of tos,
    answers.list-filled k levels rates _ e price_of prices,
  )

-- ---- a segment's own price is rounded once: within half a cent of its fraction, below zero too, and even where it is half a cent from it

pub own-half-even :
    (k : CurveInputs) (level rate level' rate' : ℕ) → level < level' →
    HalfEven (own_price k level rate level' rate') (price_fraction k level rate level' rate')
own-half-even = curve.own-half-even

-- ---- the final curve rises strictly and covers the same levels

pub curve-rises : (k : CurveInputs) (levels rates : List ℕ) → Rises (final_curve k levels rates)
curve-rises = curve.rises

module _ (k : CurveInputs) (levels rates : List ℕ) (room n : ℕ) (answered : curved k levels rates room ≡ Ok n) where
  pub curve-covers : Covers (first_level levels) (last_level levels) (final_curve k levels rates)
  curve-covers = answers.covers k levels rates room answered

  -- ---- over each given segment it asks the greatest of the own prices up to there, and so at least the segment's own

  pub curve-greatest : Greatest (final_curve k levels rates) (own_segments k levels rates)
  curve-greatest = answers.greatest k levels rates room answered

-- Where segments were answered, the check had passed, and they are the final curve's: so the laws of the curve hold of them.
use Rattle.std.specs.Prelude.{Err, Ok}
use mathlib.Core.Path.{◌≡◌, refl}
use mathlib.Core.List.{List}
use Prim.Native.Nat.{ℕ}
use native.Mathlib.Omega.{arith}
use lib.ListN.{length}
use Rattle.commitment.specs.Types.{Checked}
use Rattle.curves.specs.declared.CurveInputs.{CurveInputs}
use Rattle.curves.specs.declared.Segment.{Segment}
use Rattle.curves.specs.Ranges.{curve_checked}
use Rattle.curves.specs.Curve.{own_segments, final_curve}
use Rattle.curves.specs.Answers.{curved_by, curved, filled, curve_left}
use Rattle.curves.specs.Laws.{first_level, last_level, Covers, Greatest}
use Rattle.curves.proofs.Ranges.{accepted}
use Rattle.curves.proofs.Curve as curve

passed : (found : Checked) (curve : List Segment) (n : ℕ) → curved_by found curve ≡ Ok n → (found ≡ Ok tt) × (n ≡ length curve)
passed (Ok _) curve n e = (refl, cc)
passed (Err cause) curve n e = let z : ◌≡◌ {A = ℕ} 0 1 = cc in absurd (omega arith)

module _ (k : CurveInputs) (levels rates : List ℕ) (room : ℕ) {n : ℕ} (answered : curved k levels rates room ≡ Ok n) where
  given : (curve_checked k levels rates room ≡ Ok tt) × (n ≡ length (final_curve k levels rates))
  unfolding curved
  given = passed (curve_checked k levels rates room) (final_curve k levels rates) n answered

  pub count-is : n ≡ length (final_curve k levels rates)
  count-is = given.1

  -- a lent list has the curve in front, and behind it what was there
  pub list-filled :
      {A : Type 0} (part : Segment → A) (was : List A) →
      curve_left k levels rates room part was ≡ filled part (final_curve k levels rates) was
  unfolding curve_left
  list-filled part was = rw given.0

  pub covers : Covers (first_level levels) (last_level levels) (final_curve k levels rates)
  covers = let a = accepted k levels rates room given.0 in curve.covers k levels rates a.up a.lengths

  pub greatest : Greatest (final_curve k levels rates) (own_segments k levels rates)
  greatest = let a = accepted k levels rates room given.0 in curve.greatest k levels rates a.up a.lengths

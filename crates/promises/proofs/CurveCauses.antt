-- Of a bid curve: a number exactly where its cause is the first of the order that holds, segments exactly where none holds, and on a refusal the
-- lists as they were.
use Rattle.std.specs.Prelude.{Err, Ok}
use mathlib.Core.Path.{◌≡◌, refl}
use mathlib.Core.Bool.{◌&&◌}
use mathlib.Core.List.{List}
use mathlib.Core.Logic.{◌↔◌}
use Prim.Native.Nat.{ℕ, ◌-◌}
use native.Mathlib.Omega.{arith}
use lib.Dec.{leb, eqb}
use lib.ListN.{length}
use Rattle.commitment.specs.declared.Cause.{Cause}
use Rattle.commitment.specs.Types.{Checked}
use Rattle.curves.specs.declared.CurveInputs.{CurveInputs}
use Rattle.curves.specs.declared.Segment.{Segment}
use Rattle.curves.specs.Ranges.{inputs_kept, points_kept, curve_checks, curve_checked}
use Rattle.curves.specs.Curve.{final_curve}
use Rattle.curves.specs.Answers.{curved_by, curved, left_by, curve_left}
use Rattle.promises.specs.Causes.{FirstOf, NoneOf, curve_causes}
use Rattle.promises.proofs.FirstCause.{Judged, Answers, answer-refused, answer-given}
use Rattle.promises.proofs.Ranges.{unless-so, at_most, as_many, either, curve-range, not-rising}

module _ (k : CurveInputs) (levels rates : List ℕ) (room : ℕ) where
  judged : Judged (curve_checks k levels rates room) (curve_causes k levels rates room)
  judged = (
    refl,
    unless-so (inputs_kept k && points_kept levels rates) (curve-range k levels rates),
    λ _. (
      refl,
      not-rising levels,
      λ _. (
        refl,
        either (eqb (length levels) (length rates)) (leb (length levels - 1) room) (as_many (length levels) (length rates))
            (at_most (length levels - 1) room),
        λ _. tt,
      ),
    ),
  )

  curve-answers : Answers (λ c. curved_by c (final_curve k levels rates)) Err
  curve-answers = record { is = λ _. refl; alike = λ _ _ e. cc; other = λ _ e. let z : ◌≡◌ {A = ℕ} 0 1 = cc in absurd (omega arith) }

  pub curve-refused : {cause : Cause} → (curved k levels rates room ≡ Err cause) ↔ FirstOf (curve_causes k levels rates room) cause
  unfolding curved curve_checked
  curve-refused = answer-refused curve-answers (curve_checks k levels rates room) (curve_causes k levels rates room) judged

  pub curve-answered :
      (curved k levels rates room ≡ Ok (length (final_curve k levels rates))) ↔ NoneOf (curve_causes k levels rates room)
  unfolding curved curve_checked
  curve-answered = answer-given curve-answers (curve_checks k levels rates room) (curve_causes k levels rates room) judged

  pub list-untouched :
      {A : Type 0} (part : Segment → A) (was : List A) {cause : Cause} → curved k levels rates room ≡ Err cause →
      curve_left k levels rates room part was ≡ was
  unfolding curved curve_left
  list-untouched part was {cause} e = by (curve_checked k levels rates room) e
    where
      by : (c : Checked) → curved_by c (final_curve k levels rates) ≡ Err cause → left_by c part (final_curve k levels rates) was ≡ was
      by (Ok _) e = let z : ◌≡◌ {A = ℕ} 0 1 = cc in absurd (omega arith)
      by (Err given) e = refl

-- What it says of a schedule that it was passed.
use Rattle.std.specs.Prelude.{Err, Ok}
use mathlib.Core.Path.{◌≡◌, refl, sym, ap, ap₂, ◌∙◌}
use mathlib.Core.Bool.{Bool, ◌&&◌}
use mathlib.Core.List.{List}
use mathlib.Core.Logic.{◌↔◌}
use Prim.Native.Nat.{ℕ}
use native.Mathlib.Omega.{arith}
use lib.IntN.{ℤ}
use lib.ListN.{length}
use lib.Dec.{eqb}
use Rattle.commitment.specs.declared.Cause.TheVariants.{Length, NotKept}
use Rattle.commitment.specs.Types.{Checked}
use Rattle.commitment.specs.declared.UnitRecord.{UnitRecord}
use Rattle.commitment.specs.Causes.{unless}
use Rattle.commitment.specs.Keeping.{keeps_case}
use Rattle.commitment.specs.Profit.{profit}
use Rattle.commitment.specs.Ranges.{prices_kept, case_checks, case_checked}
use Rattle.lists.specs.Every.{every}
use Rattle.commitment.specs.Rivals.{Rival}
use Rattle.commitment.specs.Schedule.{is_output, is_schedule}
use Rattle.lists.proofs.Conjunctions.{both}
use Rattle.commitment.proofs.Causes.{checked_then, unless-passed, then-passed, in-turn}
use Rattle.assessment.specs.Assessed.{handed_checks, assessed_by, handed_in, hand_in_checked, assessed}

-- ---- a schedule that was passed

assessed-profit : (k : Checked) (p q : ℤ) → assessed_by k p ≡ Ok q → (k ≡ Ok tt) × (p ≡ q)
assessed-profit (Ok _) p q e = (refl, (cc))
assessed-profit (Err cause) p q e = let z : ◌≡◌ {A = ℕ} 0 1 = cc in absurd (omega arith)

-- the causes of the case first
pub hand-in-turn : (u : UnitRecord) (prices : List ℤ) (s : List ℕ)
    → hand_in_checked u prices s ≡ checked_then (case_checked u (prices_kept prices) (length prices)) (handed_in u prices s)
unfolding hand_in_checked case_checked
hand-in-turn u prices s = in-turn (case_checks u (prices_kept prices) (length prices)) (handed_checks u prices s)

-- passed exactly when no cause of the case holds, the schedule keeps it, and the profit is formula (7)'s
pub passed-exactly : (u : UnitRecord) (prices : List ℤ) (s : List ℕ) (p : ℤ)
    → (assessed u prices s ≡ Ok p) ↔ ((case_checked u (prices_kept prices) (length prices) ≡ Ok tt) × Rival u prices s × (profit u prices s ≡ p))
passed-exactly u prices s p = (told, given)
  where
    told : assessed u prices s ≡ Ok p → (case_checked u (prices_kept prices) (length prices) ≡ Ok tt) × Rival u prices s × (profit u prices s ≡ p)
    told e =
        let a = assessed-profit (hand_in_checked u prices s) (profit u prices s) p e in
        let b = then-passed (case_checked u (prices_kept prices) (length prices)) (handed_in u prices s) (sym (hand-in-turn u prices s) ∙ a.0) in
        let c = unless-passed (eqb (length s) (length prices)) Length _ b.1 in
        let d = unless-passed (is_schedule u.generator (length prices) s && keeps_case u s) NotKept (Ok tt) c.1 in
        let k = both (is_schedule u.generator (length prices) s) (keeps_case u s) d.0 in
        (b.0, record { schedule = k.0; kept = k.1 }, a.1)

    given : (case_checked u (prices_kept prices) (length prices) ≡ Ok tt) × Rival u prices s × (profit u prices s ≡ p) → assessed u prices s ≡ Ok p
    given h =
        let long = (both (eqb (length s) (length prices)) (every (is_output u.generator) s) h.1.schedule).0 in
        let handed : handed_in u prices s ≡ Ok tt =
        ap₂ (λ (a b : Bool). unless a Length (unless b NotKept (Ok tt))) long (ap₂ ◌&&◌ h.1.schedule h.1.kept) in
        ap (λ (k : Checked). assessed_by k (profit u prices s)) (hand-in-turn u prices s ∙ ap₂ checked_then h.0 handed) ∙ ap Ok h.2

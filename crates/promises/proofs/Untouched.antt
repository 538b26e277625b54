-- On a refusal the price slice and the schedule slice are as they were, and the part that comes back is empty; and what becomes of the scratch.
use Rattle.std.specs.Prelude.{Err, Ok}
use mathlib.Core.Path.{◌≡◌, refl, sym, ap, ◌∙◌}
use mathlib.Core.Bool.{Bool, true, false, not}
use mathlib.Core.List.{List, [], ◌∷◌}
use Prim.Native.Nat.{ℕ}
use native.Mathlib.Omega.{arith}
use borrow.Author.Tests.{eqb-false, not-true}
use lib.Dec.{leb, eqb}
use lib.IntN.{ℤ}
use lib.ListN.{length}
use Rattle.lists.specs.Every.{every}
use Rattle.lists.proofs.Conjunctions.{both}
use Rattle.commitment.specs.declared.Cause.{Cause}
use Rattle.commitment.specs.declared.Cause.TheVariants.{NoSchedule}
use Rattle.commitment.specs.Types.{Checked}
use Rattle.commitment.specs.declared.UnitRecord.{UnitRecord}
use Rattle.commitment.specs.Best.{Plan, nothing, plan, best}
use Rattle.commitment.specs.Causes.{number_of, Check, unless, first_of}
use Rattle.commitment.specs.Cells.{cells_used}
use Rattle.commitment.specs.Valuing.{outcomes_of}
use Rattle.commitment.proofs.Causes.{checked_then}
use Rattle.casefile.specs.Answers.{read_by, prices_left, front_part, read_case, read_prices, read_part}
use Rattle.casefile.specs.Reading.{unit_in, prices_in, text_checked}
use Rattle.planner.specs.Planning.{has_schedule, lent_checks, lent_checked, schedule_checked, plan_checked, planned_by, planned, planned_part, part_given}
use Rattle.planner.specs.Planning.{schedule_after, schedule_left, scratch_after, scratch_left}
use Rattle.planner.specs.Reporting.{reported_by, reported, plan_in}
use Rattle.planner.specs.Valuing.{value_lent, value_checked, valued_by, valued, scratch_valued}
use Rattle.planner.proofs.Answering.{plan-in}
use Rattle.planner.proofs.Lent.{plan-turn, value_lent_lem, value-turn}
use Rattle.promises.specs.Scratch.{cleared}
use Rattle.promises.proofs.Causes.{plan-found}

pub prices-untouched : (text : List ℕ) (slice : List ℤ) {cause : Cause} → read_case text (length slice) ≡ Err cause
    → (read_prices text slice ≡ slice) × (read_part text (length slice) ≡ [])
unfolding read_case read_prices read_part
prices-untouched text slice {cause} e = by (text_checked text (length slice)) e
  where
    by : (k : Checked) → read_by k (unit_in text) (length (prices_in text)) ≡ Err cause
        → (prices_left k (prices_in text) slice ≡ slice) × (front_part k (prices_in text) ≡ [])
    by (Ok _) e = let z : ◌≡◌ {A = ℕ} 0 1 = cc in absurd (omega arith)
    by (Err c) e = (refl, refl)

module _ (u : UnitRecord) (prices : List ℤ) (cells : ℕ) (slice : List ℕ) where
  abbrev Untouched : Type 0
  Untouched = (schedule_left u prices cells slice ≡ slice) × (part_given u prices cells (length slice) ≡ [])

  pub plan-untouched : {cause : Cause} → planned u prices cells (length slice) ≡ Err cause → Untouched
  plan-untouched {cause} e = by (plan_checked u prices cells (length slice)) (best u prices) e
    where
      by : (k : Checked) (b : Plan) → planned_by k b ≡ Err cause → (schedule_after k b slice ≡ slice) × (planned_part k b ≡ [])
      by (Ok _) nothing e = (refl, refl)
      by (Ok _) (plan s p) e = let z : ◌≡◌ {A = ℕ} 0 1 = cc in absurd (omega arith)
      by (Err c) b e = (refl, refl)

  pub report-untouched : {cause : Cause} → reported u prices cells (length slice) ≡ Err cause → Untouched
  report-untouched {cause} e = by (plan_checked u prices cells (length slice)) (best u prices) e
    where
      by : (k : Checked) (b : Plan) → reported_by k b (outcomes_of u prices) ≡ Err cause
          → (schedule_after k b slice ≡ slice) × (planned_part k b ≡ [])
      by (Ok _) nothing e = (refl, refl)
      by (Ok _) (plan s p) e = let z : ◌≡◌ {A = ℕ} 0 1 = cc in absurd (omega arith)
      by (Err c) b e = (refl, refl)

-- ---- the scratch: as it was, but for 9, after which the cells used are 0

-- a number that no check has is not found
abbrev without : ℕ → Check → Bool
without number check = not (eqb (number_of check.cause) number)

not_found : (number : ℕ) (checks : List Check) → every (without number) checks ≡ true
    → (cause : Cause) → first_of checks ≡ Err cause → number_of cause ≡ number → ⊥
not_found number [] away cause e is = let z : ◌≡◌ {A = ℕ} 0 1 = cc in absurd (omega arith)
not_found number (check ∷ checks) away cause e is =
    let k = both (without number check) (every (without number) checks) away in
    by check.kept k.0 (λ i. not_found number checks k.1 cause i is) e
  where
    by : (t : Bool) → without number check ≡ true → (first_of checks ≡ Err cause → ⊥) → unless t check.cause (first_of checks) ≡ Err cause → ⊥
    by true here rest e = rest e
    by false here rest e = let same : check.cause ≡ cause = cc in eqb-false _ _ (not-true _ here) (ap number_of same ∙ is)

module _ (u : UnitRecord) (prices was : List ℤ) where
  abbrev pub ScratchAfter : Cause → List ℤ → Type 0
  ScratchAfter cause left =
      (cause ≡ NoSchedule → left ≡ cleared u prices was)
      × ((cause ≡ NoSchedule → ⊥) → left ≡ was)

  -- by what was found before the work
  after : (before : Checked) (done : Checked) {cause : Cause} → ((given : Cause) → before ≡ Err given → given ≡ NoSchedule → ⊥)
      → (done ≡ Err cause → cause ≡ NoSchedule) → checked_then before done ≡ Err cause
      → ScratchAfter cause (scratch_after before (cells_used u (length prices) (length was)) was)
  after (Ok _) done other nine e = (λ _. refl, λ no. absurd (no (nine e)))
  after (Err given) done {cause} other nine e =
      let same : given ≡ cause = cc in
      (λ is. absurd (other given refl (same ∙ is)), λ _. refl)

  nine : {cause : Cause} → schedule_checked u prices ≡ Err cause → cause ≡ NoSchedule
  nine {cause} e = by (has_schedule (best u prices)) e
    where
      by : (t : Bool) → unless t NoSchedule (Ok tt) ≡ Err cause → cause ≡ NoSchedule
      by true e = let z : ◌≡◌ {A = ℕ} 0 1 = cc in absurd (omega arith)
      by false e = let same : NoSchedule ≡ cause = cc in sym same

  -- 9 is found by the work alone
  lent_other : (long : Bool) (cells : ℕ) (cause : Cause) → lent_checked u prices long cells ≡ Err cause → cause ≡ NoSchedule → ⊥
  unfolding lent_checked
  lent_other long cells cause e is = not_found 9 (lent_checks u prices long cells) refl cause e (ap number_of is)

  -- the cause of a plan, and of its report
  pub plan-scratch : (entries : ℕ) {cause : Cause} → planned u prices (length was) entries ≡ Err cause
      → ScratchAfter cause (scratch_left u prices entries was)
  plan-scratch entries {cause} e =
      after (lent_checked u prices (leb (length prices) entries) (length was)) (schedule_checked u prices)
      (lent_other (leb (length prices) entries) (length was)) nine
      (sym (plan-turn u prices (length was) entries) ∙ by (plan_checked u prices (length was) entries) (best u prices) refl refl e)
    where
      by : (k : Checked) (b : Plan) → plan_checked u prices (length was) entries ≡ k → best u prices ≡ b
          → planned_by k b ≡ Err cause → k ≡ Err cause
      by (Ok _) nothing i none e = absurd (plan-found u prices (length was) entries i none)
      by (Ok _) (plan s p) i is e = let z : ◌≡◌ {A = ℕ} 0 1 = cc in absurd (omega arith)
      by (Err given) b i is e = let same : given ≡ cause = cc in ap Err same

  pub report-scratch : (entries : ℕ) {cause : Cause} → reported u prices (length was) entries ≡ Err cause
      → ScratchAfter cause (scratch_left u prices entries was)
  report-scratch entries e =
      plan-scratch entries (sym (plan-in (plan_checked u prices (length was) entries) (best u prices) (outcomes_of u prices)) ∙ ap plan_in e)

  pub value-scratch : {cause : Cause} → valued u prices (length was) ≡ Err cause → ScratchAfter cause (scratch_valued u prices was)
  value-scratch {cause} e =
      after (value_lent u prices (length was)) (schedule_checked u prices)
      (λ given i. lent_other true (length was) given (value_lent_lem u prices (length was) ∙ i)) nine
      (sym (value-turn u prices (length was)) ∙ by (value_checked u prices (length was)) e)
    where
      by : (k : Checked) → valued_by k (outcomes_of u prices) ≡ Err cause → k ≡ Err cause
      by (Ok _) e = let z : ◌≡◌ {A = ℕ} 0 1 = cc in absurd (omega arith)
      by (Err given) e = let same : given ≡ cause = cc in ap Err same

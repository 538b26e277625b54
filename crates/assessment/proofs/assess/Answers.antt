-- A case that its check refuses keeps that cause; any other is settled by its schedule.
use Rattle.std.specs.Prelude.{List, ℕ, ℤ, Ok, Err}
use Rattle.std.proofs.Common.{rules, ◌≡◌, ap, sym, ◌∙◌, length}
use Rattle.commitment.specs.declared.UnitRecord.{UnitRecord}
use Rattle.commitment.specs.Types.{Checked}
use Rattle.commitment.specs.Profit.{profit}
use Rattle.commitment.specs.Ranges.{prices_kept, case_checked}
use Rattle.commitment.proofs.Causes.{checked_then}
use Rattle.assessment.specs.Assessed.{assessed_by, handed_in, assessed}
use Rattle.assessment.proofs.Passed.{hand-in-turn}
use Rattle.assessment.proofs.assess.Goals as goal

-- the answer by what the check found
found : (u : UnitRecord) (prices : List ℤ) (s : List ℕ) (k : Checked) → case_checked u (prices_kept prices) (length prices) ≡ k
    → assessed u prices s ≡ assessed_by (checked_then k (handed_in u prices s)) (profit u prices s)
found u prices s k e =
    ap (λ (k : Checked). assessed_by k (profit u prices s))
    (hand-in-turn u prices s ∙ ap (λ (k : Checked). checked_then k (handed_in u prices s)) e)

pub returns-in_err-check_case : goal.returns-in_err-check_case
returns-in_err-check_case c =
    let a = c.args in
    let case = rw c.prices_kept-priced.ensures at c.check_case.ensures in
    rw (found a.unit a.prices.now a.schedule.now (Err _) (sym case ∙ c.in_err-check_case.was)) (search rules)

pub returns : goal.returns
returns c =
    let a = c.args in
    let case = rw c.prices_kept-priced.ensures at c.check_case.ensures in
    c.of_case.ensures ∙ sym (found a.unit a.prices.now a.schedule.now (Ok tt) (sym case ∙ c.in_ok-check_case.was))

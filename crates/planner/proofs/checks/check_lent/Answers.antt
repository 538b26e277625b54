-- The causes of the case first.
use Rattle.std.specs.Prelude.{List, ℤ, ℕ, Bool, Ok, Err}
use Rattle.std.proofs.Common.{rules, ◌≡◌, sym, ap, ◌∙◌, length}
use Rattle.commitment.specs.declared.UnitRecord.{UnitRecord}
use Rattle.commitment.specs.Types.{Checked}
use Rattle.commitment.specs.Causes.{first_of}
use Rattle.commitment.specs.Ranges.{prices_kept, case_checked}
use Rattle.commitment.proofs.Causes.{checked_then}
use Rattle.commitment.proofs.Passing.{passing}
use Rattle.planner.specs.Planning.{slices_checks, lent_checked}
use Rattle.planner.proofs.Lent.{lent-turn}
use Rattle.planner.proofs.checks.check_lent.Goals as goal

-- by what the check of the case comes to, the rest of the checks
found : (u : UnitRecord) (prices : List ℤ) (long : Bool) (scratch : ℕ) {k : Checked} → case_checked u (prices_kept prices) (length prices) ≡ k
    → checked_then k (first_of (slices_checks u (length prices) long scratch)) ≡ lent_checked u prices long scratch
found u prices long scratch e =
    ap (λ (k : Checked). checked_then k (first_of (slices_checks u (length prices) long scratch))) (sym e) ∙ sym (lent-turn u prices long scratch)

pub check_slices-requires : goal.check_slices-requires
check_slices-requires c =
    let a = c.args in
    let case = rw c.prices_kept-priced.ensures at c.check_case.ensures in
    (passing a.unit (prices_kept a.prices.now) (length a.prices.now) (sym case ∙ c.in_ok-check_case.was)).order

pub returns-in_err-check_case : goal.returns-in_err-check_case
returns-in_err-check_case c =
    let a = c.args in
    let case = rw c.prices_kept-priced.ensures at c.check_case.ensures in
    rw (sym (found a.unit a.prices.now a.long a.scratch (sym case ∙ c.in_err-check_case.was))) (search rules)

pub returns : goal.returns
returns c =
    let a = c.args in
    let case = rw c.prices_kept-priced.ensures at c.check_case.ensures in
    c.check_slices.ensures ∙ found a.unit a.prices.now a.long a.scratch (sym case ∙ c.in_ok-check_case.was)

-- A case that its checks refuse keeps that cause, and nothing is touched.
use Rattle.std.specs.Prelude.{List, ℤ, ℕ, Ok, Err}
use Rattle.std.proofs.Common.{rules, ◌≡◌, true, sym, ap, ◌∙◌, length}
use Rattle.commitment.specs.declared.UnitRecord.{UnitRecord}
use Rattle.commitment.specs.Types.{Checked}
use Rattle.commitment.specs.Cells.{cells_used}
use Rattle.commitment.specs.Valuing.{outcomes_of}
use Rattle.commitment.proofs.Causes.{checked_then}
use Rattle.planner.specs.Planning.{lent_checked, schedule_checked, scratch_after}
use Rattle.planner.specs.Valuing.{valued_by, valued, scratch_valued, value_lent}
use Rattle.planner.proofs.Lent.{value_lent_lem, value-turn}
use Rattle.planner.proofs.value.Goals as goal

-- answer and scratch by what is found before any work
module _ (u : UnitRecord) (prices scratch : List ℤ) {k : Checked} (found : lent_checked u prices true (length scratch) ≡ k) where
  lent_is : k ≡ value_lent u prices (length scratch)
  lent_is = sym found ∙ value_lent_lem u prices (length scratch)

  answer-is : valued_by (checked_then k (schedule_checked u prices)) (outcomes_of u prices) ≡ valued u prices (length scratch)
  answer-is =
      ap (λ (k : Checked). valued_by (checked_then k (schedule_checked u prices)) (outcomes_of u prices)) lent_is
      ∙ ap (λ (j : Checked). valued_by j (outcomes_of u prices)) (sym (value-turn u prices (length scratch)))

  cells_are : scratch_after k (cells_used u (length prices) (length scratch)) scratch ≡ scratch_valued u prices scratch
  cells_are = ap (λ (k : Checked). scratch_after k (cells_used u (length prices) (length scratch)) scratch) lent_is

pub returns-in_err-check_lent-clause-value : goal.returns-in_err-check_lent-clause-value
returns-in_err-check_lent-clause-value c =
    rw (sym (answer-is c.args.unit c.args.prices.now c.args.scratch.now (sym c.check_lent.ensures ∙ c.in_err-check_lent.was))) (search rules)

pub returns-in_err-check_lent-clause-scratch_after : goal.returns-in_err-check_lent-clause-scratch_after
returns-in_err-check_lent-clause-scratch_after c =
    cells_are c.args.unit c.args.prices.now c.args.scratch.now (sym c.check_lent.ensures ∙ c.in_err-check_lent.was)

pub returns-clause-value : goal.returns-clause-value
returns-clause-value c =
    c.value_case.ensures.value ∙ answer-is c.args.unit c.args.prices.now c.args.scratch.now (sym c.check_lent.ensures ∙ c.in_ok-check_lent.was)

pub returns-clause-scratch_after : goal.returns-clause-scratch_after
returns-clause-scratch_after c =
    c.value_case.ensures.scratch_after ∙ cells_are c.args.unit c.args.prices.now c.args.scratch.now (sym c.check_lent.ensures ∙ c.in_ok-check_lent.was)

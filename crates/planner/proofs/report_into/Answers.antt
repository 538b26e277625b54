-- A case that its checks refuse keeps that cause, and nothing is touched.
use Rattle.std.specs.Prelude.{List, ℤ, ℕ, Ok, Err}
use Rattle.std.proofs.Common.{rules, ◌≡◌, ◌≤◌, true, sym, ap, ◌∙◌, length}
use borrow.Author.Tests.{leb-true}
use lib.Dec.{leb}
use Rattle.commitment.specs.declared.UnitRecord.{UnitRecord}
use Rattle.commitment.specs.Types.{Checked}
use Rattle.commitment.specs.Best.{best}
use Rattle.commitment.specs.Cells.{cells_used}
use Rattle.commitment.specs.Valuing.{outcomes_of}
use Rattle.commitment.proofs.Causes.{checked_then}
use Rattle.planner.specs.Planning.{lent_checked, plan_checked, schedule_checked, schedule_after, scratch_after, schedule_left}
use Rattle.planner.specs.Reporting.{reported_by, reported}
use Rattle.planner.proofs.Lent.{lent, plan-turn}
use Rattle.planner.proofs.report_into.Goals as goal

-- answer, schedule and scratch by what is found before any work
module _ (u : UnitRecord) (prices scratch : List ℤ) (was : List ℕ) {k : Checked}
    (found : lent_checked u prices (leb (length prices) (length was)) (length scratch) ≡ k) where
  whole : checked_then k (schedule_checked u prices) ≡ plan_checked u prices (length scratch) (length was)
  whole = ap (λ (j : Checked). checked_then j (schedule_checked u prices)) (sym found) ∙ sym (plan-turn u prices (length scratch) (length was))

  answer-is : reported_by (checked_then k (schedule_checked u prices)) (best u prices) (outcomes_of u prices) ≡ reported u prices (length scratch) (length was)
  answer-is = ap (λ (k : Checked). reported_by k (best u prices) (outcomes_of u prices)) whole

  schedule-is : schedule_after (checked_then k (schedule_checked u prices)) (best u prices) was ≡ schedule_left u prices (length scratch) was
  schedule-is = ap (λ (k : Checked). schedule_after k (best u prices) was) whole

  cells_are : scratch_after k (cells_used u (length prices) (length scratch)) scratch
      ≡ scratch_after (lent_checked u prices (leb (length prices) (length was)) (length scratch)) (cells_used u (length prices) (length scratch)) scratch
  cells_are = ap (λ (k : Checked). scratch_after k (cells_used u (length prices) (length scratch)) scratch) (sym found)

-- a case that passed has a schedule slice that is long enough
long-passed : (u : UnitRecord) (prices scratch : List ℤ) (was : List ℕ) →
    lent_checked u prices (leb (length prices) (length was)) (length scratch) ≡ Ok tt
    → (lent_checked u prices true (length scratch) ≡ Ok tt) × (length prices ≤ length was)
long-passed u prices scratch was e =
    let long = (lent u prices (leb (length prices) (length was)) (length scratch) e).entries in
    (rw long at e, leb-true (length prices) (length was) long)

pub report_case-requires : goal.report_case-requires
report_case-requires c =
    long-passed c.args.unit c.args.prices.now c.args.scratch.now c.args.schedule.now (sym c.check_lent.ensures ∙ c.in_ok-check_lent.was)

pub returns-in_err-check_lent-clause-value : goal.returns-in_err-check_lent-clause-value
returns-in_err-check_lent-clause-value c =
    rw (sym (answer-is c.args.unit c.args.prices.now c.args.scratch.now c.args.schedule.now (sym c.check_lent.ensures ∙ c.in_err-check_lent.was)))
    (search rules)

pub returns-in_err-check_lent-clause-schedule_after : goal.returns-in_err-check_lent-clause-schedule_after
returns-in_err-check_lent-clause-schedule_after c =
    schedule-is c.args.unit c.args.prices.now c.args.scratch.now c.args.schedule.now (sym c.check_lent.ensures ∙ c.in_err-check_lent.was)

pub returns-in_err-check_lent-clause-scratch_after : goal.returns-in_err-check_lent-clause-scratch_after
returns-in_err-check_lent-clause-scratch_after c =
    cells_are c.args.unit c.args.prices.now c.args.scratch.now c.args.schedule.now (sym c.check_lent.ensures ∙ c.in_err-check_lent.was)

pub returns-clause-value : goal.returns-clause-value
returns-clause-value c =
    c.report_case.ensures.value
    ∙ answer-is c.args.unit c.args.prices.now c.args.scratch.now c.args.schedule.now (sym c.check_lent.ensures ∙ c.in_ok-check_lent.was)

pub returns-clause-schedule_after : goal.returns-clause-schedule_after
returns-clause-schedule_after c =
    c.report_case.ensures.schedule_after
    ∙ schedule-is c.args.unit c.args.prices.now c.args.scratch.now c.args.schedule.now (sym c.check_lent.ensures ∙ c.in_ok-check_lent.was)

pub returns-clause-scratch_after : goal.returns-clause-scratch_after
returns-clause-scratch_after c =
    c.report_case.ensures.scratch_after
    ∙ cells_are c.args.unit c.args.prices.now c.args.scratch.now c.args.schedule.now (sym c.check_lent.ensures ∙ c.in_ok-check_lent.was)

-- The report without its outcomes.
use mathlib.Core.Path.{ap, ◌∙◌}
use lib.ListN.{length}
use Rattle.commitment.specs.Best.{best}
use Rattle.commitment.specs.Valuing.{outcomes_of}
use Rattle.planner.specs.Planning.{plan_checked}
use Rattle.planner.specs.Reporting.{plan_in}
use borrow.Author.Rules.{rules}
use Rattle.planner.proofs.Answering.{plan-in}
use Rattle.planner.proofs.plan_into.Statement.{statement}
use Rattle.planner.proofs.plan_into.Tie as tie

returns : tie.Need-returns
returns c =
    let a = c.before.before.before.before.before.before.before.before.args in
    let found = plan_checked a.unit a.prices.now (length a.scratch.now) (length a.schedule.now) in
    let report = c.before.before.before.before.report_into.ensures in (
      c.plan_of.ensures ∙ ap plan_in report.0 ∙ plan-in found (best a.unit a.prices.now) (outcomes_of a.unit a.prices.now),
      report.1,
    )

pub plan_into_spec : {M : Type 1} → statement M
plan_into_spec =
    tie.close (tie.spec (λ c κs. search rules) (λ c κs. search rules) (λ c. search rules) (λ c. search rules) returns)

-- The front part of the slice that `plan_into` filled.
use Rattle.std.specs.Prelude.{List, ℕ, take}
use Rattle.std.proofs.Common.{sym, ap, ◌∙◌, length}
use Rattle.commitment.specs.Best.{best}
use Rattle.planner.specs.Planning.{plan_checked, planned_by, planned_count}
use Rattle.planner.proofs.Answering.{part-is}
use Rattle.planner.proofs.plan.Goals as goal

pub returns-clause-result_value : goal.returns-clause-result_value
returns-clause-result_value c =
    let a = c.args in
    let found = plan_checked a.unit a.prices.now (length a.scratch.now) (length a.schedule.now) in
    let plan = best a.unit a.prices.now in
    let e = c.plan_into-answer.ensures in
    ap (λ (n : ℕ). take n c.plan_into-answer.new.schedule) (c.planned_count-count.ensures ∙ ap planned_count e.value)
    ∙ ap (take (planned_count (planned_by found plan))) e.schedule_after
    ∙ part-is found plan a.schedule.now

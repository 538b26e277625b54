-- The best profit says whether there is a schedule; then the outcomes are looked up, and the plan follows.
use Rattle.std.specs.Prelude.{List, ℕ, ℤ, Ok, Err}
use Rattle.std.proofs.Common.{rules, ◌≡◌, refl, sym, ap, ◌∙◌, length}
use Rattle.integers.proofs.Ranges.{plain_fits}
use Rattle.commitment.specs.declared.UnitRecord.{UnitRecord}
use Rattle.commitment.specs.declared.Cause.TheVariants.{NoSchedule}
use Rattle.commitment.specs.Best.{Plan, best}
use Rattle.commitment.specs.Causes.{unless}
use Rattle.commitment.specs.Valuing.{outcomes_of}
use Rattle.commitment.proofs.Causes.{ok-was, err-was}
use Rattle.optimality.proofs.Values.{no-earning}
use Rattle.optimality.proofs.Optimal.{plan-length}
use Rattle.planner.specs.Types.{Reported}
use Rattle.planner.specs.Planning.{has_schedule, schedule_after}
use Rattle.planner.specs.Reporting.{reported_by}
use Rattle.planner.proofs.Lent.{told}
use Rattle.planner.proofs.Worked.{no-plan, some-plan, same-report}
use Rattle.planner.proofs.reading.read_report.Goals as goal

-- answer and schedule by the best plan
abbrev answer : UnitRecord → List ℤ → Plan → Reported
answer u prices b = reported_by (unless (has_schedule b) NoSchedule (Ok tt)) b (outcomes_of u prices)

abbrev schedule : List ℕ → Plan → List ℕ
schedule was b = schedule_after (unless (has_schedule b) NoSchedule (Ok tt)) b was

pub invariant_of-runs : goal.invariant_of-runs
invariant_of-runs c =
    let a = c.args in
    let ready = c.requires.0 in
    record { told = (told a.unit a.prices.now a.model a.scratch.now ready.model ready.begun, ready.model.figures) }

pub read_plan-requires-clause-fact : goal.read_plan-requires-clause-fact
read_plan-requires-clause-fact c none = no-earning (sym none ∙ sym c.whole_profit.ensures ∙ ok-was _ _ _ c.in_ok-profit.ensures.value)

pub returns-in_err-profit-clause-value : goal.returns-in_err-profit-clause-value
returns-in_err-profit-clause-value c =
    rw (no-plan (best c.args.unit c.args.prices.now) (sym c.whole_profit.ensures ∙ err-was _ _ _ c.in_err-profit.ensures.value)) (search rules)

pub returns-in_err-profit-clause-schedule_after : goal.returns-in_err-profit-clause-schedule_after
returns-in_err-profit-clause-schedule_after c =
    ap (schedule c.args.schedule.now)
    (sym (no-plan (best c.args.unit c.args.prices.now) (sym c.whole_profit.ensures ∙ err-was _ _ _ c.in_err-profit.ensures.value)))

pub returns-clause-value : goal.returns-clause-value
returns-clause-value c =
    let u = c.args.unit in
    let prices = c.args.prices.now in
    let profit = c.in_ok-profit.profit in
    let some = some-plan (best u prices) profit (sym c.whole_profit.ensures ∙ ok-was _ _ _ c.in_ok-profit.ensures.value) in
    let order = c.requires.0.model.order in
    let long = plan-length u order.ranges order.shape prices some.0 profit some.1 in
    same-report (sym long) (search rules) c.outcomes-outcomes.ensures ∙ ap (answer u prices) (sym some.1)

pub returns-clause-schedule_after : goal.returns-clause-schedule_after
returns-clause-schedule_after c =
    let u = c.args.unit in
    let prices = c.args.prices.now in
    let some = some-plan (best u prices) c.in_ok-profit.profit (sym c.whole_profit.ensures ∙ ok-was _ _ _ c.in_ok-profit.ensures.value) in
    c.read_plan.ensures.schedule_after
    ∙ ap (λ (b : Plan). schedule_after (Ok tt) b c.args.schedule.now) some.1
    ∙ ap (schedule c.args.schedule.now) (sym some.1)

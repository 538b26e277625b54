-- The best profit says whether there is a schedule; then the outcomes are looked up.
use Rattle.std.specs.Prelude.{Ok, Err}
use Rattle.std.proofs.Common.{rules, sym, ap, ◌∙◌}
use Rattle.commitment.specs.declared.Cause.TheVariants.{NoSchedule}
use Rattle.commitment.specs.Best.{Plan, best}
use Rattle.commitment.specs.Causes.{unless}
use Rattle.commitment.specs.Valuing.{outcomes_of}
use Rattle.commitment.proofs.Causes.{ok-was, err-was}
use Rattle.planner.specs.Planning.{has_schedule}
use Rattle.planner.specs.Valuing.{valued_by}
use Rattle.planner.proofs.Worked.{no-plan, some-plan}
use Rattle.planner.proofs.reading.read_outcomes.Goals as goal

pub returns-in_err-ok_or : goal.returns-in_err-ok_or
returns-in_err-ok_or c =
    rw (no-plan (best c.args.runs.now.unit c.args.runs.now.prices.now) (sym c.whole_profit.ensures ∙ err-was _ _ _ c.in_err-ok_or.ensures.value)) (search rules)

pub returns : goal.returns
returns c =
    let u = c.args.runs.now.unit in
    let prices = c.args.runs.now.prices.now in
    let some = some-plan (best u prices) c.in_ok-ok_or.field-0 (sym c.whole_profit.ensures ∙ ok-was _ _ _ c.in_ok-ok_or.ensures.value) in
    ap Ok c.outcomes.ensures
    ∙ ap (λ (b : Plan). valued_by (unless (has_schedule b) NoSchedule (Ok tt)) (outcomes_of u prices)) (sym some.1)

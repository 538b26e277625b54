-- A schedule of the prices' length that is off wherever it is shut is settled by the walk over it.
use mathlib.Core.Path.{◌≡◌, sym, ap, ◌∙◌}
use borrow.Author.Tests.{ne_eqb, eq-eqb, not-true, not-false}
use lib.ListN.{length}
use Rattle.commitment.specs.Ranges.{InOrder, prices_kept}
use Rattle.commitment.proofs.Passing.{passing}
use Rattle.assessment.specs.Walking.{concluded}
use Rattle.assessment.proofs.Walking.{walk_is, hours-also, hours-broken}
use Rattle.assessment.proofs.of_case.Statement.{statement}
use Rattle.assessment.proofs.of_case.Tie as tie

length-is : (c : tie.Else-schedule-prices) → length c.before.before.args.schedule.now ≡ length c.before.before.args.prices.now
length-is c = c.if-schedule-prices.false

order : (c : tie.Start) → InOrder c.args.unit (length c.args.prices.now)
order c = (passing c.args.unit (prices_kept c.args.prices.now) (length c.args.prices.now) c.requires).order

returns : tie.Need-returns-then-schedule-prices
returns c = let a = c.before.before.args in simp (ne_eqb (length a.schedule.now) (length a.prices.now) c.if-schedule-prices.true)

hours-kept-requires : tie.Need-hours_kept-requires
hours-kept-requires c κs = rw (length-is c) (order c.before.before)

returns-2 : tie.Need-returns-then-not-hours_kept
returns-2 c =
    let long = c.before.before in
    let a = long.before.before.args in
    let on = sym c.before.hours_kept.ensures ∙ not-true _ c.if-not-hours_kept.true-raw in
    sym (hours-broken a.unit a.prices.now a.schedule.now on)
    ∙ simp (eq-eqb (length a.schedule.now) (length a.prices.now) (length-is long))

walk-whole-requires : tie.Need-walk_whole-requires
walk-whole-requires c κs = let long = c.before.before in (long.before.before.requires, length-is long)

conclude-requires : tie.Need-conclude-requires
conclude-requires c κs = (order c.before.before.before.before.before).ranges

returns-3 : tie.Need-returns
returns-3 c =
    let shut = c.before.before in
    let long = shut.before.before in
    let s = long.before.before in
    let a = s.args in
    c.conclude.ensures
    ∙ ap (concluded a.unit) c.before.walk_whole.ensures
    ∙ walk_is a.unit a.prices.now a.schedule.now (length-is long)
    ∙ hours-also a.unit a.prices.now a.schedule.now (sym shut.before.hours_kept.ensures ∙ not-false _ shut.if-not-hours_kept.false-raw)
    ∙ simp (eq-eqb (length a.schedule.now) (length a.prices.now) (length-is long))

pub of_case_spec : {M : Type 1} → statement M
of_case_spec = tie.close (tie.spec returns hours-kept-requires returns-2 walk-whole-requires conclude-requires returns-3)

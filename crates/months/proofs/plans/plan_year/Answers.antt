use Rattle.std.proofs.Common.{◌+◌, ◌<◌, length, arith}
use Rattle.months.proofs.Partway.{next-asked, few-tries, month-on, at_last}
use Rattle.months.proofs.plans.plan_year.Goals as goal

pub next_month-r-requires : goal.next_month-r-requires
next_month-r-requires c =
    let a = c.args in
    let l = c.loop-k in
    next-asked a.y a.cells.now a.prices.now a.cuts.now a.from a.schedule.now c.requires l.cells l.schedule l.at
    l.tries l.k (l.invariant c.requires) (omega arith)

pub overflow_add-tries : goal.overflow_add-tries
overflow_add-tries c =
    let a = c.args in
    let l = c.loop-k in
    let inside : l.k + 1 < length a.cuts.now = omega arith in
    let few = few-tries a.y a.cells.now a.prices.now a.cuts.now a.from a.schedule.now c.requires l.cells l.schedule l.at
    l.tries l.k (l.invariant c.requires) inside c.next_month-r.new.cells c.next_month-r.new.schedule c.next_month-r.result
    c.next_month-r.ensures.month_planned in
    omega (arith, few, c.requires.year.months.inside (l.k + 1) inside, c.requires.year.short)

pub loop-k-preserved : goal.loop-k-preserved
loop-k-preserved c asked =
    let a = c.args in
    let l = c.loop-k in
    month-on a.y a.cells.now a.prices.now a.cuts.now a.from a.schedule.now asked l.cells l.schedule l.at
    l.tries l.k (l.invariant asked) (omega arith) c.next_month-r.new.cells c.next_month-r.new.schedule
    c.next_month-r.result c.next_month-r.ensures.month_planned c.next_month-r.auto.cells c.next_month-r.auto.schedule c.next_month-r.ensures.kept

pub returns-clause-planned : goal.returns-clause-planned
returns-clause-planned c =
    let a = c.args in
    let l = c.loop-k in
    at_last a.y a.cells.now a.prices.now a.cuts.now a.from a.schedule.now c.requires l.cells l.schedule l.at
    l.tries l.k (l.invariant c.requires) (omega (arith, (l.invariant c.requires).month))

pub returns-clause-untouched : goal.returns-clause-untouched
returns-clause-untouched c = (c.loop-k.invariant c.requires).beyond

use Rattle.std.proofs.Common.{◌+◌, length, drop, arith}
use Rattle.optimality.specs.Cells.{InTable, with_most}
use Rattle.halving.specs.Reaching.{RunsTo}
use Rattle.months.specs.Capping.{over_of, Entered}
use Rattle.months.specs.Annual.{cap_of, place_of}
use Rattle.months.specs.Planning.{frame_of}
use Rattle.months.proofs.Raising.{raised-within}
use Rattle.months.proofs.Slots.{place-fits}
use Rattle.months.proofs.Planning.{leg, above-fits, enter-asked, layer, few, some, leg-asked, month-by}
use Rattle.months.proofs.plans.plan_month.Goals as goal
use Rattle.months.proofs.plans.plan_month.Goals.{After-enter, After-plan_in-end}

pub place_of-after-requires : goal.place_of-after-requires
place_of-after-requires c =
    let a = c.args in
    let e = c.requires.chain.year in
    omega (arith, place-fits a.y (length a.cells.now) a.prices.now a.cuts.now e (a.k + 1) c.requires.month, e.fits)

pub enter-requires : goal.enter-requires
enter-requires c =
    let a = c.args in
    rw (c.place_of-after.ensures, c.over_of-above.ensures, c.month_at-m.ensures)
    (enter-asked a.y a.cells.now a.prices.now a.cuts.now a.k a.at (length a.schedule.now) c.requires)

-- the box sees the layer of the next month
sees : (c : After-enter) →
    let a = c.args in
    let cap = cap_of a.y.caps a.k in
    Entered a.y.figures cap (over_of cap a.at) a.cells.now c.enter.new.cells (place_of a.y (a.k + 1)) a.y.work
sees c = rw (c.place_of-after.ensures, c.over_of-above.ensures, c.month_at-m.ensures) at c.enter.ensures

pub plan_in-end-requires : goal.plan_in-end-requires
plan_in-end-requires c =
    let a = c.args in
    rw (c.frame_of-g.ensures, c.with_most.ensures, c.box_of.ensures, c.month_at-m.ensures) (
      leg-asked a.y a.cells.now a.prices.now a.cuts.now a.k a.at (length a.schedule.now) c.requires c.enter.new.cells c.enter.auto.cells
          (sees (goal.at.plan_in-end-requires c).After-enter),
      omega (arith, c.enter.auto.cells, c.requires.chain.year.fits),
    )

-- the plan up to that layer
runs : (c : After-plan_in-end) →
    let a = c.args in
    RunsTo (frame_of (with_most a.y.figures (cap_of a.y.caps a.k)) a.y.hours) a.prices.now
    (leg a.y a.cells.now a.prices.now a.cuts.now a.k a.at (length a.schedule.now) c.requires) (drop a.y.work c.enter.new.cells)
    a.schedule.now c.plan_in-end.new.schedule c.plan_in-end.result
runs c = rw (c.frame_of-g.ensures, c.with_most.ensures, c.box_of.ensures, c.month_at-m.ensures) at c.plan_in-end.ensures.runs_to

pub raised-requires : goal.raised-requires
raised-requires c =
    let a = c.args in
    let n = length a.schedule.now in
    let w = c.requires.chain in
    let cap = cap_of a.y.caps a.k in
    let made = sees (goal.at.raised-requires c).After-enter in
    let inside : InTable (with_most a.y.figures cap) c.plan_in-end.result.cell =
    (runs (goal.at.raised-requires c).After-plan_in-end _ _
    (few a.y a.cells.now a.prices.now a.cuts.now a.k a.at n c.requires c.enter.new.cells c.enter.auto.cells made)
    (layer a.y a.cells.now a.prices.now a.cuts.now a.k a.at n c.requires c.enter.new.cells c.enter.auto.cells made w.worth w.worths)
    (some a.y a.cells.now a.prices.now a.cuts.now a.k a.at n c.requires c.enter.new.cells c.enter.auto.cells made w.worth w.worths c.requires.some)).inside in (
      c.requires.chain.year.sound,
      rw (c.over_of-above.ensures, c.month_at-m.ensures)
          (raised-within a.y.figures cap (over_of cap a.at) (above-fits a.y a.cells.now a.prices.now a.cuts.now a.k a.at n c.requires)
          c.plan_in-end.result.cell inside),
    )

pub returns-clause-month_planned : goal.returns-clause-month_planned
returns-clause-month_planned c worth worths has =
    let a = c.args in
    let n = length a.schedule.now in
    let made = sees (goal.at.returns-clause-month_planned c).After-enter in
    rw (c.raised.ensures, c.over_of-above.ensures, c.month_at-m.ensures)
    (month-by a.y a.cells.now a.prices.now a.cuts.now a.k a.at n c.requires worth _ _ _
    (runs (goal.at.returns-clause-month_planned c).After-plan_in-end _ _
    (few a.y a.cells.now a.prices.now a.cuts.now a.k a.at n c.requires c.enter.new.cells c.enter.auto.cells made)
    (layer a.y a.cells.now a.prices.now a.cuts.now a.k a.at n c.requires c.enter.new.cells c.enter.auto.cells made worth worths)
    (some a.y a.cells.now a.prices.now a.cuts.now a.k a.at n c.requires c.enter.new.cells c.enter.auto.cells made worth worths has)))

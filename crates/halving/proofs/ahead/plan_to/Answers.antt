use Rattle.std.proofs.Common.{◌≡◌, None, ◌+◌, ◌-◌, ◌≤◌, ℕ, length, arith}
use Rattle.commitment.specs.Types.{BestProfit}
use Rattle.commitment.specs.Bounds.{most_intervals}
use Rattle.optimality.specs.declared.Cell.{Cell}
use Rattle.optimality.specs.Cells.{value_at}
use Rattle.geometry.specs.Layers.{LayerAt}
use Rattle.marks.specs.Lines.{value_of}
use Rattle.halving.specs.Reaching.{quarters_over}
use Rattle.halving.proofs.Reaching.{sweep-asked, mark, mark-kept, spends-all, task-asked, reached}
use Rattle.halving.proofs.ahead.plan_to.Goals as goal
use Rattle.halving.proofs.ahead.plan_to.Goals.{After-marked-at}

pub mark_ends-requires : goal.mark_ends-requires
mark_ends-requires c =
    let a = c.args in
    sweep-asked a.g a.cells.now a.prices.now a.room a.l (length a.schedule.now) c.requires

pub marked-at-requires : goal.marked-at-requires
marked-at-requires c =
    let a = c.args in
    let k = c.requires in (
      k.sound,
      k.here,
      omega (arith, k.wide, k.two, k.fits, c.mark_ends.auto.cells),
      mark-kept a.g a.cells.now a.prices.now a.room a.l (length a.schedule.now) k c.mark_ends.new.cells c.mark_ends.ensures
          k.worth k.ahead k.few k.layer k.some,
    )

-- the cell where the plan ends, whatever the layer said that stood there
at-end : (c : After-marked-at) (worth : Cell → BestProfit) (n : ℕ) (few : n + (c.args.l.to - c.args.l.from) ≤ most_intervals)
    (layer : LayerAt c.args.g.figures n worth (value_of c.args.g.figures c.args.g.width c.args.cells.now))
    (some : value_at c.args.g.figures worth (quarters_over c.args.g c.args.prices.now c.args.l) c.args.l.cell ≡ None → ⊥)
    → c.marked-at.result
    ≡ (mark c.args.g c.args.cells.now c.args.prices.now c.args.room c.args.l (length c.args.schedule.now) c.requires c.mark_ends.new.cells
    c.mark_ends.ensures worth n few layer some).at
at-end c worth n few layer some =
    let a = c.args in
    let e = mark a.g a.cells.now a.prices.now a.room a.l (length a.schedule.now) c.requires c.mark_ends.new.cells c.mark_ends.ensures worth n few
    layer some in
    c.marked-at.ensures e.at e.stands.inside e.is

pub spent-requires : goal.spent-requires
spent-requires c =
    let a = c.args in
    let k = c.requires in
    spends-all a.g a.cells.now a.prices.now a.room a.l (length a.schedule.now) k c.mark_ends.new.cells c.mark_ends.ensures k.worth
    k.ahead k.few k.layer k.some c.marked-at.result (at-end (goal.at.spent-requires c).After-marked-at k.worth k.ahead k.few k.layer k.some)

pub solve-tries-requires : goal.solve-tries-requires
solve-tries-requires c =
    let a = c.args in
    let k = c.requires in
    rw c.spent.ensures
    (task-asked a.g a.cells.now a.prices.now a.room a.l (length a.schedule.now) k c.mark_ends.new.cells c.mark_ends.ensures k.worth
    k.ahead k.few k.layer k.some c.marked-at.result (at-end (goal.at.solve-tries-requires c).After-marked-at k.worth k.ahead k.few k.layer k.some) _
    (omega (arith, c.mark_ends.auto.cells, k.fits)))

pub returns-clause-runs_to : goal.returns-clause-runs_to
returns-clause-runs_to c worth ahead few layer some =
    let a = c.args in
    let solved = rw c.spent.ensures at c.solve-tries.ensures.solved in
    reached a.g a.cells.now a.prices.now a.room a.l (length a.schedule.now) c.requires c.mark_ends.new.cells c.mark_ends.ensures worth ahead
    few layer some c.marked-at.result (at-end (goal.at.returns-clause-runs_to c).After-marked-at worth ahead few layer some) _ _ _ solved

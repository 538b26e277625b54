-- The cycle of calls {halves, solve}.
use Rattle.std.proofs.Common.{length, arith}
use Rattle.halving.specs.Tasks.{near}
use Rattle.halving.proofs.Boxes.{as-leaf, as_passed, as-halves, unboxed}
use Rattle.halving.proofs.Joining.{middle-apart, mark, mark-kept, spends-all, early-task, late-task, both-solved}
use Rattle.halving.proofs.+halves_solve.Goals as goal

-- ---- halves

pub halves-marked-at-requires : goal.halves-marked-at-requires
halves-marked-at-requires t c =
    let a = c.args in
    let h = c.requires in (
      h.given.asked.sound,
      h.given.here,
      omega (arith, h.wide, h.two, h.fits),
      mark-kept a.g a.prices.now a.room a.t a.cells.now (length a.schedule.now) h,
    )

pub halves-early_half-first-requires : goal.halves-early_half-first-requires
halves-early_half-first-requires t c =
    let a = c.args in
    let m = mark a.g a.prices.now a.room a.t a.cells.now (length a.schedule.now) c.requires in
    spends-all a.g a.prices.now a.room a.t a.cells.now (length a.schedule.now) c.requires c.marked-at.result
    (c.marked-at.ensures m.at m.stands.inside m.is)

pub halves-solve-early-requires : goal.halves-solve-early-requires
halves-solve-early-requires t c =
    let a = c.args in
    let h = c.requires in
    let m = mark a.g a.prices.now a.room a.t a.cells.now (length a.schedule.now) h in
    let half = rw c.midway-mid.ensures at c.early_half-first.ensures in
    let between = middle-apart a.t.from a.t.to h.apart in
    rw half (
      omega (arith, between),
      early-task a.g a.prices.now a.room a.t a.cells.now (length a.schedule.now) h c.marked-at.result
          (c.marked-at.ensures m.at m.stands.inside m.is) _ _ h.fits h.given.long,
    )

pub halves-solve-late-requires : goal.halves-solve-late-requires
halves-solve-late-requires t c =
    let a = c.args in
    let h = c.requires in
    let m = mark a.g a.prices.now a.room a.t a.cells.now (length a.schedule.now) h in
    let half = rw c.midway-mid.ensures at c.late_half-second.ensures in
    let between = middle-apart a.t.from a.t.to h.apart in
    rw half (
      omega (arith, between),
      late-task a.g a.prices.now a.room a.t a.cells.now (length a.schedule.now) h c.marked-at.result
          (c.marked-at.ensures m.at m.stands.inside m.is) _ _ (omega (arith, c.solve-early.auto.cells, h.fits))
          (omega (arith, c.solve-early.auto.schedule, h.given.long)),
    )

pub halves-overflow_add-result : goal.halves-overflow_add-result
halves-overflow_add-result t c =
    let a = c.args in
    let h = c.requires in
    let early = rw (c.early_half-first.ensures, c.midway-mid.ensures) at c.solve-early.ensures.solved in
    let late = rw (c.late_half-second.ensures, c.midway-mid.ensures) at c.solve-late.ensures.solved in
    let between = middle-apart a.t.from a.t.to h.apart in
    let k = h.given.asked in
    omega (arith, early.few, late.few, between, k.inside, k.short)

pub halves-returns-clause-solved : goal.halves-returns-clause-solved
halves-returns-clause-solved t c =
    let a = c.args in
    let h = c.requires in
    let m = mark a.g a.prices.now a.room a.t a.cells.now (length a.schedule.now) h in
    let early = rw (c.early_half-first.ensures, c.midway-mid.ensures) at c.solve-early.ensures.solved in
    let late = rw (c.late_half-second.ensures, c.midway-mid.ensures) at c.solve-late.ensures.solved in
    both-solved a.g a.prices.now a.room a.t a.cells.now (length a.schedule.now) h c.marked-at.result
    (c.marked-at.ensures m.at m.stands.inside m.is) _ _ _ _ _ h.given.long early late

-- ---- solve

pub solve-leaf-requires : goal.solve-leaf-requires
solve-leaf-requires t c =
    let a = c.args in
    as-leaf a.f a.prices.now a.hours a.room a.t (length a.cells.now) (length a.schedule.now) c.requires c.layer_cells-width.result
    c.layer_cells-width.ensures a.room (length a.cells.now) c.requires.fits c.if-width-room.true

pub solve-returns-then-width-room-clause-solved : goal.solve-returns-then-width-room-clause-solved
solve-returns-then-width-room-clause-solved t c =
    let a = c.args in
    unboxed a.f a.prices.now a.hours a.room a.t (length a.cells.now) (length a.schedule.now) c.requires _ _ _
    c.leaf.ensures.solved

pub solve-near_leaf-requires : goal.solve-near_leaf-requires
solve-near_leaf-requires t c =
    let a = c.args in
    as-leaf a.f a.prices.now a.hours a.room a.t (length a.cells.now) (length a.schedule.now) c.requires c.layer_cells-width.result
    c.layer_cells-width.ensures near near (omega arith) c.if-width-layers.true

pub solve-returns-then-width-layers-clause-solved :
    goal.solve-returns-then-width-layers-clause-solved
solve-returns-then-width-layers-clause-solved t c =
    let a = c.args in
    unboxed a.f a.prices.now a.hours a.room a.t (length a.cells.now) (length a.schedule.now) c.requires _ _ _
    c.near_leaf.ensures

pub solve-pass-requires : goal.solve-pass-requires
solve-pass-requires t c =
    let a = c.args in
    as_passed a.f a.prices.now a.hours a.room a.t (length a.cells.now) (length a.schedule.now) c.requires
    c.layer_cells-width.result c.layer_cells-width.ensures c.if-width-room.false

pub solve-halves-requires : goal.solve-halves-requires
solve-halves-requires t c =
    let a = c.args in (
      omega arith,
      as-halves a.f a.prices.now a.hours a.room a.t (length a.cells.now) (length a.schedule.now) c.requires
          c.layer_cells-width.result c.layer_cells-width.ensures c.if-width-room.false c.pass.new.cells
          (omega (arith, c.pass.auto.cells, c.requires.fits)) c.pass.ensures.marked,
    )

pub solve-returns-clause-solved : goal.solve-returns-clause-solved
solve-returns-clause-solved t c =
    let a = c.args in
    unboxed a.f a.prices.now a.hours a.room a.t (length a.cells.now) (length a.schedule.now) c.requires _ _ _
    c.halves.ensures.solved

-- Each turn is `pass-turn`, and after the loop the open segment is put behind the closed ones. No more are closed than turns are made, so that the lists have room.
use Rattle.std.specs.Prelude.{List, ℕ, ℤ}
use Rattle.std.proofs.Common.{◌≤◌, ◌<◌, ◌-◌, ◌∙◌, length, arith}
use Prim.Native.Nat.{min}
use native.Mathlib.Nat.{min-le_left, min-le_right}
use Rattle.curves.specs.Answers.{room}
use Rattle.curves.proofs.Ranges.{accepted, point-sizes}
use Rattle.curves.proofs.Passes.{pass-start, pass-turn, pass-end}
use Rattle.curves.proofs.fill.Goals as goal

-- so few are closed that one more has room in each list
roomy : (froms tos : List ℕ) (prices : List ℤ) (count most : ℕ) → count < most → most ≤ room froms tos prices
    → (count < length froms) × (count < length tos) × (count < length prices)
roomy froms tos prices count most h fits =
    let others = min (length tos) (length prices) in
    let behind : count < others = omega (arith, min-le_right (length froms) others) in (
      omega (arith, min-le_left (length froms) others),
      omega (arith, behind, min-le_left (length tos) (length prices)),
      omega (arith, behind, min-le_right (length tos) (length prices)),
    )

pub overflow_sub-segments : goal.overflow_sub-segments
overflow_sub-segments c = let h = accepted c.args.inputs c.args.levels.now c.args.rates.now _ c.requires in omega (arith, h.points.some-levels)

pub own_segment-last-requires-clause-input_sizes : goal.own_segment-last-requires-clause-input_sizes
own_segment-last-requires-clause-input_sizes c = (accepted c.args.inputs c.args.levels.now c.args.rates.now _ c.requires).inputs

pub own_segment-last-requires-clause-i_in_bounds : goal.own_segment-last-requires-clause-i_in_bounds
own_segment-last-requires-clause-i_in_bounds c =
    let h = accepted c.args.inputs c.args.levels.now c.args.rates.now _ c.requires in
    (omega (arith, h.points.some-levels), omega (arith, h.points.some-levels, h.lengths))

pub own_segment-last-requires-clause-point_sizes : goal.own_segment-last-requires-clause-point_sizes
own_segment-last-requires-clause-point_sizes c =
    let h = accepted c.args.inputs c.args.levels.now c.args.rates.now _ c.requires in
    point-sizes h 0 (omega (arith, h.points.some-levels))

pub loop-i-init : goal.loop-i-init
loop-i-init c =
    let a = c.args in
    let h = accepted c.args.inputs c.args.levels.now c.args.rates.now _ c.requires in
    rw c.own_segment-last.ensures
    (pass-start a.inputs a.levels.now a.rates.now a.froms.now a.tos.now a.prices.now
    (omega (arith, h.points.some-levels)) (omega (arith, h.points.some-levels, h.lengths)))

pub own_segment-next-requires-clause-input_sizes : goal.own_segment-next-requires-clause-input_sizes
own_segment-next-requires-clause-input_sizes c = (accepted c.args.inputs c.args.levels.now c.args.rates.now _ c.requires).inputs

pub own_segment-next-requires-clause-i_in_bounds : goal.own_segment-next-requires-clause-i_in_bounds
own_segment-next-requires-clause-i_in_bounds c =
    let h = accepted c.args.inputs c.args.levels.now c.args.rates.now _ c.requires in
    (omega (arith, c.loop-i-test.true), omega (arith, c.loop-i-test.true, h.lengths))

pub own_segment-next-requires-clause-point_sizes : goal.own_segment-next-requires-clause-point_sizes
own_segment-next-requires-clause-point_sizes c =
    let h = accepted c.args.inputs c.args.levels.now c.args.rates.now _ c.requires in
    point-sizes h c.loop-i.i (omega (arith, c.loop-i-test.true))

pub close_if-count-requires : goal.close_if-count-requires
close_if-count-requires c =
    let a = c.args in
    let h = accepted c.args.inputs c.args.levels.now c.args.rates.now _ c.requires in
    let l = c.loop-i in
    let r = roomy a.froms.now a.tos.now a.prices.now l.count (length a.levels.now - 1) (omega (arith, l.invariant.few, c.loop-i-test.true)) h.fits in
    (omega (arith, r.0, l.auto.froms), omega (arith, r.1, l.auto.tos), omega (arith, r.2, l.auto.prices))

pub loop-i-preserved : goal.loop-i-preserved
loop-i-preserved c =
    let a = c.args in
    let h = accepted c.args.inputs c.args.levels.now c.args.rates.now _ c.requires in
    let l = c.loop-i in
    let r = roomy a.froms.now a.tos.now a.prices.now l.count (length a.levels.now - 1) (omega (arith, l.invariant.few, c.loop-i-test.true)) h.fits in
    let e = c.close_if-count.ensures in
    pass-turn _ _ _ _ _ _ l.invariant r.0 r.1 r.2 (omega (arith, c.loop-i-test.true)) (omega (arith, c.loop-i-test.true, h.lengths))
    c.own_segment-next.ensures c.dearer-closed.ensures c.open_after-last.ensures e.value e.froms_after e.tos_after e.prices_after

pub put-requires : goal.put-requires
put-requires c =
    let a = c.args in
    let h = accepted c.args.inputs c.args.levels.now c.args.rates.now _ c.requires in
    let l = c.loop-i in
    let r = roomy a.froms.now a.tos.now a.prices.now l.count (length a.levels.now - 1) (omega (arith, l.invariant.few, l.auto.i-end, h.points.some-levels)) h.fits in
    (omega (arith, r.0, l.auto.froms), omega (arith, r.1, l.auto.tos), omega (arith, r.2, l.auto.prices))

pub returns-clause-value : goal.returns-clause-value
returns-clause-value c =
    let a = c.args in
    let h = accepted c.args.inputs c.args.levels.now c.args.rates.now _ c.requires in
    let l = c.loop-i in
    let r = roomy a.froms.now a.tos.now a.prices.now l.count (length a.levels.now - 1) (omega (arith, l.invariant.few, l.auto.i-end, h.points.some-levels)) h.fits in
    (pass-end _ _ _ _ _ _ l.invariant r.0 r.1 r.2 (omega (arith, c.loop-i-test.false))).0

pub returns-clause-froms_after : goal.returns-clause-froms_after
returns-clause-froms_after c =
    let a = c.args in
    let h = accepted c.args.inputs c.args.levels.now c.args.rates.now _ c.requires in
    let l = c.loop-i in
    let r = roomy a.froms.now a.tos.now a.prices.now l.count (length a.levels.now - 1) (omega (arith, l.invariant.few, l.auto.i-end, h.points.some-levels)) h.fits in
    c.put.ensures.froms_after ∙ (pass-end _ _ _ _ _ _ l.invariant r.0 r.1 r.2 (omega (arith, c.loop-i-test.false))).1

pub returns-clause-tos_after : goal.returns-clause-tos_after
returns-clause-tos_after c =
    let a = c.args in
    let h = accepted c.args.inputs c.args.levels.now c.args.rates.now _ c.requires in
    let l = c.loop-i in
    let r = roomy a.froms.now a.tos.now a.prices.now l.count (length a.levels.now - 1) (omega (arith, l.invariant.few, l.auto.i-end, h.points.some-levels)) h.fits in
    c.put.ensures.tos_after ∙ (pass-end _ _ _ _ _ _ l.invariant r.0 r.1 r.2 (omega (arith, c.loop-i-test.false))).2

pub returns-clause-prices_after : goal.returns-clause-prices_after
returns-clause-prices_after c =
    let a = c.args in
    let h = accepted c.args.inputs c.args.levels.now c.args.rates.now _ c.requires in
    let l = c.loop-i in
    let r = roomy a.froms.now a.tos.now a.prices.now l.count (length a.levels.now - 1) (omega (arith, l.invariant.few, l.auto.i-end, h.points.some-levels)) h.fits in
    c.put.ensures.prices_after ∙ (pass-end _ _ _ _ _ _ l.invariant r.0 r.1 r.2 (omega (arith, c.loop-i-test.false))).3

use Rattle.std.proofs.Common.{◌≡◌, add-one, ◌+◌, ◌-◌, ◌^◌, get_or, ◌+ℤ◌, ◌-ℤ◌, arith, to_z, of_z, w64, FitsSigned}
use lib.Dec.{lit<}
use Prim.Native.Nat.{suc}
use mathlib.Core.Path.{refl}
use lib.IntN.{pos, -ℤ-+ℤ_cancel}
use Rattle.integers.proofs.Ranges.{Within, plain, plain_fits, within-abs, within-fits, within-weaken, within-diff}
use Rattle.geometry.specs.Layers.{swing}
use Rattle.intervals.specs.Ladders.{most_brought}
use Rattle.carrying.proofs.Storing.{descended-none, descended-next}
use Rattle.carrying.proofs.Climbing.{held_most, gain-plain, rise-plain}
use Rattle.carrying.proofs.Descending.{Held, held_next, held-fallen, held-gained}
use borrow.Author.Rules.{rules}
use Rattle.carrying.proofs.images.descend.Goals as goal
use Rattle.carrying.proofs.images.descend.Goals.{In-loop-i, After-either-mark}

pub loop-i-init : goal.loop-i-init
loop-i-init c =
    let a = c.args in
    let s = c.requires.0 in
    let v = get_or a.cells.now (a.s.from + (a.s.count - 1)) (pos 0) in
    let fv : FitsSigned w64 v = search rules in
    let fm : FitsSigned w64 (get_or a.cells.now (a.w + (a.s.from + (a.s.count - 1))) (pos 0)) = search rules in
    let less : Within (2 ^ 62 + swing) (v -ℤ a.s.rise) =
    within-diff (within-weaken (s.small (a.s.count - 1) (omega arith)) (within-abs v)) (within-weaken s.rises (within-abs a.s.rise)) in
    let none : a.s.count - a.s.count ≡ 0 = omega arith in
    let first : a.s.count - 1 - 0 ≡ a.s.count - 1 = omega arith in
    rw (none, plain_fits fv, rise-plain s, plain less (lit< tt), plain_fits fm) (record {
      held = (rw first (-ℤ-+ℤ_cancel v a.s.rise), rw first refl);
      descended = descended-none a.cells.now a.w a.s a.out.now a.to;
    })

-- the best so far with its rise
fallen : (c : In-loop-i) → Within (held_most c.args.cells.now c.args.w c.args.s + swing) (to_z w64 c.loop-i.best-bits +ℤ c.args.s.rise)
fallen c =
    let a = c.args in
    held-fallen a.cells.now a.w a.s c.requires.0 (a.s.count - c.loop-i.i) _ _ (omega arith) c.loop-i.invariant.held

-- what is held after a turn
next-held : (c : After-either-mark) →
    Held c.args.cells.now c.args.w c.args.s (suc (c.args.s.count - c.loop-i.i)) (to_z w64 (of_z w64 c.either-best.result)) (to_z w64 (of_z w64 c.either-mark.result))
next-held c =
    let a = c.args in
    let l = c.loop-i in
    let t = a.s.count - l.i in
    let at : a.s.count - 1 - t ≡ l.i - 1 = omega arith in
    let fallen = held-fallen a.cells.now a.w a.s c.requires.0 t _ _ (omega arith) l.invariant.held in
    let fv : FitsSigned w64 (get_or a.cells.now (a.s.from + (l.i - 1)) (pos 0)) = search rules in
    let fm : FitsSigned w64 (get_or a.cells.now (a.w + (a.s.from + (l.i - 1))) (pos 0)) = search rules in
    let best = rw (rise-plain c.requires.0, plain fallen (lit< tt), plain_fits fv) at c.either-best.ensures in
    let mark = rw (rise-plain c.requires.0, plain fallen (lit< tt), plain_fits fv, plain_fits fm) at c.either-mark.ensures in
    rw (plain_fits (record { sfits = c.either-best.type_inv }), plain_fits (record { sfits = c.either-mark.type_inv }), best, mark)
    (rw at at (held_next a.cells.now a.w a.s t (to_z w64 l.best-bits) (to_z w64 l.mark-bits) l.invariant.held))

-- with what is gained
gained : (c : After-either-mark) →
    Within (held_most c.args.cells.now c.args.w c.args.s + most_brought) (to_z w64 (of_z w64 c.either-best.result) +ℤ c.args.s.gain)
gained c =
    let a = c.args in
    held-gained a.cells.now a.w a.s c.requires.0 (suc (a.s.count - c.loop-i.i)) _ (to_z w64 (of_z w64 c.either-mark.result)) (omega arith)
    (next-held c)

pub overflow_add-carried : goal.overflow_add-carried
overflow_add-carried c = rw (rise-plain c.requires.0) (within-fits (fallen (goal.at.overflow_add-carried c).In-loop-i) (lit< tt))

pub overflow_add-best : goal.overflow_add-best
overflow_add-best c =
    rw (gain-plain c.requires.0) (within-fits (gained (goal.at.overflow_add-best c).After-either-mark) (lit< tt))

pub loop-i-preserved : goal.loop-i-preserved
loop-i-preserved c =
    let a = c.args in
    let l = c.loop-i in
    let t = a.s.count - l.i in
    let turn = (goal.at.loop-i-preserved c).After-either-mark in
    let held = next-held turn in
    let here : a.s.count - 1 - t ≡ l.i - 1 = omega arith in
    let next : a.s.count - (l.i - 1) ≡ t + 1 = omega arith in
    record {
      held = rw (next, add-one t) held;
      descended =
          rw (next, rw (gain-plain c.requires.0, plain (gained turn) (lit< tt)) at c.join.ensures)
          (rw here at (descended-next a.cells.now a.w a.s a.out.now a.to l.out t _ _ (omega arith) (omega arith) (omega arith) l.invariant.descended held));
    }

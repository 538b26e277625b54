use Rattle.std.proofs.Common.{add-one, ◌+◌, get_or, pos, ◌+ℤ◌, arith, to_z, of_z, w64, FitsSigned}
use lib.Dec.{lit<}
use Rattle.integers.proofs.Ranges.{Within, plain, plain_fits, within-fits}
use Rattle.geometry.specs.Layers.{swing}
use Rattle.intervals.specs.Ladders.{most_brought}
use Rattle.carrying.specs.Images.{piece, UpPicked}
use Rattle.carrying.proofs.Storing.{pairs_next}
use Rattle.carrying.proofs.Climbing.{Held, held_next, held-risen, held-gained, held_most, gain-plain, rise-plain}
use borrow.Author.Rules.{rules}
use Rattle.carrying.proofs.images.climb.Goals as goal
use Rattle.carrying.proofs.images.climb.Goals.{In-loop-i, After-either-mark}

-- the best so far with its rise
risen : (c : In-loop-i) → Within (held_most c.args.cells.now c.args.w c.args.s + swing) (to_z w64 c.loop-i.best-bits +ℤ c.args.s.rise)
risen c =
    let a = c.args in
    held-risen a.cells.now a.w a.s c.requires.0 c.loop-i.i _ _ (omega arith) c.loop-i.invariant.held

-- what is held after a turn
next-held : (c : After-either-mark) →
    Held c.args.cells.now c.args.w c.args.s (c.loop-i.i + 1) (to_z w64 (of_z w64 c.either-best.result)) (to_z w64 (of_z w64 c.either-mark.result))
next-held c =
    let a = c.args in
    let l = c.loop-i in
    let risen = held-risen a.cells.now a.w a.s c.requires.0 l.i _ _ (omega arith) l.invariant.held in
    let fv : FitsSigned w64 (get_or a.cells.now (a.s.from + l.i) (pos 0)) = search rules in
    let fm : FitsSigned w64 (get_or a.cells.now (a.w + (a.s.from + l.i)) (pos 0)) = search rules in
    let best = rw (rise-plain c.requires.0, plain risen (lit< tt), plain_fits fv) at c.either-best.ensures in
    let mark = rw (rise-plain c.requires.0, plain risen (lit< tt), plain_fits fv, plain_fits fm) at c.either-mark.ensures in
    rw (plain_fits (record { sfits = c.either-best.type_inv }), plain_fits (record { sfits = c.either-mark.type_inv }), best, mark, add-one l.i)
    (held_next a.cells.now a.w a.s l.i (to_z w64 l.best-bits) (to_z w64 l.mark-bits) l.invariant.held)

-- with what is gained
gained : (c : After-either-mark) →
    Within (held_most c.args.cells.now c.args.w c.args.s + most_brought) (to_z w64 (of_z w64 c.either-best.result) +ℤ c.args.s.gain)
gained c =
    let a = c.args in
    held-gained a.cells.now a.w a.s c.requires.0 (c.loop-i.i + 1) _ (to_z w64 (of_z w64 c.either-mark.result)) (omega arith) (next-held c)

pub overflow_add-carried : goal.overflow_add-carried
overflow_add-carried c = rw (rise-plain c.requires.0) (within-fits (risen (goal.at.overflow_add-carried c).In-loop-i) (lit< tt))

pub overflow_add-best : goal.overflow_add-best
overflow_add-best c =
    rw (gain-plain c.requires.0) (within-fits (gained (goal.at.overflow_add-best c).After-either-mark) (lit< tt))

pub loop-i-preserved : goal.loop-i-preserved
loop-i-preserved c =
    let a = c.args in
    let l = c.loop-i in
    let turn = (goal.at.loop-i-preserved c).After-either-mark in
    let held = next-held turn in
    record {
      held = held;
      aside =
          rw (rw (gain-plain c.requires.0, plain (gained turn) (lit< tt)) at c.put.ensures)
          (pairs_next piece (UpPicked a.cells.now a.w a.s) a.out.now l.out a.to l.i _ _ (omega arith) (omega arith) l.invariant.aside
          (rw (add-one l.i) at held));
    }

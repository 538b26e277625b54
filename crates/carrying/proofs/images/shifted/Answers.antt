use Rattle.std.proofs.Common.{refl, ◌+◌, ◌^◌, get_or, pos, ◌+ℤ◌, arith, w64, FitsSigned}
use lib.Dec.{lit<}
use Rattle.integers.proofs.Ranges.{Within, plain, plain_fits, within-abs, within-weaken, within-sum}
use Rattle.intervals.specs.Ladders.{most_brought}
use Rattle.carrying.specs.Images.{piece, Shifted}
use Rattle.carrying.proofs.Storing.{pairs_next}
use borrow.Author.Rules.{rules}
use Rattle.carrying.proofs.images.shifted.Goals as goal

pub loop-i-preserved : goal.loop-i-preserved
loop-i-preserved c =
    let a = c.args in
    let l = c.loop-i in
    let s = c.requires.0 in
    let v = get_or a.cells.now (a.from + l.i) (pos 0) in
    let m = get_or a.cells.now (a.w + (a.from + l.i)) (pos 0) in
    let fv : FitsSigned w64 v = search rules in
    let fm : FitsSigned w64 m = search rules in
    let gained : Within (2 ^ 62 + most_brought) (v +ℤ a.gain) =
    within-sum (within-weaken (s.small l.i c.loop-i-test.true) (within-abs v)) (within-weaken s.gains (within-abs a.gain)) in
    let stored = rw (plain_fits fv, plain_fits c.ranges.gain, plain gained (lit< tt), plain_fits fm) at c.put.ensures in
    rw (plain_fits c.ranges.gain, stored)
    (pairs_next piece (Shifted a.cells.now a.w a.from a.gain) a.out.now l.out a.to l.i _ _ (omega arith) (omega arith)
    (rw (plain_fits c.ranges.gain) at l.invariant) (refl, refl))

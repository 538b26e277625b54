-- One place more.
use Rattle.std.proofs.Common.{rules, ◌∙◌, ◌+◌, ◌^◌, arith, pos, ◌+ℤ◌, to_z, of_z, w64}
use lib.Dec.{lit<}
use lib.ListN.{get_or}
use Rattle.integers.proofs.Ranges.{Within, within-abs, within-weaken, within-sum, plain, plain_fits}
use Rattle.intervals.specs.Ladders.{most_brought}
use Rattle.intervals.proofs.Stretches.{made-next}
use Rattle.intervals.proofs.rows.raise.Goals as goal

pub loop-i-preserved : goal.loop-i-preserved
loop-i-preserved c =
    let a = c.args in
    let l = c.loop-i in
    let number = get_or a.scratch.now (a.from + l.i) (pos 0) in
    let off = plain_fits {x = get_or l.scratch (a.to + l.i) (pos 0)} (search rules) ∙ l.invariant.apart (a.to + l.i) (λ m k e. omega arith) in
    let read = plain_fits {x = get_or l.scratch (a.from + l.i) (pos 0)} (search rules) ∙ l.invariant.apart (a.from + l.i) (λ m k e. omega (arith, c.requires.0.before)) in
    let gained : Within (2 ^ 62 + most_brought) (number +ℤ to_z w64 (of_z w64 a.gain)) =
    rw (plain_fits c.ranges.gain)
    (within-sum (within-weaken (c.requires.0.small l.i c.loop-i-test.true) (within-abs number)) (within-weaken c.requires.1 (within-abs a.gain))) in
    let new = rw (off, read, plain gained (lit< tt)) at c.larger.ensures in
    made-next (λ j. j) a.scratch.now a.to _ l.scratch l.i _ (omega (arith, c.requires.0)) (λ m k e. omega arith) l.invariant
    (plain_fits (record { sfits = c.larger.type_inv }) ∙ new)

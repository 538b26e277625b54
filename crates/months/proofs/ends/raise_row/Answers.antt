use Rattle.std.proofs.Common.{◌∙◌, ◌+◌, ◌≤◌, ◌^◌, pos, ◌+ℤ◌, get_or, arith, rules, FitsSigned, w64}
use mathlib.Core.Logic.{⊎_elim}
use lib.Dec.{lit<}
use Rattle.integers.proofs.Ranges.{Within, within-abs, within-weaken, within-sum, plain, plain_fits}
use Rattle.intervals.proofs.Stretches.{made-next}
use Rattle.months.proofs.ends.raise_row.Goals as goal

pub loop-i-preserved : goal.loop-i-preserved
loop-i-preserved c =
    let a = c.args in
    let l = c.loop-i in
    let behind = get_or a.cells.now (a.from + l.i) (pos 0) in
    let there : FitsSigned w64 (get_or l.cells (a.to + l.i) (pos 0)) = search rules in
    let source : FitsSigned w64 (get_or l.cells (a.from + l.i) (pos 0)) = search rules in
    let off = plain_fits there ∙ l.invariant.apart (a.to + l.i) (λ m k e. omega arith) in
    let read = plain_fits source ∙ l.invariant.apart (a.from + l.i)
    (λ m k e. ⊎_elim (λ (h : a.to + a.count ≤ a.from). omega arith) (λ (h : a.from + a.count ≤ a.to). omega arith) c.requires.beside) in
    let gained : Within (2 ^ 62 + 2 ^ 61) (behind +ℤ a.gain) =
    within-sum (within-weaken (c.requires.small l.i c.loop-i-test.true) (within-abs behind)) (within-weaken c.requires.gains (within-abs a.gain)) in
    let new = rw (off, read, plain_fits c.ranges.gain, plain gained (lit< tt)) at c.larger.ensures in
    rw (plain_fits c.ranges.gain)
    (made-next (λ j. j) a.cells.now a.to _ l.cells l.i _ (omega (arith, c.requires)) (λ m k e. omega arith) (rw (plain_fits c.ranges.gain) at l.invariant)
    (plain_fits (record { sfits = c.larger.type_inv }) ∙ new))

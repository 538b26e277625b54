use Rattle.std.proofs.Common.{sym, ◌∙◌, arith}
use lib.ListN.{get_or}
use Rattle.assessment.proofs.Counting.{counted-whole, counted_next, counted-end, few-room, few-next}
use Rattle.assessment.proofs.months.counts_in.Goals as goal

pub loop-output-init : goal.loop-output-init
loop-output-init c = (record { starts = omega arith; running = omega arith; output = omega arith }, counted-whole c.args.was c.args.part.now)

pub counted-at-requires : goal.counted-at-requires
counted-at-requires c =
    let l = c.loop-output in
    (few-room l.output-index l.at (omega (arith, c.requires.0, c.loop-output-test.true)) l.invariant.0, c.requires.1 l.output-index c.loop-output-test.true)

pub loop-output-preserved : goal.loop-output-preserved
loop-output-preserved c =
    let l = c.loop-output in
    let i = l.output-index in
    let part = c.args.part.now in
    let h = c.loop-output-test.true in
    rw c.counted-at.ensures
    (few-next i l.at (get_or part i 0) (c.requires.1 i h) l.invariant.0, sym (counted_next l.at part i h) ∙ l.invariant.1)

pub returns : goal.returns
returns c =
    let l = c.loop-output in
    sym (counted-end l.at c.args.part.now l.output-index c.loop-output-test.false) ∙ l.invariant.1

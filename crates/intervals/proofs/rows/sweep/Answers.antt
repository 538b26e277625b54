-- By the laws of a pass (proofs/Sweeping), whose gain and rise are read back.
use Rattle.std.proofs.Common.{to_z, of_z, w64}
use Rattle.integers.proofs.Ranges.{plain_fits}
use Rattle.intervals.proofs.Sweeping.{pass_of, sweep-first, sweep-ready, sweep-next}
use Rattle.intervals.proofs.rows.sweep.Goals as goal

pub loop-i-init : goal.loop-i-init
loop-i-init c =
    let a = c.args in
    sweep-first a.down (pass_of a.down a.scratch.now a.to a.from a.count a.gain a.rise c.ranges.gain c.ranges.rise c.requires)

pub pass-best-requires : goal.pass-best-requires
pass-best-requires c =
    let a = c.args in
    let l = c.loop-i in
    let p = pass_of a.down a.scratch.now a.to a.from a.count a.gain a.rise c.ranges.gain c.ranges.rise c.requires in
    rw c.place-at.ensures (sweep-ready a.down p l.scratch l.i (to_z w64 l.best-bits) c.loop-i-test.true l.invariant)

pub loop-i-preserved : goal.loop-i-preserved
loop-i-preserved c =
    let a = c.args in
    let l = c.loop-i in
    let p = pass_of a.down a.scratch.now a.to a.from a.count a.gain a.rise c.ranges.gain c.ranges.rise c.requires in
    let passed = rw c.place-at.ensures at c.pass-best.ensures in
    sweep-next a.down p l.scratch l.i (to_z w64 l.best-bits) c.loop-i-test.true l.invariant c.pass-best.new.scratch (to_z w64 (of_z w64 c.pass-best.result))
    (rw (plain_fits {x = c.pass-best.result} (record { sfits = c.pass-best.type_inv })) passed)

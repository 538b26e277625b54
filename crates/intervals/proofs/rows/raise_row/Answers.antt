-- Chunk by chunk, by the laws of a row (proofs/Windows).
use Rattle.std.proofs.Common.{◌≡◌, ◌+◌, ◌-◌, arith}
use Rattle.intervals.specs.Ladders.{outputs}
use Rattle.intervals.proofs.Windows.{row_first, row_next, row_done}
use Rattle.intervals.proofs.rows.raise_row.Goals as goal

pub loop-a-init : goal.loop-a-init
loop-a-init c = let a = c.args in (omega arith, row_first a.l a.cells a.to a.from a.scratch.now)

pub loop-a-preserved : goal.loop-a-preserved
loop-a-preserved c =
    let a = c.args in
    let l = c.loop-a in
    let size : a.l.high - a.l.low + 1 ≡ outputs a.l = omega (arith, c.requires.0.some) in (
      omega (arith, c.loop-a-test.true, c.requires.0.few),
      rw size (row_next a.l a.cells a.to a.from a.scratch.now l.scratch c.raise_chunk.new.scratch c.requires.1.before l.a l.invariant.1 c.raise_chunk.ensures),
    )

pub returns : goal.returns
returns c =
    let a = c.args in
    let l = c.loop-a in
    row_done a.l a.cells a.to a.from a.scratch.now l.scratch c.raise_last.new.scratch c.requires.1.before l.a (omega (arith, c.loop-a-test.false))
    l.invariant.1
    c.raise_last.ensures

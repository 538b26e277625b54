-- Going up and then down the chunk, by the law of a chunk.
use Rattle.std.proofs.Common.{refl, ◌+◌, ◌-◌, ◌≤◌, arith}
use mathlib.Core.Logic.{inr}
use lib.Dec.{lit<}
use Rattle.integers.proofs.Ranges.{plain, plain_fits}
use Rattle.intervals.proofs.Segments.{behind-within}
use Rattle.intervals.proofs.Ladders.{least-plain, rise-plain, fall-within, up-stepping, down-stepping}
use Rattle.intervals.proofs.Windows.{row-chunk}
use Rattle.intervals.proofs.rows.raise_chunk.Goals as goal

pub sweep-requires : goal.sweep-requires
sweep-requires c =
    let a = c.args in
    let l = a.l in
    let size = l.high - l.low + 1 in (
      behind-within a.scratch.now a.scratch.now a.to a.from a.cells (a.to + (a.a + l.low)) (a.from + a.a) size c.requires.2
          (omega (arith, c.requires.2.before))
          (omega arith)
          (omega arith)
          refl
          (λ j h. refl),
      rw (least-plain l c.requires.0, rise-plain l c.requires.0) (up-stepping l c.requires.0 size (omega arith) (omega (arith, c.requires.0.few))),
    )

pub sweep-requires-2 : goal.sweep-requires-2
sweep-requires-2 c =
    let a = c.args in
    let l = a.l in
    let down = c.smaller-down.result in
    let m = c.smaller-down.ensures in
    let some : 1 ≤ down = omega (arith, m, c.requires.1) in
    let few : down ≤ l.high - l.low + 1 = omega (arith, m) in
    let room : down + a.a + l.high ≤ a.cells = omega (arith, m, c.requires.1) in
    let up : a.a + l.low + (l.high - l.low + 1) ≤ a.cells = omega (arith, c.requires.0.some, c.requires.1) in
    rw (plain_fits {x = c.most.result} (record { sfits = c.most.type_inv }), c.most.ensures, rise-plain l c.requires.0, plain (fall-within l c.requires.0) (lit< tt)) (
      behind-within a.scratch.now c.sweep.new.scratch a.to a.from a.cells (a.to + (a.a + l.high)) (a.from + a.a) down c.requires.2
          (omega (arith, room, c.requires.2.before))
          (omega arith)
          (omega (arith, room))
          c.sweep.auto.scratch
          (λ j h. c.sweep.ensures.apart j (inr (omega (arith, up, c.requires.2.before)))),
      down-stepping l c.requires.0 down some (omega (arith, few, c.requires.0.few)),
    )

pub returns : goal.returns
returns c =
    let a = c.args in
    let l = a.l in
    row-chunk l a.cells a.to a.from a.scratch.now c.sweep.new.scratch c.sweep-2.new.scratch c.requires.2.before a.a c.smaller-down.result
    c.requires.0.some
    c.requires.1
    c.smaller-down.ensures
    (rw (least-plain l c.requires.0, rise-plain l c.requires.0) at c.sweep.ensures)
    (rw (plain_fits {x = c.most.result} (record { sfits = c.most.type_inv }), c.most.ensures, rise-plain l c.requires.0, plain (fall-within l c.requires.0) (lit< tt)) at
    c.sweep-2.ensures)

use Rattle.std.proofs.Common.{◌≡◌, ◌+◌, ◌-◌, arith}
use Prim.Native.Nat.{min}
use Rattle.intervals.specs.Ladders.{outputs}
use Rattle.carrying.specs.Images.{Chunks}
use Rattle.carrying.proofs.Chunks.{room_for, next-chunk, chunks-next, chunks-all, InChunks}
use Rattle.carrying.proofs.images.chunks.Goals as goal
use Rattle.carrying.proofs.images.chunks.Goals.{After-smaller, After-chunk}

some_is : (c : After-smaller) → c.smaller.result ≡ min (outputs c.args.l) (c.args.p.count - c.loop-done.done)
some_is c =
    let size : c.args.l.high - c.args.l.low + 1 ≡ outputs c.args.l = omega (arith, c.requires.0.steady.some) in
    rw (← size) c.smaller.ensures

pub chunk-requires : goal.chunk-requires
chunk-requires c =
    let a = c.args in
    let l = c.loop-done in
    let p = c.requires.0 in
    let v = l.invariant p in (
      next-chunk a.l a.cells.now a.w a.p p a.out.now l.out l.done c.loop-done-test.true v c.smaller.result (some_is (goal.at.chunk-requires c).After-smaller),
      room_for a.l a.cells.now a.w a.p p a.out.now l.out l.done c.loop-done-test.true v,
      omega (arith, v.same),
    )

-- a chunk more is done
next : (c : After-chunk) (p : Chunks c.args.l c.args.cells.now c.args.w c.args.p) →
    InChunks c.args.l c.args.cells.now c.args.w c.args.p p c.args.out.now c.chunk.new.out (c.loop-done.done + outputs c.args.l)
next c p =
    let a = c.args in
    let l = c.loop-done in
    let size : a.l.high - a.l.low + 1 ≡ outputs a.l = omega (arith, p.steady.some) in
    chunks-next a.l a.cells.now a.w a.p p a.out.now l.out l.done c.loop-done-test.true (l.invariant p) c.smaller.result
    (rw (← size) c.smaller.ensures) c.chunk.new.out c.chunk.ensures

pub loop-done-preserved : goal.loop-done-preserved
loop-done-preserved c p =
    let size : c.args.l.high - c.args.l.low + 1 ≡ outputs c.args.l = omega (arith, p.steady.some) in
    rw size (next (goal.at.loop-done-preserved c).After-chunk p)

pub returns : goal.returns
returns c =
    let a = c.args in
    chunks-all a.l a.cells.now a.w a.p c.requires.0 a.out.now c.loop-done.out c.loop-done.done (omega (arith, c.loop-done-test.false))
    (c.loop-done.invariant c.requires.0)

pub returns-2 : goal.returns-2
returns-2 c =
    let a = c.args in
    chunks-all a.l a.cells.now a.w a.p c.requires.0 a.out.now c.chunk.new.out (c.loop-done.done + outputs a.l)
    (omega (arith, c.requires.0.steady.some)) (next (goal.at.returns-2 c).After-chunk c.requires.0)

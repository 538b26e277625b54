use Rattle.std.proofs.Common.{◌≡◌, ◌≤◌, ◌<◌, pos, ◌-ℤ◌, arith, to_z, of_z, w64}
use mathlib.Core.Logic.{◌⊎◌, ⊎_elim, inl, inr}
use lib.Dec.{lit<}
use Rattle.integers.proofs.Ranges.{plain, plain_fits}
use Rattle.intervals.proofs.Ladders.{least-plain, rise-plain, fall-within}
use Rattle.carrying.proofs.Chunks.{chunk-plain, chunk-joined, begins-low, up-sources, down-sources}
use Rattle.carrying.proofs.images.chunk.Goals as goal
use Rattle.carrying.proofs.images.chunk.Goals.{After-most}

pub climb-requires : goal.climb-requires
climb-requires c =
    let a = c.args in
    let ok = c.requires.0.steady in
    (rw (least-plain a.l ok, rise-plain a.l ok) (up-sources a.l a.cells.now a.w a.p c.requires.0), omega (arith, c.requires.0.most), omega arith)

-- what is descended falls as the ladder rises
falls : (c : After-most) → to_z w64 (of_z w64 (pos 0 -ℤ to_z w64 (of_z w64 c.args.l.rise))) ≡ pos 0 -ℤ c.args.l.rise
falls c = let ok = c.requires.0.steady in rw (rise-plain c.args.l ok) (plain (fall-within c.args.l ok) (lit< tt))

pub descend-requires : goal.descend-requires
descend-requires c =
    let a = c.args in
    rw (falls (goal.at.descend-requires c).After-most, plain_fits (record { sfits = c.most.type_inv }), c.most.ensures) (
      down-sources a.l a.cells.now a.w a.p c.requires.0 c.if-l-p.true c.if-l.true,
      omega arith,
      omega arith,
    )

pub returns-then-l : goal.returns-then-l
returns-then-l c =
    let a = c.args in
    let ok = c.requires.0.steady in
    let up = rw (least-plain a.l ok, rise-plain a.l ok) at c.climb.ensures in
    let down = rw (falls (goal.at.returns-then-l c).After-most, plain_fits (record { sfits = c.most.type_inv }), c.most.ensures) at c.descend.ensures in
    chunk-joined a.l a.cells.now a.w a.p.line a.p.first (begins-low a.l a.cells.now a.w a.p c.requires.0) a.p.count c.requires.0.most
    a.out.now a.to (omega arith) _ _ c.if-l-p.true c.if-l.true up down

pub returns-else-l-p : goal.returns-else-l-p
returns-else-l-p c =
    let a = c.args in
    let ok = c.requires.0.steady in
    let up = rw (least-plain a.l ok, rise-plain a.l ok) at c.climb.ensures in
    -- the line begins, or there is one output
    let plainly : (a.p.first ≡ a.l.low) ⊎ (a.l.high ≤ a.l.low) =
    ⊎_elim (λ (e : a.p.first ≡ a.l.low). inl e)
    (λ (h : a.l.high < a.p.first).
    ⊎_elim (λ (w : (a.l.high < a.p.first) × (a.l.high ≤ a.l.low)). inr w.1) (λ (g : a.p.first ≤ a.l.high). absurd (omega arith)) c.else-l-p.either)
    c.requires.0.begins in
    chunk-plain a.l a.cells.now a.w a.p.line a.p.first (begins-low a.l a.cells.now a.w a.p c.requires.0) a.p.count c.requires.0.most
    a.out.now a.to (omega arith) _ plainly up

-- The cell that off leads to, read where it stands; where there is none, no schedule.
use Rattle.std.proofs.Common.{rules, ◌≡◌, ap, ◌∙◌, ℕ, ◌+◌, ◌<◌, ◌≤◌, length, pos, arith}
use borrow.Author.Tests.{lt-ltb, le-ltb}
use lib.ListN.{get_or}
use Rattle.integers.proofs.Ranges.{plain_fits}
use Rattle.optimality.specs.declared.Figures.{Figures}
use Rattle.optimality.specs.declared.Cell.{Cell}
use Rattle.optimality.specs.Cells.{InTable, states, after_off, off_cell}
use Rattle.optimality.proofs.Turns.{off-in-table}
use Rattle.geometry.specs.Geometry.{width, index}
use Rattle.intervals.specs.Turns.{off_stored}
use Rattle.geometry.proofs.Places.{index-lt}
use Rattle.table.proofs.reading.off_stored.Goals as goal

-- where the cell stands that off leads to
place : (f : Figures) (c next : Cell) (at i len : ℕ) → InTable f c → next ≡ off_cell f c → next.state < states f → i ≡ index f next
    → at + width f ≤ len
    → (i ≡ index f (off_cell f c)) × (at + i < len)
place f c next at i len here is leads e fits =
    let s = ap (λ (x : Cell). x.state) is in
    let there = off-in-table f c here (omega (arith, s, leads)) in
    let j : i ≡ index f (off_cell f c) = e ∙ ap (index f) is in
    (j, omega (arith, j, index-lt f (off_cell f c) there, fits))

pub returns-then-f-next : goal.returns-then-f-next
unfolding off_stored
returns-then-f-next c =
    let a = c.args in
    let is = ap (λ (x : Cell). x.state) c.off_cell-next.ensures in
    simp (le-ltb (after_off a.f a.c.state) (states a.f) (omega (arith, is, c.if-f-next.true)))

pub overflow_add-result : goal.overflow_add-result
overflow_add-result c =
    let a = c.args in
    omega (
      arith,
      (place a.f a.c c.off_cell-next.result a.at c.index.result (length a.scratch.now) c.requires.1 c.off_cell-next.ensures
          (omega (arith, c.if-f-next.false)) c.index.ensures c.requires.2).1,
    )

pub offset_bounds-scratch-at : goal.offset_bounds-scratch-at
offset_bounds-scratch-at c =
    let a = c.args in
    omega (
      arith,
      (place a.f a.c c.off_cell-next.result a.at c.index.result (length a.scratch.now) c.requires.1 c.off_cell-next.ensures
          (omega (arith, c.if-f-next.false)) c.index.ensures c.requires.2).1,
    )

pub bounds-scratch-at : goal.bounds-scratch-at
bounds-scratch-at c =
    let a = c.args in
    (place a.f a.c c.off_cell-next.result a.at c.index.result (length a.scratch.now) c.requires.1 c.off_cell-next.ensures
    (omega (arith, c.if-f-next.false)) c.index.ensures c.requires.2).1

pub returns : goal.returns
unfolding off_stored
returns c =
    let a = c.args in
    let is = ap (λ (x : Cell). x.state) c.off_cell-next.ensures in
    let e = c.index.ensures ∙ ap (index a.f) c.off_cell-next.ensures in
    simp (lt-ltb (after_off a.f a.c.state) (states a.f) (omega (arith, is, c.if-f-next.false)))
    (plain_fits {x = get_or a.scratch.now (a.at + c.index.result) (pos 0)} (search rules)
    ∙ ap (λ (n : ℕ). get_or a.scratch.now (a.at + n) (pos 0)) e)

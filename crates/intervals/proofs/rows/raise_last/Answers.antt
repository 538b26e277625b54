-- Going up what is left of the row, by the law of its last sources, where there are any.
use Rattle.std.proofs.Common.{◌≡◌, refl, ap, ℕ, ◌+◌, ◌-◌, ◌≤◌, arith}
use Rattle.intervals.proofs.Segments.{behind-within}
use Rattle.intervals.proofs.Ladders.{least-plain, rise-plain, up-stepping}
use Rattle.intervals.proofs.Windows.{row_last, row-no-last}
use Rattle.intervals.proofs.rows.raise_last.Goals as goal

pub sweep-requires : goal.sweep-requires
sweep-requires c =
    let a = c.args in
    let l = a.l in
    let first = a.cells - c.smaller.result in
    let left = a.cells - (first + l.low) in
    let some : 1 ≤ left = omega (arith, c.if-first-cells.true) in
    let few : left ≤ l.high = omega (arith, c.smaller.ensures, c.if-first-cells.true) in
    let all : first + l.low + left ≡ a.cells = omega (arith, c.if-first-cells.true) in (
      behind-within a.scratch.now a.scratch.now a.to a.from a.cells (a.to + (first + l.low)) (a.from + first) left c.requires.1
          (omega (arith, all, c.requires.1.before))
          (omega arith)
          (omega (arith, all))
          refl
          (λ j h. refl),
      rw (least-plain l c.requires.0, rise-plain l c.requires.0) (up-stepping l c.requires.0 left some (omega (arith, few, c.requires.0.few))),
    )

pub returns-then-first-cells : goal.returns-then-first-cells
returns-then-first-cells c =
    let a = c.args in
    let l = a.l in
    row_last l a.cells a.to a.from a.scratch.now (a.cells - c.smaller.result) (ap (λ (n : ℕ). a.cells - n) c.smaller.ensures) c.sweep.new.scratch
    c.if-first-cells.true
    c.requires.0.some
    (rw (least-plain l c.requires.0, rise-plain l c.requires.0) at c.sweep.ensures)

pub returns-else-first-cells : goal.returns-else-first-cells
returns-else-first-cells c =
    let a = c.args in
    row-no-last a.l a.cells a.to a.from a.scratch.now (a.cells - c.smaller.result) (ap (λ (n : ℕ). a.cells - n) c.smaller.ensures)
    c.if-first-cells.false

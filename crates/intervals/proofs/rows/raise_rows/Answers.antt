-- Each row stands where it is due, and its source behind it.
use Rattle.std.proofs.Common.{◌≡◌, ◌+◌, ◌≤◌, arith}
use Rattle.geometry.specs.Geometry.{row, span}
use Rattle.geometry.proofs.Places.{rows_fit, row_fits}
use Rattle.intervals.proofs.Segments.{round-behind, round-place, round-source}
use Rattle.intervals.proofs.Passes.{rows-first, rows_next, rows-done}
use Rattle.intervals.proofs.rows.raise_rows.Goals as goal

pub overflow_add-first : goal.overflow_add-first
overflow_add-first c =
    let f = c.args.f in
    rw c.row_cells-cells.ensures (omega (arith, rows_fit f f.takes.ons (omega (arith, c.requires.0.takes.ons)), c.requires.3))

pub loop-y-init : goal.loop-y-init
loop-y-init c =
    let low = c.args.f.takes.ons in
    let none : low + 0 ≡ low = omega arith in
    rw none (rows-first c.args.f c.args.l c.args.scratch.now c.args.to c.args.from)

pub overflow_mul-y : goal.overflow_mul-y
overflow_mul-y c =
    let f = c.args.f in
    let y = c.loop-y.y in
    rw c.row_cells-cells.ensures (omega (arith, row_fits f (f.takes.ons + y) (omega (arith, c.loop-y-test.true)), c.requires.3))

pub overflow_add-first-in-loop-y : goal.overflow_add-first-in-loop-y
overflow_add-first-in-loop-y c =
    let f = c.args.f in
    let y = c.loop-y.y in
    rw c.row_cells-cells.ensures (omega (arith, row_fits f (f.takes.ons + y) (omega (arith, c.loop-y-test.true)), c.requires.3))

pub overflow_mul-y-in-loop-y : goal.overflow_mul-y-in-loop-y
overflow_mul-y-in-loop-y c =
    let f = c.args.f in
    let y = c.loop-y.y in
    rw c.row_cells-cells.ensures (omega (arith, row_fits f (f.takes.ons + y) (omega (arith, c.loop-y-test.true)), c.requires.3))

pub overflow_add-from : goal.overflow_add-from
overflow_add-from c =
    let f = c.args.f in
    let y = c.loop-y.y in
    rw c.row_cells-cells.ensures (omega (arith, row_fits f (f.takes.ons + y) (omega (arith, c.loop-y-test.true)), c.requires.3))

pub raise_row-requires : goal.raise_row-requires
raise_row-requires c =
    let a = c.args in
    let l = c.loop-y in
    let low = a.f.takes.ons in
    let inside : low + l.y ≤ a.f.most.ons = omega (arith, c.loop-y-test.true) in
    rw c.row_cells-cells.ensures (
      c.requires.2,
      round-behind (row a.f) low a.to a.from l.y a.scratch.now l.scratch (span a.f) c.requires.3 (row_fits a.f (low + l.y) inside) l.invariant.same
          l.invariant.after,
    )

pub loop-y-preserved : goal.loop-y-preserved
loop-y-preserved c =
    let a = c.args in
    let l = c.loop-y in
    let low = a.f.takes.ons in
    let size = row a.f in
    let more : low + l.y + 1 ≡ low + (l.y + 1) = omega arith in
    let inside : low + l.y ≤ a.f.most.ons = omega (arith, c.loop-y-test.true) in
    rw more at
    (rows_next a.f a.l a.scratch.now a.to a.from l.scratch c.raise_row.new.scratch (low + l.y) (omega arith) inside c.requires.1 c.requires.3.before
    c.raise_row.auto.scratch
    l.invariant
    (rw (c.row_cells-cells.ensures, round-place size low a.to a.from l.y, round-source size low a.to a.from l.y) at c.raise_row.ensures))

pub returns : goal.returns
returns c =
    let a = c.args in
    let l = c.loop-y in
    rows-done a.f a.l a.scratch.now a.to a.from l.scratch (a.f.takes.ons + l.y)
    (omega (arith, c.loop-y-test.false, l.auto.y-end, c.requires.0.takes.ons)) l.invariant

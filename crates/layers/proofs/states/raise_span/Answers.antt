-- Where the blocks are not limited the one pass does all rows by the law of the ends; else the rows are raised one by one.
use Rattle.std.proofs.Common.{refl, ◌+◌, ◌-◌, ◌*◌, ◌≤◌, arith}
use Rattle.integers.proofs.Ranges.{plain_fits}
use Rattle.geometry.specs.Geometry.{span}
use Rattle.geometry.proofs.Places.{rows_fit}
use Rattle.intervals.proofs.Segments.{behind-within}
use Rattle.intervals.proofs.Ladders.{end-small}
use Rattle.intervals.proofs.Passes.{rows-by-ends}
use Rattle.layers.proofs.states.raise_span.Goals as goal

pub overflow_add-to : goal.overflow_add-to
overflow_add-to c =
    let f = c.args.f in
    let skipped : f.takes.ons * c.row_cells.result ≤ span f = rw c.row_cells.ensures (rows_fit f f.takes.ons (omega (arith, c.requires.0.takes.ons))) in
    omega (arith, skipped, c.requires.3)

pub overflow_sub-all : goal.overflow_sub-all
overflow_sub-all c =
    let f = c.args.f in
    let skipped : f.takes.ons * c.row_cells.result ≤ span f = rw c.row_cells.ensures (rows_fit f f.takes.ons (omega (arith, c.requires.0.takes.ons))) in
    omega (arith, skipped, c.span_cells-all.ensures)

pub raise-requires : goal.raise-requires
raise-requires c =
    let a = c.args in
    let f = a.f in
    let gap = f.takes.ons * c.row_cells.result in
    let all = c.span_cells-all.result in
    let e = c.span_cells-all.ensures in
    let skipped : gap ≤ span f = rw c.row_cells.ensures (rows_fit f f.takes.ons (omega (arith, c.requires.0.takes.ons))) in (
      behind-within a.scratch.now a.scratch.now a.to a.from (span f) (a.to + gap) a.from (all - gap) c.requires.3
          (omega (arith, skipped, e, c.requires.3.before))
          (omega arith)
          (omega (arith, skipped, e))
          refl
          (λ j h. refl),
      rw (plain_fits c.ranges.end, c.requires.2) (end-small a.l c.requires.1),
    )

pub returns-then-f-eq0 : goal.returns-then-f-eq0
returns-then-f-eq0 c =
    let a = c.args in
    rows-by-ends a.f a.l a.scratch.now a.to a.from c.requires.0 c.requires.1 c.if-f-eq0.true c.raise.new.scratch
    (rw (plain_fits c.ranges.end, c.requires.2, c.row_cells.ensures, c.span_cells-all.ensures) at c.raise.ensures)

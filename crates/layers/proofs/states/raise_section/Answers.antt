-- Each span stands where it is due, and its source behind it.
use Rattle.std.proofs.Common.{◌≡◌, ◌∙◌, ◌+◌, ◌≤◌, arith}
use Rattle.integers.proofs.Ranges.{plain_fits}
use Rattle.geometry.specs.Geometry.{span, section}
use Rattle.geometry.proofs.Places.{spans_fit, span_fits}
use Rattle.intervals.proofs.Segments.{round-behind, round-place, round-source}
use Rattle.intervals.proofs.Passes.{spans-first, spans-next, spans-done}
use Rattle.layers.proofs.states.raise_section.Goals as goal

pub overflow_mul-first : goal.overflow_mul-first
overflow_mul-first c =
    rw c.span_cells-cells.ensures (omega (arith, spans_fit c.args.f c.args.takes (omega (arith, c.requires.1)), c.requires.3))

pub overflow_add-first : goal.overflow_add-first
overflow_add-first c =
    rw c.span_cells-cells.ensures (omega (arith, spans_fit c.args.f c.args.takes (omega (arith, c.requires.1)), c.requires.3))

pub loop-x-init : goal.loop-x-init
loop-x-init c =
    let a = c.args in
    let none : a.takes + 0 ≡ a.takes = omega arith in
    rw none (spans-first a.f a.l a.scratch.now a.to a.from a.takes)

pub overflow_mul-x : goal.overflow_mul-x
overflow_mul-x c =
    let f = c.args.f in
    let x = c.loop-x.x in
    rw c.span_cells-cells.ensures (omega (arith, span_fits f (c.args.takes + x) (omega (arith, c.loop-x-test.true)), c.requires.3))

pub overflow_add-first-in-loop-x : goal.overflow_add-first-in-loop-x
overflow_add-first-in-loop-x c =
    let f = c.args.f in
    let x = c.loop-x.x in
    rw c.span_cells-cells.ensures (omega (arith, span_fits f (c.args.takes + x) (omega (arith, c.loop-x-test.true)), c.requires.3))

pub overflow_mul-x-in-loop-x : goal.overflow_mul-x-in-loop-x
overflow_mul-x-in-loop-x c =
    let f = c.args.f in
    let x = c.loop-x.x in
    rw c.span_cells-cells.ensures (omega (arith, span_fits f (c.args.takes + x) (omega (arith, c.loop-x-test.true)), c.requires.3))

pub overflow_add-from : goal.overflow_add-from
overflow_add-from c =
    let f = c.args.f in
    let x = c.loop-x.x in
    rw c.span_cells-cells.ensures (omega (arith, span_fits f (c.args.takes + x) (omega (arith, c.loop-x-test.true)), c.requires.3))

pub raise_span-requires : goal.raise_span-requires
raise_span-requires c =
    let a = c.args in
    let l = c.loop-x in
    let inside : a.takes + l.x ≤ a.f.most.starts = omega (arith, c.loop-x-test.true) in
    rw c.span_cells-cells.ensures (
      c.requires.0,
      c.requires.2,
      plain_fits (record { sfits = c.better_end-end.type_inv }) ∙ c.better_end-end.ensures,
      round-behind (span a.f) a.takes a.to a.from l.x a.scratch.now l.scratch (section a.f) c.requires.3 (span_fits a.f (a.takes + l.x) inside)
          l.invariant.same
          l.invariant.after,
    )

pub loop-x-preserved : goal.loop-x-preserved
loop-x-preserved c =
    let a = c.args in
    let l = c.loop-x in
    let size = span a.f in
    let more : a.takes + l.x + 1 ≡ a.takes + (l.x + 1) = omega arith in
    let inside : a.takes + l.x ≤ a.f.most.starts = omega (arith, c.loop-x-test.true) in
    rw more at
    (spans-next a.f a.l a.scratch.now a.to a.from a.takes l.scratch c.raise_span.new.scratch (a.takes + l.x) (omega arith) inside c.requires.3.before
    c.raise_span.auto.scratch
    l.invariant
    (rw (c.span_cells-cells.ensures, round-place size a.takes a.to a.from l.x, round-source size a.takes a.to a.from l.x) at c.raise_span.ensures))

pub returns : goal.returns
returns c =
    let a = c.args in
    let l = c.loop-x in
    spans-done a.f a.l a.scratch.now a.to a.from a.takes l.scratch (a.takes + l.x)
    (omega (arith, c.loop-x-test.false, l.auto.x-end, c.requires.1)) l.invariant

use Rattle.std.proofs.Common.{◌≡◌, ap, ◌∙◌, ◌+◌, ◌-◌, ◌*◌, ℕ, arith}
use native.Mathlib.Nat.{zero-mul}
use Rattle.geometry.specs.Geometry as geometry
use Rattle.geometry.proofs.Places.{spans_all, span_fits}
use Rattle.marks.specs.Lines.{quarter_of}
use Rattle.marks.specs.Passing.{Columns}
use Rattle.marks.proofs.Columns.{columns-none, columns-join, before-next, one_more}
use Rattle.marks.proofs.passes.step_spans.Goals as goal
use Rattle.marks.proofs.passes.step_spans.Goals.{After-step_span}

pub loop-x-init : goal.loop-x-init
loop-x-init c =
    let f = c.args.t.figures in
    rw (spans_all f) (columns-none f _ c.args.t.width c.args.cells.now (geometry.section f))

pub step_span-requires-clause-before : goal.step_span-requires-clause-before
step_span-requires-clause-before c =
    let a = c.args in
    let f = a.t.figures in
    let x = c.loop-x.x in
    let e : x * geometry.span f + geometry.span f ≡ (x + 1) * geometry.span f = omega (arith, one_more 0 (geometry.span f) x) in (
      rw e (before-next a.t a.cells.now c.loop-x.cells ((x + 1) * geometry.span f) (geometry.section f)
          (omega (arith, e, span_fits f x (omega arith))) c.requires.before c.loop-x.invariant),
      omega arith,
    )

-- the span of a turn, too
turned : (c : After-step_span) →
    Columns c.args.t.figures (quarter_of c.args.t) c.args.t.width c.args.cells.now c.step_span.new.cells (c.loop-x.x * geometry.span c.args.t.figures)
    (geometry.section c.args.t.figures)
turned c =
    let a = c.args in
    let f = a.t.figures in
    let x = c.loop-x.x in
    let e : x * geometry.span f + geometry.span f ≡ (x + 1) * geometry.span f = omega (arith, one_more 0 (geometry.span f) x) in
    columns-join f (quarter_of a.t) a.t.width a.cells.now c.loop-x.cells c.step_span.new.cells (x * geometry.span f) ((x + 1) * geometry.span f)
    (geometry.section f) (omega (arith, e)) (omega (arith, e, span_fits f x (omega arith))) c.loop-x.invariant (rw e at c.step_span.ensures)

pub loop-x-preserved : goal.loop-x-preserved
loop-x-preserved c =
    let e : c.loop-x.x - 1 + 1 ≡ c.loop-x.x = omega arith in
    rw e (turned (goal.at.loop-x-preserved c).After-step_span)

pub returns-2 : goal.returns-2
returns-2 c =
    let f = c.args.t.figures in
    let none : c.loop-x.x ≡ 0 = omega arith in
    let z : c.loop-x.x * geometry.span f ≡ 0 = ap (λ (n : ℕ). n * geometry.span f) none ∙ zero-mul (geometry.span f) in
    rw z at (turned (goal.at.returns-2 c).After-step_span)

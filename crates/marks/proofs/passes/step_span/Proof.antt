-- The span, or its rows.
use mathlib.Core.Path.{refl}
use mathlib.Core.Logic.{inl}
use Prim.Native.Nat.{◌+◌, ◌*◌, ◌<◌, ◌^◌}
use native.Mathlib.Nat.{zero-mul, lt_of_le_of_lt}
use native.Mathlib.Omega.{arith}
use lib.Dec.{lit<}
use borrow.Author.Rules.{rules}
use Rattle.geometry.specs.Geometry as geometry
use Rattle.geometry.proofs.Places.{span_fits}
use Rattle.geometry.proofs.Sizes.{section-most}
use Rattle.marks.specs.Passing.{Before}
use Rattle.marks.proofs.passes.step_span.Statement.{statement}
use Rattle.marks.proofs.passes.step_span.Tie as tie

before : (c : tie.Start) →
    let a = c.args in
    Before a.t a.cells.now (a.x * geometry.span a.t.figures + geometry.span a.t.figures)
before c = c.requires.0.0

step-line-requires : tie.Need-step_line-requires
step-line-requires c κs =
    let spans = c.before.before.before in
    let then = spans.before.before in
    let o = then.before.before in
    let a = o.args in
    let f = a.t.figures in
    rw spans.span_cells-span.ensures (
      (
        before o,
        record {
          starts = o.requires.0.1;
          begins = omega (arith, zero-mul (geometry.row f));
          ends = span_fits f a.x o.requires.0.1;
          flat = λ none. (refl, inl (omega arith));
          lined = λ one. absurd (omega (arith, one, then.if-t-eq0.true));
        },
      ),
      o.requires.1,
    )

pub step_span_spec : {M : Type 1} → statement M
step_span_spec =
    tie.close
    (tie.spec (λ c κs. (before c.before.before.before).over.interval.sound)
    (λ c.
    let o = c.before.before.before.before in
    let f = o.args.t.figures in
    let most : geometry.section f < 2 ^ 64 = lt_of_le_of_lt (section-most f (before o).over.interval.sound) (lit< tt) in
    rw c.span_cells-span.ensures (omega (arith, most, span_fits f o.args.x o.requires.0.1)))
    step-line-requires
    (λ c κs.
    let else = c.before.before.before in
    let o = else.before.before in
    (o.requires.0, (omega (arith, else.if-t-eq0.false, (before o).over.interval.sound.takes.blocks), o.requires.1.0, o.requires.1.1)))
    (λ c. search rules) (λ c. search rules) (λ c. search rules)
    (λ c. let made = c.before.before.before in rw made.before.before.before.before.span_cells-span.ensures at made.step_line.ensures)
    (λ c. search rules) (λ c. search rules) (λ c. search rules) (λ c. c.before.before.before.step_rows.ensures))

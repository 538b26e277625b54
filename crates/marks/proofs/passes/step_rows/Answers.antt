use Rattle.std.proofs.Common.{◌≡◌, refl, ap, ◌∙◌, ◌+◌, ◌-◌, ◌*◌, ◌<◌, ◌^◌, ℕ, arith}
use native.Mathlib.Nat.{zero-mul, lt_of_le_of_lt}
use lib.Dec.{lit<}
use Rattle.geometry.specs.Geometry as geometry
use Rattle.geometry.proofs.Places.{rows_all, row_fits, span_fits}
use Rattle.geometry.proofs.Sizes.{section-most}
use Rattle.marks.specs.Lines.{quarter_of}
use Rattle.marks.specs.Passing.{Columns}
use Rattle.marks.proofs.Columns.{columns-none, columns-join, before-next, one_more}
use Rattle.marks.proofs.passes.step_rows.Goals as goal
use Rattle.marks.proofs.passes.step_rows.Goals.{After-span_cells, In-loop-y, After-step_line}

-- the span's columns are numbers
room : (c : After-span_cells) → c.args.x * geometry.span c.args.t.figures + geometry.span c.args.t.figures < 2 ^ 64
room c =
    let f = c.args.t.figures in
    let small : geometry.section f < 2 ^ 64 = lt_of_le_of_lt (section-most f c.requires.before.0.over.interval.sound) (lit< tt) in
    omega (arith, span_fits f c.args.x c.requires.before.1)

-- the row of a turn, as the code has it
row-is : (c : In-loop-y) → c.loop-y.y * c.row_cells-row.result ≡ c.loop-y.y * geometry.row c.args.t.figures
row-is c = ap (λ (n : ℕ). c.loop-y.y * n) c.row_cells-row.ensures

first-is : (c : After-span_cells) → c.args.x * c.span_cells.result ≡ c.args.x * geometry.span c.args.t.figures
first-is c = ap (λ (n : ℕ). c.args.x * n) c.span_cells.ensures

pub overflow_mul-first : goal.overflow_mul-first
overflow_mul-first c = let s = (goal.at.overflow_mul-first c).After-span_cells in omega (arith, room s, first-is s)

pub loop-y-init : goal.loop-y-init
loop-y-init c =
    let f = c.args.t.figures in
    rw (rows_all f) (columns-none f _ c.args.t.width c.args.cells.now (c.args.x * geometry.span f + geometry.span f))

pub overflow_mul-line : goal.overflow_mul-line
overflow_mul-line c =
    omega (arith, room (goal.at.overflow_mul-line c).After-span_cells, row-is (goal.at.overflow_mul-line c).In-loop-y, row_fits c.args.t.figures c.loop-y.y (omega arith))

pub overflow_add-line : goal.overflow_add-line
overflow_add-line c =
    let s = (goal.at.overflow_add-line c).After-span_cells in
    omega (arith, room s, first-is s, row-is (goal.at.overflow_add-line c).In-loop-y, row_fits c.args.t.figures c.loop-y.y (omega arith))

pub step_line-requires-clause-before : goal.step_line-requires-clause-before
step_line-requires-clause-before c =
    let a = c.args in
    let f = a.t.figures in
    let y = c.loop-y.y in
    let first = a.x * geometry.span f in
    let fit = row_fits f y (omega arith) in
    let e = one_more first (geometry.row f) y in
    let b = before-next a.t a.cells.now c.loop-y.cells (first + (y + 1) * geometry.row f) (first + geometry.span f) (omega (arith, e))
    c.requires.before.0 c.loop-y.invariant in
    rw (c.span_cells.ensures, c.row_cells-row.ensures) (
      rw e b,
      record {
        starts = c.requires.before.1;
        begins = refl;
        ends = omega (arith, span_fits f a.x c.requires.before.1);
        flat = λ none. absurd (omega (arith, none));
        lined = λ one. (omega arith, refl);
      },
    )

-- the row of a turn, too
turned : (c : After-step_line) →
    let a = c.args in
    let first = a.x * geometry.span a.t.figures in
    Columns a.t.figures (quarter_of a.t) a.t.width a.cells.now c.step_line.new.cells (first + c.loop-y.y * geometry.row a.t.figures)
    (first + geometry.span a.t.figures)
turned c =
    let a = c.args in
    let f = a.t.figures in
    let y = c.loop-y.y in
    let first = a.x * geometry.span f in
    let e = one_more first (geometry.row f) y in
    let new = rw (c.span_cells.ensures, c.row_cells-row.ensures) at c.step_line.ensures in
    columns-join f (quarter_of a.t) a.t.width a.cells.now c.loop-y.cells c.step_line.new.cells (first + y * geometry.row f)
    (first + (y + 1) * geometry.row f) (first + geometry.span f) (omega (arith, e)) (omega (arith, e, row_fits f y (omega arith)))
    c.loop-y.invariant (rw e at new)

pub loop-y-preserved : goal.loop-y-preserved
loop-y-preserved c =
    let e : c.loop-y.y - 1 + 1 ≡ c.loop-y.y = omega arith in
    rw e (turned (goal.at.loop-y-preserved c).After-step_line)

pub returns-2 : goal.returns-2
returns-2 c =
    let a = c.args in
    let f = a.t.figures in
    let none : c.loop-y.y ≡ 0 = omega arith in
    let m : c.loop-y.y * geometry.row f ≡ 0 = ap (λ (n : ℕ). n * geometry.row f) none ∙ zero-mul (geometry.row f) in
    let z : a.x * geometry.span f + c.loop-y.y * geometry.row f ≡ a.x * geometry.span f = omega (arith, m) in
    rw z at (turned (goal.at.returns-2 c).After-step_line)

use Rattle.std.proofs.Common.{◌≡◌, ap, ◌∙◌, ◌+◌, ◌≤◌, ◌<◌, ℕ, pos, length, get_or, arith, rules, FitsSigned, w64}
use mathlib.Core.Logic.{⊎_elim}
use Rattle.integers.proofs.Ranges.{plain_fits}
use Rattle.optimality.specs.declared.Cell.{Cell}
use Rattle.optimality.specs.Cells.{with_most}
use Rattle.optimality.specs.Years.{raised}
use Rattle.geometry.specs.Geometry.{width, index}
use Rattle.geometry.proofs.Places.{index-lt, cell-there}
use Rattle.intervals.proofs.Stretches.{made-next, made-apart}
use Rattle.months.specs.Capping.{high_cell}
use Rattle.months.proofs.Raising.{high-inside}
use Rattle.months.proofs.boxes.enter.Goals as goal
use Rattle.months.proofs.boxes.enter.Goals.{In-loop-i, After-index}

in-box : (c : In-loop-i) → c.loop-i.i < width (with_most c.args.f c.args.cap)
in-box c = rw (← c.with_most.ensures) (omega (arith, c.layer_cells-w.ensures))

pub index-requires : goal.index-requires
index-requires c =
    let a = c.args in
    (c.requires.fits.sound, rw c.high_cell.ensures (high-inside a.f a.cap a.above c.requires.fits c.loop-i.i (in-box (goal.at.index-requires c).In-loop-i)))

-- what is read stands in the year's layer
read : (c : After-index) → c.loop-i.i < width (with_most c.args.f c.args.cap) →
    (c.index.result ≡ index c.args.f (high_cell c.args.f c.args.cap c.args.above c.loop-i.i))
    × (c.index.result < width c.args.f) × (c.args.from + c.index.result < length c.loop-i.cells)
read c in-box =
    let a = c.args in
    let is = c.index.ensures ∙ ap (index a.f) c.high_cell.ensures in
    let below : c.index.result < width a.f = rw is (index-lt a.f _ (high-inside a.f a.cap a.above c.requires.fits c.loop-i.i in-box)) in
    (is, below, omega (arith, below, c.requires.year))

pub overflow_add-at : goal.overflow_add-at
overflow_add-at c = omega (arith, read (goal.at.overflow_add-at c).After-index (in-box (goal.at.overflow_add-at c).In-loop-i))

pub offset_bounds-cells-at : goal.offset_bounds-cells-at
offset_bounds-cells-at c =
    omega (arith, read (goal.at.offset_bounds-cells-at c).After-index (in-box (goal.at.offset_bounds-cells-at c).In-loop-i))

pub slice_copy_out-cells : goal.slice_copy_out-cells
slice_copy_out-cells c = (read (goal.at.slice_copy_out-cells c).After-index (in-box (goal.at.slice_copy_out-cells c).In-loop-i)).2

pub loop-i-preserved : goal.loop-i-preserved
loop-i-preserved c =
    let a = c.args in
    let l = c.loop-i in
    let inside = in-box (goal.at.loop-i-preserved c).In-loop-i in
    let r = read (goal.at.loop-i-preserved c).After-index inside in
    let fits : FitsSigned w64 (get_or l.cells (a.from + c.index.result) (pos 0)) = search rules in
    let old = plain_fits fits
    ∙ l.invariant.apart (a.from + c.index.result)
    (λ m k e.
    ⊎_elim (λ (h : a.to + width (with_most a.f a.cap) ≤ a.from). omega (arith, inside))
    (λ (h : a.from + width a.f ≤ a.to). omega (arith, r.1)) c.requires.apart)
    ∙ ap (λ (z : ℕ). get_or a.cells.now (a.from + z) (pos 0)) r.0 in
    made-next (λ j. j) a.cells.now a.to _ l.cells l.i _ (omega (arith, inside, c.requires.box)) (λ m k e. omega arith) l.invariant old

pub returns : goal.returns
returns c =
    let a = c.args in
    let g = with_most a.f a.cap in
    let w : c.layer_cells-w.result ≡ width g = rw (← c.with_most.ensures) c.layer_cells-w.ensures in
    let done : c.loop-i.i ≡ width g = omega (arith, w) in
    let all = rw done at c.loop-i.invariant in
    record {
      inside = λ x i.
          all.inside (index g x) (index-lt g x i)
          ∙ ap (λ (z : Cell). get_or a.cells.now (a.from + index a.f (raised a.above z)) (pos 0)) (cell-there g x i);
      apart = made-apart (λ j. j) a.cells.now a.to _ c.loop-i.cells (width g) (λ m h. h) all;
    }

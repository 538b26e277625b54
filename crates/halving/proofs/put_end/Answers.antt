use Rattle.std.proofs.Common.{◌≡◌, ◌+◌, ◌*◌, ◌≤◌, ◌<◌, length, arith}
use Rattle.optimality.specs.Cells.{states}
use Rattle.geometry.specs.Geometry.{width}
use Rattle.layers.proofs.Filling.{ends-anywhere}
use Rattle.halving.proofs.Ends.{bare-lt, ended-in, end-apart}
use Rattle.halving.proofs.put_end.Goals as goal
use Rattle.halving.proofs.put_end.Goals.{In-Some, After-section_cells}

-- the state of the end
reached : (c : In-Some) → c.in-Some.s < states c.args.f
reached c = rw c.in-Some.is at c.requires.3

-- its place, and the room
placed : (c : After-section_cells) → c.in-Some.s < states c.args.f
    → (c.in-Some.s * c.section_cells.result < c.args.w) × (c.args.at + c.args.w ≤ length c.put-in-Some.new.scratch)
placed c reached =
    let lt : c.in-Some.s * c.section_cells.result < c.args.w =
    rw (c.section_cells.ensures, c.requires.1) (bare-lt c.args.f c.in-Some.s reached) in
    (lt, omega (arith, c.put-in-Some.auto.scratch))

pub overflow_mul-cells : goal.overflow_mul-cells
overflow_mul-cells c = omega (arith, placed (goal.at.overflow_mul-cells c).After-section_cells (reached (goal.at.overflow_mul-cells c).In-Some))

pub overflow_add-cells : goal.overflow_add-cells
overflow_add-cells c = omega (arith, placed (goal.at.overflow_add-cells c).After-section_cells (reached (goal.at.overflow_add-cells c).In-Some))

pub offset_bounds-cells-at : goal.offset_bounds-cells-at
offset_bounds-cells-at c = omega (arith, placed (goal.at.offset_bounds-cells-at c).After-section_cells (reached (goal.at.offset_bounds-cells-at c).In-Some))

pub slice_set_of-cells : goal.slice_set_of-cells
slice_set_of-cells c = omega (arith, placed (goal.at.slice_set_of-cells c).After-section_cells (reached (goal.at.slice_set_of-cells c).In-Some))

pub returns-in-None-clause-layer : goal.returns-in-None-clause-layer
returns-in-None-clause-layer c =
    let a = c.args in
    let room : a.at + width a.f ≤ length a.cells.now = omega arith in
    let put = rw c.requires.1 at c.put.ensures in
    rw (c.in-None.is, put) (ends-anywhere a.f a.cells.now a.at room)

pub returns-in-Some-clause-layer : goal.returns-in-Some-clause-layer
returns-in-Some-clause-layer c =
    let a = c.args in
    let room : a.at + width a.f ≤ length a.cells.now = omega arith in
    let put = rw c.requires.1 at c.put-in-Some.ensures in
    let long : length c.put-in-Some.new.scratch ≡ length a.cells.now = c.put-in-Some.auto.scratch in
    rw (c.in-Some.is, c.section_cells.ensures, put)
    (ended-in a.f c.in-Some.s (reached (goal.at.returns-in-Some-clause-layer c).In-Some) a.cells.now a.at room (rw put at long))

pub returns-in-Some-clause-apart : goal.returns-in-Some-clause-apart
returns-in-Some-clause-apart c =
    let a = c.args in
    let room : a.at + width a.f ≤ length a.cells.now = omega arith in
    let put = rw c.requires.1 at c.put-in-Some.ensures in
    let long : length c.put-in-Some.new.scratch ≡ length a.cells.now = c.put-in-Some.auto.scratch in
    rw (c.section_cells.ensures, put, c.requires.1)
    (end-apart a.f c.in-Some.s (reached (goal.at.returns-in-Some-clause-apart c).In-Some) a.cells.now a.at room (rw put at long))

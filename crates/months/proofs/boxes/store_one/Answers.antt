use Rattle.std.proofs.Common.{◌≡◌, ◌+◌, ◌<◌, ℕ, length, arith}
use Rattle.optimality.specs.Cells.{InTable}
use Rattle.geometry.specs.Geometry.{index}
use Rattle.geometry.proofs.Places.{index-lt}
use Rattle.months.proofs.Raising.{high-inside}
use Rattle.months.proofs.boxes.store_one.Goals as goal
use Rattle.months.proofs.boxes.store_one.Goals.{After-high_cell-z}

inside : (c : After-high_cell-z) → InTable c.args.f c.high_cell-z.result
inside c = let a = c.args in rw c.high_cell-z.ensures (high-inside a.f a.cap a.above c.requires.0.fits a.i c.requires.1)

below : (c : After-high_cell-z) (i : ℕ) → i ≡ index c.args.f c.high_cell-z.result → c.args.to + i < length c.args.cells.now
below c i e = omega (arith, e, index-lt c.args.f c.high_cell-z.result (inside c), c.requires.0.year)

pub index-requires : goal.index-requires
index-requires c = (c.requires.0.fits.sound, inside (goal.at.index-requires c).After-high_cell-z)

pub overflow_add-at : goal.overflow_add-at
overflow_add-at c = omega (arith, below (goal.at.overflow_add-at c).After-high_cell-z c.index.result c.index.ensures)

pub offset_bounds-cells-at : goal.offset_bounds-cells-at
offset_bounds-cells-at c = omega (arith, below (goal.at.offset_bounds-cells-at c).After-high_cell-z c.index.result c.index.ensures)

pub bounds-cells-at : goal.bounds-cells-at
bounds-cells-at c = below (goal.at.bounds-cells-at c).After-high_cell-z c.index.result c.index.ensures

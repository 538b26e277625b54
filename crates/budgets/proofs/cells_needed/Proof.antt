-- Two layers, which always fit.
use Prim.Native.Nat.{◌^◌, ◌*◌, ◌<◌, ◌≤◌}
use native.Mathlib.Nat.{lt_of_le_of_lt}
use native.Mathlib.Omega.{arith}
use lib.Dec.{lit<}
use Rattle.commitment.specs.Cells.{layer_cells}
use Rattle.commitment.specs.Ranges.{InOrder}
use Rattle.optimality.specs.Cells.{figures_of}
use Rattle.optimality.proofs.Opening.{figures-sound}
use Rattle.optimality.proofs.Ranges.{ranged}
use Rattle.geometry.specs.Geometry.{width}
use Rattle.geometry.proofs.Sizes.{width-most}
use Rattle.geometry.proofs.Widths.{width_is}
use borrow.Author.Rules.{rules}
use Rattle.budgets.proofs.cells_needed.Statement.{statement}
use Rattle.budgets.proofs.cells_needed.Tie as tie

cells-over-requires : tie.Need-cells_over-requires
cells-over-requires c κs =
    let u = c.args.unit in
    let n = c.args.n in
    let sound = figures-sound u (ranged u c.requires.ranges c.requires.shape) n c.requires.short in
    let few : width (figures_of u n) < 2 ^ 62 = lt_of_le_of_lt (width-most (figures_of u n) sound) (lit< tt) in
    (c.requires, omega arith, omega (arith, width_is u n))

pub cells_needed_spec : {M : Type 1} → statement M
cells_needed_spec = tie.close (tie.spec cells-over-requires (λ c. search rules))

-- The table of a horizon that is checked fits.
use mathlib.Core.Path.{sym}
use native.Mathlib.Nat.{lt_of_le_of_lt}
use lib.Dec.{lit<}
use Rattle.optimality.proofs.Ranges.{ranged}
use Rattle.geometry.proofs.Sizes.{table-most}
use Rattle.geometry.proofs.Widths.{width_is}
use borrow.Author.Rules.{rules}
use Rattle.budgets.proofs.cells_long.Statement.{statement}
use Rattle.budgets.proofs.cells_long.Tie as tie

cells-over-requires : tie.Need-cells_over-requires
cells-over-requires c κs =
    let u = c.args.unit in
    let n = c.args.n in
    let fits = lt_of_le_of_lt (table-most u (ranged u c.requires.ranges c.requires.shape) n c.requires.checked) (lit< tt) in
    (c.requires, c.requires.short, rw (sym (width_is u n)) fits)

pub cells_long_spec : {M : Type 1} → statement M
cells_long_spec = tie.close (tie.spec cells-over-requires (λ c. search rules))

-- One cell for each number of blocks left.
use mathlib.Core.Path.{refl}
use borrow.Author.Rules.{rules}
use Rattle.geometry.specs.Geometry.{row}
use Rattle.geometry.proofs.row_cells.Statement.{statement}
use Rattle.geometry.proofs.row_cells.Tie as tie

returns : tie.Need-returns
unfolding row
returns c = refl

pub row_cells_spec : {M : Type 1} → statement M
row_cells_spec = tie.close (tie.spec (λ c. search rules) returns)

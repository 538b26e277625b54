-- The state, and the counts.
use Rattle.optimality.specs.Cells.{opening_cell}
use borrow.Author.Rules.{rules}
use Rattle.budgets.proofs.opening_cell.Statement.{statement}
use Rattle.budgets.proofs.opening_cell.Tie as tie

returns : tie.Need-returns
unfolding opening_cell
returns c = cc

pub opening_cell_spec : {M : Type 1} → statement M
opening_cell_spec = tie.close (tie.spec (λ c κs. search rules) (λ c κs. search rules) returns)

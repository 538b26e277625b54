-- Each figure by its own function.
use Rattle.optimality.specs.Cells.{figures_of}
use borrow.Author.Rules.{rules}
use Rattle.budgets.proofs.figures_of.Statement.{statement}
use Rattle.budgets.proofs.figures_of.Tie as tie

returns : tie.Need-returns
unfolding figures_of
returns c = cc

pub figures_of_spec : {M : Type 1} → statement M
figures_of_spec =
    tie.close (tie.spec (λ c κs. search rules) (λ c κs. search rules) (λ c κs. search rules) (λ c κs. search rules) returns)

-- The sum over the code's denominator is the fraction of the formula, so it rounds to the figure.
use mathlib.Core.Path.{sym}
use borrow.Author.Rules.{rules}
use Rattle.costs.proofs.Formulas.{mlc-rounds}
use Rattle.costs.proofs.mlc_of.Statement.{statement}
use Rattle.costs.proofs.mlc_of.Tie as tie

returns : tie.Need-returns
returns c = rw (c.rounded.ensures, c.before.mlc_units-sum.ensures) (sym (mlc-rounds c.before.before.args.inputs))

pub mlc_of_spec : {M : Type 1} → statement M
mlc_of_spec = tie.close (tie.spec (λ c κs. search rules) (λ c κs. search rules) returns)

-- The four groups of inputs.
use Rattle.costs.specs.Ranges.{inputs_kept}
use borrow.Author.Rules.{rules}
use Rattle.costs.proofs.inputs_kept.Statement.{statement}
use Rattle.costs.proofs.inputs_kept.Tie as tie

returns : tie.Need-returns
unfolding inputs_kept
returns c = cc

pub inputs_kept_spec : {M : Type 1} → statement M
inputs_kept_spec =
    tie.close
    (tie.spec
    (λ c κs. search rules)
    (λ c κs. search rules)
    (λ c κs. search rules)
    (λ c κs. search rules)
    returns)

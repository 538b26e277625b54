-- Each figure by its own function, whose products the accepted inputs keep small.
use borrow.Author.Rules.{rules}
use Rattle.costs.proofs.Ranges.{accepted, start-sizes, load-sizes}
use Rattle.costs.proofs.three_figures.Statement.{statement}
use Rattle.costs.proofs.three_figures.Tie as tie

suc-of-requires : tie.Need-suc_of-requires
suc-of-requires c κs =
    let o = c.before.before.before in
    let a = accepted _ _ _ o.requires in
    start-sizes o.args.inputs a.inputs a.shape

mlc-of-requires : tie.Need-mlc_of-requires
mlc-of-requires c κs =
    let o = c.before.before.before.before in
    let a = accepted _ _ _ o.requires in
    load-sizes o.args.inputs a.inputs a.shape

pub three_figures_spec : {M : Type 1} → statement M
three_figures_spec = tie.close (tie.spec (λ c κs. search rules) suc-of-requires mlc-of-requires (λ c. cc))

-- The machine's own division, of numbers that it reads back as they are.
use borrow.Author.Rules.{rules}
use Rattle.rounding.proofs.Sizes.{Divided, divided}
use Rattle.rounding.proofs.toward_zero.Statement.{statement}
use Rattle.rounding.proofs.toward_zero.Tie as tie

sizes : (c : tie.Start) → Divided c.args.num c.args.den
sizes c = divided c.args.num c.args.den c.requires

div-result : tie.Need-nonzero_div-result
div-result c =
    let d = sizes c.before in
    rw (c.signed.ensures, d.over, d.under) (c.before.requires.den-some, d.fits)

returns : tie.Need-returns
returns c =
    let d = sizes c.before in
    rw (c.signed.ensures, d.over, d.under) d.quotient

pub toward_zero_spec : {M : Type 1} → statement M
toward_zero_spec = tie.close (tie.spec (λ c κs. search rules) div-result returns)

-- The machine's own remainder, of numbers that it reads back as they are.
use borrow.Author.Rules.{rules}
use Rattle.rounding.proofs.Sizes.{Divided, divided}
use Rattle.rounding.proofs.left_over.Statement.{statement}
use Rattle.rounding.proofs.left_over.Tie as tie

sizes : (c : tie.Start) → Divided c.args.num c.args.den
sizes c = divided c.args.num c.args.den c.requires

rem-result : tie.Need-nonzero_rem-result
rem-result c =
    let d = sizes c.before in
    rw (c.signed.ensures, d.over, d.under) (c.before.requires.den-some, d.fits)

returns : tie.Need-returns
returns c =
    let d = sizes c.before in
    rw (c.signed.ensures, d.over, d.under) d.left

pub left_over_spec : {M : Type 1} → statement M
left_over_spec = tie.close (tie.spec (λ c κs. search rules) rem-result returns)

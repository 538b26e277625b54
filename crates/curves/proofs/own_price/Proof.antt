-- The sum over a thousand times the change in level is the fraction, so it rounds to the price.
use mathlib.Core.Path.{◌≡◌, sym, ap, ◌∙◌}
use Prim.Native.Nat.{ℕ, ◌-◌, ◌*◌}
use native.Mathlib.Nat.{mul-one}
use borrow.Author.Rules.{rules}
use mir.Syntax.{w64}
use mir.Val.{to_z, of_z}
use Rattle.integers.proofs.Ranges.{plain_fits}
use Rattle.rounding.specs.Fractions.{◌overℤ◌}
use Rattle.rounding.specs.Rounding.{roundedℤ}
use Rattle.costs.specs.Figures.{heat_units}
use Rattle.curves.specs.Curve.{price_fraction, own_price}
use Rattle.curves.proofs.Sizes.{division-sizes}
use Rattle.curves.proofs.own_price.Statement.{statement}
use Rattle.curves.proofs.own_price.Tie as tie

sum :
    (c : tie.After-price_units-sum) →
    to_z w64 (of_z w64 c.price_units-sum.result)
    ≡ (price_fraction c.before.args.inputs c.before.args.from c.before.args.from_rate c.before.args.to c.before.args.to_rate).num
sum c = plain_fits (record { sfits = c.price_units-sum.type_inv }) ∙ c.price_units-sum.ensures

rounded-signed-requires : tie.Need-rounded_signed-requires
rounded-signed-requires c κs = rw (sum c) (division-sizes c.before.requires.1 c.before.requires.0)

returns : tie.Need-returns
unfolding own_price
returns c =
    let a = c.before.before.args in
    let fraction = price_fraction a.inputs a.from a.from_rate a.to a.to_rate in
    plain_fits (record { sfits = c.rounded_signed.type_inv }) ∙ (rw (sum c.before) at c.rounded_signed.ensures)
    ∙ ap (λ (den : ℕ). roundedℤ (fraction.num overℤ den)) (sym (mul-one ((a.to - a.from) * heat_units)))

pub own_price_spec : {M : Type 1} → statement M
own_price_spec = tie.close (tie.spec (λ c κs. search rules) (λ c. search rules) (λ c. search rules) rounded-signed-requires returns)

-- The fuel's part is signed, the rest is not; both are in range, and so is their sum.
use mathlib.Core.Path.{◌≡◌}
use native.Mathlib.Omega.{arith}
use borrow.Author.Rules.{rules}
use lib.IntN.{ℤ, pos, ◌+ℤ◌, ◌*ℤ◌}
use mir.Syntax.{w64}
use mir.Val.{to_z, of_z, SFits}
use Rattle.integers.proofs.Ranges.{plain_fits, within-fits}
use Rattle.curves.specs.Curve.{incremental_rate, price_fraction}
use Rattle.curves.proofs.Sizes.{fuel-within, fixed-most, sum_is, sum-within}
use Rattle.curves.proofs.price_units.Statement.{statement}
use Rattle.curves.proofs.price_units.Tie as tie

-- the fuel's part, read back
abbrev change : tie.After-signed → ℤ
change c = let a = c.before.before.args in (incremental_rate a.from a.from_rate a.to a.to_rate).num

fuel :
    (c : tie.After-signed) →
    to_z w64 (of_z w64 c.before.heat_change.result) *ℤ to_z w64 (of_z w64 c.signed.result)
    ≡ change c *ℤ pos c.before.before.args.inputs.gas
fuel c =
    rw (
      plain_fits {x = c.before.heat_change.result} (record { sfits = c.before.heat_change.type_inv }),
      plain_fits {x = c.signed.result} (record { sfits = c.signed.type_inv }),
      c.before.heat_change.ensures,
      c.signed.ensures,
    )

fuel-fits : (c : tie.After-signed) → SFits w64 (change c *ℤ pos c.before.before.args.inputs.gas)
fuel-fits c = within-fits (fuel-within c.before.before.requires.1 c.before.before.requires.0) (omega arith)

mul-fuel : tie.Need-overflow_mul-fuel
mul-fuel c = rw (fuel c) (fuel-fits c)

mul-fixed-2 : tie.Need-overflow_mul-fixed-2
mul-fixed-2 c = let o = c.before.before.before.before in record { fits = omega (arith, fixed-most o.requires.1 o.requires.0) }

signed-requires-2 : tie.Need-signed-requires-2
signed-requires-2 c κs = let o = c.before.before.before.before in omega (arith, fixed-most o.requires.1 o.requires.0)

-- the sum of both parts, read back
sum :
    (c : tie.After-signed-2) →
    let s = c.before.before.before in
    let a = s.before.before.args in
    to_z w64 (of_z w64 (to_z w64 (of_z w64 s.before.heat_change.result) *ℤ to_z w64 (of_z w64 s.signed.result)))
    +ℤ to_z w64 (of_z w64 c.signed-2.result)
    ≡ (price_fraction a.inputs a.from a.from_rate a.to a.to_rate).num
sum c =
    let s = c.before.before.before in
    let o = s.before.before in
    rw (fuel s, plain_fits (fuel-fits s), plain_fits {x = c.signed-2.result} (record { sfits = c.signed-2.type_inv }), c.signed-2.ensures)
    (sum_is o.requires.1 o.requires.0)

add-result : tie.Need-overflow_add-result
add-result c = let o = c.before.before.before.before.before in rw (sum c) (within-fits (sum-within o.requires.1 o.requires.0) (omega arith))

returns : tie.Need-returns
returns c =
    let o = c.before.before.before.before.before in
    rw (sum c) (plain_fits (within-fits (sum-within o.requires.1 o.requires.0) (omega arith)))

pub price_units_spec : {M : Type 1} → statement M
price_units_spec =
    tie.close
    (tie.spec
    (λ c κs. search rules)
    (λ c κs. search rules)
    mul-fuel
    (λ c. search rules)
    (λ c. search rules)
    (λ c. search rules)
    (λ c. search rules)
    mul-fixed-2
    signed-requires-2
    add-result
    returns)

-- A rest below zero is short of the divisor by what is left over the quotient rounded down.
use mathlib.Core.Path.{◌≡◌, ap, ◌∙◌}
use native.Mathlib.Omega.{arith}
use borrow.Author.Rules.{rules}
use lib.IntN.{pos, nat_abs, ◌+ℤ◌}
use lib.Signed.{rem_z}
use mir.Syntax.{w64}
use mir.Val.{to_z, of_z}
use Rattle.integers.proofs.Ranges.{plain_fits}
use Rattle.rounding.specs.Rounding.{rest_of}
use Rattle.rounding.proofs.Division.{exact, short, rest_below}
use Rattle.rounding.proofs.Sizes.{small-fits, small_plain}
use Rattle.rounding.proofs.rest_of.Statement.{statement}
use Rattle.rounding.proofs.rest_of.Tie as tie

left : (c : tie.After-left_over-rest) → to_z w64 (of_z w64 c.left_over-rest.result) ≡ rem_z c.before.args.num (pos c.before.args.den)
left c = plain_fits (record { sfits = c.left_over-rest.type_inv }) ∙ (rw (plain_fits c.before.ranges.num) at c.left_over-rest.ensures)

-- where it is below zero, raised by the divisor
raised :
    (c : tie.After-signed) →
    to_z w64 (of_z w64 c.before.before.left_over-rest.result) +ℤ to_z w64 (of_z w64 c.signed.result)
    ≡ pos (rest_of c.before.before.before.args.num c.before.before.before.args.den)
raised c =
    let o = c.before.before.before in
    rw (left c.before.before, plain_fits {x = c.signed.result} (record { sfits = c.signed.type_inv }), c.signed.ensures)
    (short o.args.den o.requires.den-some o.args.num (rw (left c.before.before) at c.before.if-rest-lt0.true)).rest

kept :
    (c : tie.Else-rest-lt0) →
    to_z w64 (of_z w64 c.before.left_over-rest.result) ≡ pos (rest_of c.before.before.args.num c.before.before.args.den)
kept c =
    let o = c.before.before in
    left c.before ∙ (exact o.args.den o.requires.den-some o.args.num (rw (left c.before) at c.if-rest-lt0.false)).rest

add-result : tie.Need-overflow_add-result
add-result c =
    let o = c.before.before.before in
    let below = rest_below o.args.den o.requires.den-some o.args.num in
    rw (raised c) (small-fits (pos (rest_of o.args.num o.args.den)) (omega arith))

cast-result : tie.Need-overflow_cast-result
cast-result c =
    let o = c.before.before.before in
    let below = rest_below o.args.den o.requires.den-some o.args.num in
    rw (raised c, small_plain (pos (rest_of o.args.num o.args.den)) (omega arith)) (tt, record { fits = omega arith })

returns : tie.Need-returns-then-rest-lt0
returns c =
    let o = c.before.before.before in
    let below = rest_below o.args.den o.requires.den-some o.args.num in
    rw (raised c) (ap nat_abs (small_plain (pos (rest_of o.args.num o.args.den)) (omega arith)))

cast-result-2 : tie.Need-overflow_cast-result-2
cast-result-2 c =
    let o = c.before.before in
    rw (kept c) (tt, record { fits = omega (arith, rest_below o.args.den o.requires.den-some o.args.num) })

returns-2 : tie.Need-returns
returns-2 c = rw (kept c)

pub rest_of_spec : {M : Type 1} → statement M
rest_of_spec =
    tie.close
    (tie.spec
    (λ c κs. search rules)
    (λ c κs. search rules)
    add-result
    cast-result
    returns
    cast-result-2
    returns-2)

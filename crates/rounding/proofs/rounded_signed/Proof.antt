-- By the quotient rounded down and its rest.
use mathlib.Core.Path.{◌≡◌, sym, ap, ap₂, ◌∙◌}
use mathlib.Core.Bool.{Bool, true, false}
use Prim.Native.Nat.{ℕ}
use native.Mathlib.Omega.{arith}
use borrow.Author.Rules.{rules}
use lib.IntN.{ℤ, pos, nat_abs, ◌+ℤ◌}
use mir.Syntax.{w64}
use mir.Val.{to_z, of_z, SFits}
use Rattle.integers.proofs.Ranges.{plain_fits, within-abs, within-sum, within-at, within-fits}
use Rattle.rounding.specs.Rounding.{goes_up, floor_of, rest_of, roundedℤ}
use Rattle.rounding.proofs.Division.{rest_below, floor-most}
use Rattle.rounding.proofs.rounded_signed.Statement.{statement}
use Rattle.rounding.proofs.rounded_signed.Tie as tie

-- what the calls gave, read back
record Parts (c : tie.After-magnitude) : Type 0 where
  quotient : to_z w64 (of_z w64 c.before.before.floor_of-quotient.result) ≡ floor_of c.before.before.before.args.num c.before.before.before.args.den
  rest : c.before.rest_of-rest.result ≡ rest_of c.before.before.before.args.num c.before.before.before.args.den
  size : c.magnitude.result ≡ nat_abs (floor_of c.before.before.before.args.num c.before.before.before.args.den)

given : (c : tie.After-magnitude) → Parts c
given c =
    let num = plain_fits c.before.before.before.ranges.num in
    let quotient = plain_fits (record { sfits = c.before.before.floor_of-quotient.type_inv }) ∙ (rw num at c.before.before.floor_of-quotient.ensures) in
    record {
      quotient = quotient;
      rest = rw num at c.before.rest_of-rest.ensures;
      size = c.magnitude.ensures ∙ ap nat_abs quotient;
    }

goes-up-requires : tie.Need-goes_up-requires
goes-up-requires c κs =
    let o = c.before.before.before in
    rw (given c).rest (rest_below o.args.den o.requires.den-some o.args.num)

abbrev way : ℤ → ℕ → Bool
way num den = goes_up (nat_abs (floor_of num den)) (rest_of num den) den

up :
    (c : tie.After-goes_up) (t : Bool) → c.goes_up.result ≡ t →
    way c.before.before.before.before.args.num c.before.before.before.before.args.den ≡ t
up c t e =
    let g = given c.before in
    ap₂ (λ (q r : ℕ). goes_up q r c.before.before.before.before.args.den) (sym g.size) (sym g.rest) ∙ sym c.goes_up.ensures
    ∙ e

next_fits :
    (c : tie.Then-goes_up) →
    SFits w64 (floor_of c.before.before.before.before.before.args.num c.before.before.before.before.before.args.den +ℤ pos 1)
next_fits c =
    let o = c.before.before.before.before.before in
    within-fits (within-sum (within-abs (floor_of o.args.num o.args.den)) (within-at 1))
    (omega (arith, floor-most o.args.den o.requires.den-some o.args.num))

add-result : tie.Need-overflow_add-result
add-result c = rw (given c.before.before).quotient (next_fits c)

returns : tie.Need-returns-then-goes_up
unfolding roundedℤ
returns c = simp (up c.before true c.if-goes_up.true) (rw (given c.before.before).quotient (plain_fits (next_fits c)))

returns-2 : tie.Need-returns
unfolding roundedℤ
returns-2 c = simp (up c.before false c.if-goes_up.false) (given c.before.before).quotient

pub rounded_signed_spec : {M : Type 1} → statement M
rounded_signed_spec =
    tie.close (tie.spec (λ c κs. search rules) (λ c κs. search rules) (λ c κs. search rules) goes-up-requires add-result returns returns-2)

-- Toward zero and down differ by one where a rest is left below zero.
use mathlib.Core.Path.{◌≡◌, ◌∙◌}
use native.Mathlib.Omega.{arith}
use borrow.Author.Rules.{rules}
use lib.IntN.{pos}
use lib.Signed.{quot_z, rem_z}
use mir.Syntax.{w64}
use mir.Val.{to_z, of_z}
use Rattle.integers.proofs.Ranges.{plain_fits}
use Rattle.rounding.specs.Rounding.{floor_of}
use Rattle.rounding.proofs.Division.{exact, short, quotient-most, floor-most}
use Rattle.rounding.proofs.Sizes.{small_plain, less-fits}
use Rattle.rounding.proofs.floor_of.Statement.{statement}
use Rattle.rounding.proofs.floor_of.Tie as tie

-- what the two calls gave, read back
record Parts (c : tie.After-left_over) : Type 0 where
  quotient : to_z w64 (of_z w64 c.before.toward_zero-quotient.result) ≡ quot_z c.before.before.args.num (pos c.before.before.args.den)
  rest : to_z w64 (of_z w64 c.left_over.result) ≡ rem_z c.before.before.args.num (pos c.before.before.args.den)

given : (c : tie.After-left_over) → Parts c
given c =
    let num = plain_fits c.before.before.ranges.num in
    record {
      quotient = plain_fits (record { sfits = c.before.toward_zero-quotient.type_inv }) ∙ (rw num at c.before.toward_zero-quotient.ensures);
      rest = plain_fits (record { sfits = c.left_over.type_inv }) ∙ (rw num at c.left_over.ensures);
    }

sub-result : tie.Need-overflow_sub-result
sub-result c =
    let o = c.before.before.before in
    rw (given c.before).quotient
    (less-fits (quot_z o.args.num (pos o.args.den))
    (omega (arith, quotient-most o.args.den o.requires.den-some o.args.num)))

returns : tie.Need-returns-then-left_over-lt0
returns c =
    let o = c.before.before.before in
    let s = short o.args.den o.requires.den-some o.args.num (rw (given c.before).rest at c.if-left_over-lt0.true) in
    rw ((given c.before).quotient, s.quotient)
    (small_plain (floor_of o.args.num o.args.den) (omega (arith, floor-most o.args.den o.requires.den-some o.args.num)))

returns-2 : tie.Need-returns
returns-2 c =
    let o = c.before.before.before in
    (given c.before).quotient ∙ (exact o.args.den o.requires.den-some o.args.num (rw (given c.before).rest at c.if-left_over-lt0.false)).quotient

pub floor_of_spec : {M : Type 1} → statement M
floor_of_spec = tie.close (tie.spec (λ c κs. search rules) (λ c κs. search rules) sub-result returns returns-2)

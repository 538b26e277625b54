-- By quotient and rest. The quotient has room for one more, since where the rest takes it up the divisor is more than 1.
use mathlib.Core.Path.{sym, ◌∙◌}
use Prim.Native.Nat.{◌/◌, ◌%◌}
use native.Mathlib.Nat.{mod-lt, div-add-mod', le-mul_of_pos_right}
use native.Mathlib.Omega.{arith}
use borrow.Author.Rules.{rules}
use Rattle.rounding.specs.Rounding.{rounded}
use Rattle.rounding.proofs.Rounding.{goes}
use Rattle.rounding.proofs.rounded.Statement.{statement}
use Rattle.rounding.proofs.rounded.Tie as tie

goes-up-requires : tie.Need-goes_up-requires
goes-up-requires c κs = mod-lt c.args.num c.requires

add-result : tie.Need-overflow_add-result
add-result c =
    let o = c.before.before in
    let a = o.args in
    omega (
      arith,
      div-add-mod' a.num a.den,
      mod-lt a.num o.requires,
      le-mul_of_pos_right (a.num / a.den) o.requires,
      (goes (a.num / a.den) (a.num % a.den) a.den (sym c.before.goes_up.ensures ∙ c.if-goes_up.true)).0,
    )

returns : tie.Need-returns-then-goes_up
unfolding rounded
returns c = simp (sym c.before.goes_up.ensures ∙ c.if-goes_up.true)

returns-2 : tie.Need-returns
unfolding rounded
returns-2 c = simp (sym c.before.goes_up.ensures ∙ c.if-goes_up.false)

pub rounded_spec : {M : Type 1} → statement M
rounded_spec = tie.close (tie.spec (λ c. search rules) (λ c. search rules) goes-up-requires add-result returns returns-2)

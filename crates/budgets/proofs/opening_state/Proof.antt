-- By the state before interval 1; a time in state is at least one interval.
use native.Mathlib.Omega.{arith}
use borrow.Author.Tests.{eq-eqb, ne_eqb}
use Rattle.commitment.proofs.Ranges.{InRange, in-range}
use borrow.Author.Rules.{rules}
use Rattle.budgets.proofs.opening_state.Statement.{statement}
use Rattle.budgets.proofs.opening_state.Tie as tie

known : (c : tie.Start) → InRange c.args.unit
known c = in-range c.args.unit c.requires

sub-result : tie.Need-overflow_sub-result
sub-result c =
    let h = known c.before.before.before.before.before in
    omega (arith, c.smaller.ensures, h.opening.held-least, h.generator.mot-least)

returns : tie.Need-returns-then-opening-eq1
returns c = simp (eq-eqb c.before.before.before.before.before.args.unit.opening.was 1 c.before.if-opening-eq1.true, c.smaller.ensures)

add-result : tie.Need-overflow_add-result
add-result c =
    let h = known c.before.before.before.before.before in
    omega (arith, c.smaller-2.ensures, h.opening.held-most, h.generator.mot-most, h.generator.mdt-most)

sub-result-2 : tie.Need-overflow_sub-result-2
sub-result-2 c =
    let h = known c.before.before.before.before.before in
    omega (arith, c.smaller-2.ensures, h.opening.held-least, h.generator.mot-least)

returns-2 : tie.Need-returns
returns-2 c = simp (ne_eqb c.before.before.before.before.before.args.unit.opening.was 1 c.before.if-opening-eq1.false, c.smaller-2.ensures)

pub opening_state_spec : {M : Type 1} → statement M
opening_state_spec =
    tie.close
    (tie.spec
    (λ c κs. search rules)
    sub-result
    returns
    (λ c κs. search rules)
    add-result
    sub-result-2
    returns-2)

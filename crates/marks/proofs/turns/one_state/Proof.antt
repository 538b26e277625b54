-- On, or off alone.
use native.Mathlib.Omega.{arith}
use borrow.Author.Rules.{rules}
use Rattle.marks.specs.Turning.{StateAsked}
use Rattle.marks.proofs.Pieces.{off-here-turned}
use Rattle.marks.proofs.turns.one_state.Statement.{statement}
use Rattle.marks.proofs.turns.one_state.Tie as tie

asked : (c : tie.Start) → let a = c.args in StateAsked a.t a.cells.now a.s a.p
asked c = c.requires.0.0

returns-2 : tie.Need-returns-else-s-t
returns-2 c =
    let made = c.before in
    let else = made.before.before in
    let o = else.before.before in
    let a = o.args in
    let k = asked o in (
      λ on. absurd (omega (arith, on, else.if-s-t.false)),
      off-here-turned a.t a.cells.now made.off_state.new.cells a.s a.p _ (omega (arith, else.if-s-t.false)) k.inner k.floored
          made.off_state.ensures,
    )

pub one_state_spec : {M : Type 1} → statement M
one_state_spec =
    tie.close
    (tie.spec
    (λ c κs.
    let then = c.before.before in
    let o = then.before.before in
    (((asked o).on then.if-s-t.true, then.if-s-t.true, o.requires.0.1), o.requires.1))
    (λ c κs. let k = asked c.before.before.before in (k.over, k.piece-of, k.inner, k.marks))
    (λ c. search rules) (λ c. search rules)
    (λ c. let made = c.before.before.on_state.ensures in (λ on. made.0, made.1)) (λ c. search rules) returns-2)

-- Two copies: of the values, and of the marks behind them.
use mathlib.Core.Path.{◌∙◌}
use mathlib.Core.Logic.{inl}
use native.Mathlib.Omega.{arith}
use borrow.Author.Rules.{rules}
use Rattle.marks.proofs.Moving.{moved}
use Rattle.marks.proofs.turns.move_plane.Statement.{statement}
use Rattle.marks.proofs.turns.move_plane.Tie as tie

copy-requires : tie.Need-copy-requires
copy-requires c κs =
    let p = c.before.requires in
    record { beside = inl p.0; fits = omega (arith, p); room = omega (arith, p) }

copy-requires-2 : tie.Need-copy-requires-2
copy-requires-2 c κs =
    let o = c.before.before.before.before in
    let p = o.requires in
    let same = c.before.before.copy.auto.scratch in
    record { beside = inl (omega (arith, p.0)); fits = omega (arith, p, same); room = omega (arith, p, same) }

returns : tie.Need-returns
returns c =
    let second = c.before in
    let first = second.before.before.before in
    let o = first.before.before in
    let a = o.args in
    moved a.cells.now first.copy.new.scratch second.copy-2.new.scratch a.w a.to a.from a.count o.requires.0 o.requires.1
    (second.copy-2.auto.scratch ∙ first.copy.auto.scratch) first.copy.ensures second.copy-2.ensures

pub move_plane_spec : {M : Type 1} → statement M
move_plane_spec =
    tie.close
    (tie.spec copy-requires (λ c. let p = c.before.before.before.before.requires in omega (arith, p))
    (λ c. let p = c.before.before.before.before.requires in omega (arith, p)) copy-requires-2 (λ c. search rules) returns)

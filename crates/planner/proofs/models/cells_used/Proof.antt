-- By which of the two is used.
use mathlib.Core.Path.{sym, ap, ◌∙◌}
use mathlib.Core.Bool.{Bool, cond}
use Rattle.commitment.specs.Cells.{cells_needed, cells_long}
use borrow.Author.Rules.{rules}
use Rattle.planner.proofs.models.cells_used.Statement.{statement}
use Rattle.planner.proofs.models.cells_used.Tie as tie

returns : tie.Need-returns-then-long
returns c =
    let t = c.before in
    let a = t.before.args in
    c.cells_long.ensures ∙ ap (λ (long : Bool). cond long (cells_long a.unit a.n) (cells_needed a.unit a.n)) (sym t.if-long.true)

returns-2 : tie.Need-returns
returns-2 c =
    let e = c.before in
    let a = e.before.args in
    c.cells_needed.ensures ∙ ap (λ (long : Bool). cond long (cells_long a.unit a.n) (cells_needed a.unit a.n)) (sym e.if-long.false)

pub cells_used_spec : {M : Type 1} → statement M
cells_used_spec = tie.close (tie.spec (λ c κs. search rules) returns (λ c κs. search rules) returns-2)

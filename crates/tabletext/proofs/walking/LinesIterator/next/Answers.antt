-- A cut gives the first line, and leaves the others.
use Rattle.std.proofs.Common.{◌∙◌, sym, ap, refl, ◌∷◌, length, arith, ℕ, ◌<◌}
use denote.Ref.{Bor}
use mathlib.Core.List.{List}
use borrow.Author.Tests.{eqb-false}
use Rattle.tabletext.specs.Pieces.{lines_of}
use Rattle.tabletext.proofs.Cuts.{cut_line}
use Rattle.tabletext.proofs.walking.LinesIterator.next.Goals as goal

first : goal.returns-clause-steps
first c =
    let text = c.args.self.now.rest.now in
    let some : 0 < length text = omega (arith, eqb-false (length text) 0 (sym c.is_empty.ensures ∙ c.if-is_empty.false)) in
    cut_line text c.cut.result.0.now c.cut.result.1 _ refl some c.cut.ensures
    ∙ ap (λ (others : Bor (List ℕ)). c.cut.result.0.now ∷ lines_of others.now) (sym c.unwrap_or-self.ensures)

pub returns-clause-steps : goal.returns-clause-steps
returns-clause-steps c = first c

pub returns-clause-goes : goal.returns-clause-goes
returns-clause-goes c = record { on = λ _. (tt, tt, omega (arith, ap length (first c))); keeps = tt; rests = λ _. tt }

-- The tests in the order of their causes.
use mathlib.Core.Path.{sym, ◌∙◌}
use borrow.Author.Tests.{not-true, not-false}
use Rattle.casefile.proofs.Checking.{wrong-form, wrong-names, case-found}
use borrow.Author.Rules.{rules}
use Rattle.casefile.proofs.found.Statement.{statement}
use Rattle.casefile.proofs.found.Tie as tie

returns : tie.Need-returns-then-not-form_kept
returns c =
    let f = c.before in
    wrong-form f.before.before.args.text.now (sym f.form_kept.ensures ∙ not-true _ c.if-not-form_kept.true-raw)

returns-2 : tie.Need-returns-then-not-names_kept
returns-2 c =
    let n = c.before in
    let f = n.before.before in
    let form = sym f.form_kept.ensures ∙ not-false _ n.before.if-not-form_kept.false-raw in
    wrong-names f.before.before.args.text.now form (sym n.names_kept.ensures ∙ not-true _ c.if-not-names_kept.true-raw)

returns-3 : tie.Need-returns
returns-3 c =
    let n = c.before.before in
    let f = n.before.before in
    let form = sym f.form_kept.ensures ∙ not-false _ n.before.if-not-form_kept.false-raw in
    let names = sym n.names_kept.ensures ∙ not-false _ c.before.if-not-names_kept.false-raw in
    c.found_under.ensures ∙ case-found f.before.before.args.text.now form names

pub found_spec : {M : Type 1} → statement M
found_spec =
    tie.close
    (tie.spec (λ c κs. search rules) returns (λ c κs. search rules) returns-2 (λ c κs. search rules) returns-3)

-- `all` over the names of the group, once or twice.
use Rattle.std.proofs.Common.{◌≡◌, ◌∙◌, sym, ap, rules}
use mathlib.Core.Bool.{Bool, ◌||◌}
use borrow.Author.Tests.{tests}
use Rattle.std.proofs.lemmas.Iterator.Search.{all_from_yields_List}
use Rattle.lists.specs.Every.{every}
use Rattle.tabletext.specs.Pieces.{fields_of}
use Rattle.tabletext.specs.Tables.{standing}
use Rattle.tabletext.proofs.Chains.{gives_fields, all_every}
use Rattle.tabletext.proofs.names.are_together.Goals as goal

pub returns-then-all : goal.returns-then-all
returns-then-all c =
    let fields = fields_of c.args.line.now in
    let group = fields_of c.args.group.now in
    let once : c.all.result ≡ every (standing 1 fields) group =
    all_from_yields_List (standing 1 fields) _ _ c.all.result c.all.ensures.ran (gives_fields c.of.result c.of.ensures) (λ x b q k. search (rules, tests))
    ∙ all_every (standing 1 fields) group in
    c.if-all.true ∙ ap (λ (t : Bool). t || every (standing 0 fields) group) (sym c.if-all.true ∙ once)

pub returns-else-all : goal.returns-else-all
returns-else-all c =
    let fields = fields_of c.args.line.now in
    let group = fields_of c.args.group.now in
    let once : c.all.result ≡ every (standing 1 fields) group =
    all_from_yields_List (standing 1 fields) _ _ c.all.result c.all.ensures.ran (gives_fields c.of.result c.of.ensures) (λ x b q k. search (rules, tests))
    ∙ all_every (standing 1 fields) group in
    let never : c.all-else-all.result ≡ every (standing 0 fields) group =
    all_from_yields_List (standing 0 fields) _ _ c.all-else-all.result c.all-else-all.ensures.ran (gives_fields c.of-else-all.result c.of-else-all.ensures)
    (λ x b q k. search (rules, tests))
    ∙ all_every (standing 0 fields) group in
    never ∙ ap (λ (t : Bool). t || every (standing 0 fields) group) (sym c.if-all.false ∙ once)

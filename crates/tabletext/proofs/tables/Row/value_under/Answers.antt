-- `find` over the names, each with its value beside it.
use Rattle.std.proofs.Common.{◌∙◌, sym, ap, rules}
use borrow.Author.Tests.{tests}
use Rattle.std.proofs.lemmas.Iterator.{YieldsList-from_zip}
use Rattle.std.proofs.lemmas.Iterator.Consumers.{YieldsList-at}
use Rattle.std.proofs.lemmas.Iterator.Search.{find_from_yields_List}
use Rattle.std.specs.Option.{option_map}
use Rattle.tabletext.specs.Bytes.{same}
use Rattle.tabletext.specs.Pieces.{fields_of}
use Rattle.tabletext.proofs.Chains.{gives_fields}
use Rattle.tabletext.proofs.Walks.{found_value, find_under}
use Rattle.tabletext.proofs.tables.Row.value_under.Goals as goal

pub returns-in-Some : goal.returns-in-Some
returns-in-Some c =
    let name = c.args.name.now in
    c.value_of.ensures
    ∙ ap found_value (ap (option_map (λ p. (p.0.now, p.1.now))) (sym c.in-Some.is)
    ∙ find_from_yields_List (λ pair. same pair.0 name) _ _ c.find-found.result c.find-found.ensures.ran
    (YieldsList-from_zip (YieldsList-at c.zip.ensures.first (gives_fields c.of.result c.of.ensures))
    (YieldsList-at c.zip.ensures.second (gives_fields c.of-2.result c.of-2.ensures)))
    (λ x b q k. search (rules, tests)))
    ∙ find_under name (fields_of c.args.self.now.names.now) (fields_of c.args.self.now.values.now)

pub returns-in-None : goal.returns-in-None
returns-in-None c =
    let name = c.args.name.now in
    ap found_value (ap (option_map (λ p. (p.0.now, p.1.now))) (sym c.in-None.is)
    ∙ find_from_yields_List (λ pair. same pair.0 name) _ _ c.find-found.result c.find-found.ensures.ran
    (YieldsList-from_zip (YieldsList-at c.zip.ensures.first (gives_fields c.of.result c.of.ensures))
    (YieldsList-at c.zip.ensures.second (gives_fields c.of-2.result c.of-2.ensures)))
    (λ x b q k. search (rules, tests)))
    ∙ find_under name (fields_of c.args.self.now.names.now) (fields_of c.args.self.now.values.now)

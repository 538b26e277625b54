-- The fields that are the name are counted.
use Rattle.std.proofs.Common.{◌∙◌, ap, length, arith, inl, rules, nat_eq, ℕ}
use borrow.Author.Tests.{tests}
use Rattle.std.proofs.lemmas.Iterator.Consumers.{YieldsList-from_filter, YieldsList-at, count_from_yields_List}
use Rattle.tabletext.specs.Bytes.{same}
use Rattle.tabletext.specs.Pieces.{fields_of}
use Rattle.tabletext.specs.Places.{fields_left}
use Rattle.tabletext.proofs.Chains.{gives_fields}
use Rattle.tabletext.proofs.Walks.{fields_few, tally-filter}
use Rattle.tabletext.proofs.tables.stands.Goals as goal

pub count-requires-clause-fits : goal.count-requires-clause-fits
count-requires-clause-fits c =
    inl (omega (arith, fields_few c.args.line.now, ap (λ it. length (fields_left it)) c.filter.ensures.source ∙ ap length c.of.ensures))

pub returns : goal.returns
returns c =
    let name = c.args.name.now in
    ap (λ (n : ℕ). nat_eq n c.args.times)
    (count_from_yields_List c.filter.result _ c.count.ensures.ran
    (YieldsList-from_filter _ (λ field. same field name)
    (YieldsList-at c.filter.ensures.source (gives_fields c.of.result c.of.ensures))
    c.filter.ensures.closure (λ x b q k. search (rules, tests)))
    ∙ tally-filter (λ field. same field name) (fields_of c.args.line.now))

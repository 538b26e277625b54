-- `all` over the fields.
use Rattle.std.proofs.Common.{◌∙◌, rules}
use borrow.Author.Tests.{tests}
use Rattle.std.proofs.lemmas.Iterator.Search.{all_from_yields_List}
use Rattle.tabletext.specs.Pieces.{fields_of}
use Rattle.tabletext.specs.Values.{is_name}
use Rattle.tabletext.proofs.Chains.{gives_fields, all_every}
use Rattle.tabletext.proofs.tables.name_line.Goals as goal

pub returns : goal.returns
returns c =
    all_from_yields_List is_name _ _ _ c.all.ensures.ran (gives_fields c.of.result c.of.ensures) (λ x b q k. search (rules, tests))
    ∙ all_every is_name (fields_of c.args.line.now)

-- `any` over the fields.
use Rattle.std.proofs.Common.{◌∙◌, rules}
use borrow.Author.Tests.{tests}
use Rattle.std.proofs.lemmas.Iterator.Search.{any_from_yields_List}
use Rattle.tabletext.specs.Bytes.{same}
use Rattle.tabletext.specs.Pieces.{fields_of}
use Rattle.tabletext.proofs.Chains.{gives_fields}
use Rattle.tabletext.proofs.Walks.{any_occurs}
use Rattle.tabletext.proofs.names.stands_in.Goals as goal

pub returns : goal.returns
returns c =
    any_from_yields_List (λ field. same field c.args.name.now) _ _ _ c.any.ensures.ran (gives_fields c.of.result c.of.ensures) (λ x b q k. search (rules, tests))
    ∙ any_occurs c.args.name.now (fields_of c.args.line.now)

-- `all` over the lines.
use Rattle.std.proofs.Common.{◌∙◌, rules}
use borrow.Author.Tests.{tests}
use Rattle.std.proofs.lemmas.Iterator.Search.{all_from_yields_List}
use Rattle.tabletext.specs.Pieces.{lines_of}
use Rattle.tabletext.specs.Tables.{value_line}
use Rattle.tabletext.proofs.Chains.{gives_lines, all_every}
use Rattle.tabletext.proofs.tables.value_lines.Goals as goal

pub returns : goal.returns
returns c =
    all_from_yields_List (value_line c.args.names) c.all.new.self _ _ c.all.ensures.ran (gives_lines c.of.result c.of.ensures) (λ x b q k. search (rules, tests))
    ∙ all_every (value_line c.args.names) (lines_of c.args.rows.now)

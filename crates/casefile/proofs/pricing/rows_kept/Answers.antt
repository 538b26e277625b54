-- `all` over the lines.
use Rattle.std.proofs.Common.{◌∙◌, rules}
use borrow.Author.Tests.{tests}
use Rattle.std.proofs.lemmas.Iterator.Search.{all_from_yields_List}
use Rattle.commitment.specs.Ranges.{price_kept}
use Rattle.tabletext.specs.Pieces.{lines_of}
use Rattle.tabletext.proofs.Chains.{gives_lines, all_every}
use Rattle.casefile.specs.Reading.{price_of}
use Rattle.casefile.proofs.pricing.rows_kept.Goals as goal

pub returns : goal.returns
returns c =
    all_from_yields_List (λ row. price_kept (price_of c.args.head.now row)) c.all.new.self _ _ c.all.ensures.ran (gives_lines c.of.result c.of.ensures)
    (λ x b q k. search (rules, tests))
    ∙ all_every (λ row. price_kept (price_of c.args.head.now row)) (lines_of c.args.rows.now)

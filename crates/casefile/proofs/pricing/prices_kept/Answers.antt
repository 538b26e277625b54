-- Every line of the second table.
use mathlib.Core.Path.{ap₂, ◌∙◌}
use mathlib.Core.List.{List}
use Prim.Native.Nat.{ℕ}
use Rattle.commitment.specs.Ranges.{price_kept, prices_kept}
use Rattle.lists.specs.Every.{every}
use Rattle.tabletext.proofs.Groups.{every_map}
use Rattle.casetext.specs.Form.{price_head, price_rows}
use Rattle.casefile.specs.Reading.{price_of, prices_in}
use Rattle.casefile.proofs.pricing.prices_kept.Goals as goal

pub returns : goal.returns
unfolding prices_in prices_kept
returns c =
    let text = c.args.text.now in
    c.rows_kept.ensures
    ∙ ap₂ (λ (head : List ℕ) (ls : List (List ℕ)). every (λ row. price_kept (price_of head row)) ls) c.line-head.ensures c.lines_from-price_rows.ensures
    ∙ every_map price_kept (price_of (price_head text)) (price_rows text)

-- `all` over the fields, which are as many as the names.
use Rattle.std.proofs.Common.{◌∙◌, sym, ap, rules}
use mathlib.Core.Bool.{Bool, ◌&&◌}
use borrow.Author.Tests.{tests, eq-eqb}
use Rattle.std.proofs.lemmas.Iterator.Search.{all_from_yields_List}
use Rattle.lists.specs.Every.{every}
use Rattle.tabletext.specs.Pieces.{fields_of}
use Rattle.tabletext.specs.Values.{is_value}
use Rattle.tabletext.proofs.Chains.{gives_fields, all_every}
use Rattle.tabletext.proofs.tables.value_line.Goals as goal

pub returns-then-fields_in-names : goal.returns-then-fields_in-names
returns-then-fields_in-names c =
    let line = c.args.line.now in
    all_from_yields_List is_value _ _ _ c.all.ensures.ran (gives_fields c.of.result c.of.ensures) (λ x b q k. search (rules, tests))
    ∙ all_every is_value (fields_of line)
    ∙ sym (ap (λ (t : Bool). t && every is_value (fields_of line)) (eq-eqb _ _ (sym c.fields_in.ensures ∙ c.if-fields_in-names.true)))

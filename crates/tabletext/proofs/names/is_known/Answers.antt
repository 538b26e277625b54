-- Among the required names, or by `any` in a group.
use Rattle.std.proofs.Common.{◌∙◌, sym, ap, rules}
use mathlib.Core.Bool.{Bool, ◌||◌}
use lib.Dec.{leb}
use borrow.Author.Tests.{tests}
use Rattle.std.specs.List.{list_any}
use Rattle.std.proofs.lemmas.Iterator.Search.{any_from_yields_List}
use Rattle.tabletext.specs.Pieces.{fields_of, lines_of}
use Rattle.tabletext.specs.Tables.{occurs}
use Rattle.tabletext.proofs.Chains.{gives_lines}
use Rattle.tabletext.proofs.Groups.{known_by}
use Rattle.tabletext.proofs.names.is_known.Goals as goal

pub returns-then-stands_in : goal.returns-then-stands_in
returns-then-stands_in c =
    let name = c.args.name.now in
    let groups = lines_of c.args.groups.now in
    c.if-stands_in.true
    ∙ ap (λ (t : Bool). t || list_any (λ group. leb 1 (occurs name (fields_of group))) groups) (sym c.if-stands_in.true ∙ c.stands_in.ensures)
    ∙ known_by (fields_of c.args.required.now) groups name

pub returns-else-stands_in : goal.returns-else-stands_in
returns-else-stands_in c =
    let name = c.args.name.now in
    let groups = lines_of c.args.groups.now in
    any_from_yields_List (λ group. leb 1 (occurs name (fields_of group))) c.any.new.self _ _ c.any.ensures.ran (gives_lines c.of.result c.of.ensures) (λ x b q k. search (rules, tests))
    ∙ ap (λ (t : Bool). t || list_any (λ group. leb 1 (occurs name (fields_of group))) groups) (sym c.if-stands_in.false ∙ c.stands_in.ensures)
    ∙ known_by (fields_of c.args.required.now) groups name

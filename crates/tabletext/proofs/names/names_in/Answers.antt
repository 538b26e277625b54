-- `all` over the required names, the groups, and the line's own names.
use Rattle.std.proofs.Common.{◌≡◌, ◌∙◌, sym, ap, rules}
use mathlib.Core.Bool.{Bool, ◌&&◌}
use borrow.Author.Tests.{tests}
use Rattle.std.proofs.lemmas.Iterator.Search.{all_from_yields_List}
use Rattle.lists.specs.Every.{every}
use Rattle.tabletext.specs.Pieces.{fields_of, lines_of}
use Rattle.tabletext.specs.Places.{groups_of}
use Rattle.tabletext.specs.Tables.{standing, together, known}
use Rattle.tabletext.proofs.Chains.{gives_fields, gives_lines, all_every}
use Rattle.tabletext.proofs.Groups.{every_map}
use Rattle.tabletext.proofs.names.names_in.Goals.{then-all, else-all}
use Rattle.tabletext.proofs.names.names_in.Goals as goal

pub returns-then-all-2 : goal.returns-then-all-2
returns-then-all-2 c =
    let line = fields_of c.args.line.now in
    let required = fields_of c.args.required.now in
    let groups = groups_of c.args.groups.now in
    let so_far : c.if-all.value ≡ (every (standing 1 line) required && every (together line) groups) =
    (let first : c.all.result ≡ every (standing 1 line) required =
    all_from_yields_List (standing 1 line) c.all.new.self _ c.all.result c.all.ensures.ran (gives_fields c.of.result c.of.ensures) (λ x b q k. search (rules, tests))
    ∙ all_every (standing 1 line) required in
    elim c.if-all.branch [
      | then-all w ↦
          w.value-is
          ∙ all_from_yields_List (λ group. together line (fields_of group)) w.all-then-all.new.self _ w.all-then-all.result w.all-then-all.ensures.ran
          (gives_lines w.of-then-all.result w.of-then-all.ensures) (λ x b q k. search (rules, tests))
          ∙ all_every (λ group. together line (fields_of group)) (lines_of c.args.groups.now)
          ∙ every_map (together line) fields_of (lines_of c.args.groups.now)
          ∙ ap (λ (t : Bool). t && every (together line) groups) (sym w.if-all.true ∙ first)
      | else-all w ↦ w.value-is ∙ w.if-all.false ∙ ap (λ (t : Bool). t && every (together line) groups) (sym w.if-all.false ∙ first)
    ]) in
    all_from_yields_List (known required groups) c.all-then-all-2.new.self _ c.all-then-all-2.result c.all-then-all-2.ensures.ran
    (gives_fields c.of-then-all-2.result c.of-then-all-2.ensures) (λ x b q k. search (rules, tests))
    ∙ all_every (known required groups) line
    ∙ ap (λ (t : Bool). t && every (known required groups) line) (sym c.if-all-2.true ∙ so_far)

pub returns-else-all-2 : goal.returns-else-all-2
returns-else-all-2 c =
    let line = fields_of c.args.line.now in
    let required = fields_of c.args.required.now in
    let groups = groups_of c.args.groups.now in
    let so_far : c.if-all.value ≡ (every (standing 1 line) required && every (together line) groups) =
    (let first : c.all.result ≡ every (standing 1 line) required =
    all_from_yields_List (standing 1 line) c.all.new.self _ c.all.result c.all.ensures.ran (gives_fields c.of.result c.of.ensures) (λ x b q k. search (rules, tests))
    ∙ all_every (standing 1 line) required in
    elim c.if-all.branch [
      | then-all w ↦
          w.value-is
          ∙ all_from_yields_List (λ group. together line (fields_of group)) w.all-then-all.new.self _ w.all-then-all.result w.all-then-all.ensures.ran
          (gives_lines w.of-then-all.result w.of-then-all.ensures) (λ x b q k. search (rules, tests))
          ∙ all_every (λ group. together line (fields_of group)) (lines_of c.args.groups.now)
          ∙ every_map (together line) fields_of (lines_of c.args.groups.now)
          ∙ ap (λ (t : Bool). t && every (together line) groups) (sym w.if-all.true ∙ first)
      | else-all w ↦ w.value-is ∙ w.if-all.false ∙ ap (λ (t : Bool). t && every (together line) groups) (sym w.if-all.false ∙ first)
    ]) in
    c.if-all-2.false ∙ ap (λ (t : Bool). t && every (known required groups) line) (sym c.if-all-2.false ∙ so_far)

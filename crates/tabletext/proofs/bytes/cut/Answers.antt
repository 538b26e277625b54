-- The cut is where `position` finds the class.
use Rattle.std.proofs.Common.{◌≡◌, ◌∙◌, sym, ap, ℕ, ◌+◌, rules, Some, take, drop}
use borrow.Author.Tests.{tests}
use lib.Seq.{take_all}
use Rattle.std.specs.List.{position}
use Rattle.std.proofs.lemmas.Iterator.{YieldsList-from_slice}
use Rattle.std.proofs.lemmas.Iterator.Search.{position_from_yields_List}
use Rattle.lists.proofs.Fills.{tail-part}
use Rattle.tabletext.specs.Bytes.{is_of}
use Rattle.tabletext.specs.Places.{end_of}
use Rattle.tabletext.proofs.Ends.{end_found, end-missed}
use Rattle.tabletext.proofs.bytes.cut.Goals as goal

pub returns-in-Some : goal.returns-in-Some
returns-in-Some c =
    let s = c.args.s.now in
    let end = c.in-Some.end in
    let h : Some end ≡ position (is_of c.args.mark) s =
    sym c.in-Some.is
    ∙ position_from_yields_List (is_of c.args.mark) _ _ _ c.position.ensures.ran (YieldsList-from_slice s cc) (λ x b q k. search (rules, tests)) in
    let e = end_found c.args.mark s end h in
    (ap (λ (n : ℕ). take n s) e.0, (e.1, tail-part (end + 1) s ∙ ap (λ (n : ℕ). drop (n + 1) s) e.0))

pub returns-in-None : goal.returns-in-None
returns-in-None c =
    let s = c.args.s.now in
    let h = end-missed c.args.mark s
    (sym c.in-None.is
    ∙ position_from_yields_List (is_of c.args.mark) _ _ _ c.position.ensures.ran (YieldsList-from_slice s cc) (λ x b q k. search (rules, tests))) in
    (sym (take_all (end_of c.args.mark s) s h), h)

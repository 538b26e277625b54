-- A text in which a cause was found keeps it; of any other the prices are stored where they fit.
use Rattle.std.proofs.Common.{rules, sym, ◌∙◌, arith}
use Rattle.casefile.proofs.Checking.{found-refused, held-is, no_room, room}
use Rattle.casefile.proofs.read_into.Goals as goal

pub returns-in_err-case : goal.returns-in_err-case
returns-in_err-case c =
    let kept = found-refused c.args.text.now c.args.prices.now c.in_err-case.field-0.0 (sym c.found.ensures ∙ c.in_err-case.was) in
    (rw (sym kept.0) (search rules), kept.1)

pub returns-then-prices-case : goal.returns-then-prices-case
returns-then-prices-case c =
    let held = held-is c.args.text.now c.args.prices.now c.in_ok-case.case.unit c.in_ok-case.case.count (sym c.found.ensures ∙ c.in_ok-case.was) in
    no_room _ _ held c.if-prices-case.true

pub store-requires : goal.store-requires
store-requires c =
    let held = held-is c.args.text.now c.args.prices.now c.in_ok-case.case.unit c.in_ok-case.case.count (sym c.found.ensures ∙ c.in_ok-case.was) in
    omega (arith, held.count-is)

pub returns : goal.returns
returns c =
    let held = held-is c.args.text.now c.args.prices.now c.in_ok-case.case.unit c.in_ok-case.case.count (sym c.found.ensures ∙ c.in_ok-case.was) in
    let made = room _ _ held c.if-prices-case.false in
    (made.0, c.store.ensures ∙ made.1)

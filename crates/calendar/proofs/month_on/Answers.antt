-- By the count of months, twelve to the year.
use Rattle.std.proofs.Common.{◌≡◌, sym, ap, ◌∙◌, ℕ, suc, ◌+◌, ◌-◌, ◌/◌, ◌%◌, arith}
use Rattle.calendar.specs.Dates.{date}
use Rattle.calendar.specs.Months.{months_on}
use Rattle.calendar.proofs.Dates.{parts}
use Rattle.calendar.proofs.Months.{months-by}
use Rattle.calendar.proofs.month_on.Goals as goal

pub returns : goal.returns
returns c =
    let d = c.args.date in
    let on = c.args.on in
    let has = parts d c.requires.0.there in
    let at : suc (on - 1) ≡ on = omega (arith, c.if-on-eq0.false) in
    sym
    (ap (λ (k : ℕ). months_on k d) (sym at) ∙ months-by (on - 1) d has.first-month has.last-month
    ∙ ap (λ (k : ℕ). date (d.year + (d.month - 1 + k) / 12) ((d.month - 1 + k) % 12 + 1) 1) at)

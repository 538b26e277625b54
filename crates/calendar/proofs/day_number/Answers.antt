-- The years before, by the law on their sum, and the days before the month, by the table.
use Rattle.std.proofs.Common.{◌≡◌, ap, ◌∙◌, ℕ, suc, ◌+◌, ◌-◌, ◌/◌, Bool, arith}
use Rattle.calendar.specs.Dates.{leap, days_before, day_number, first_year}
use Rattle.calendar.proofs.Dates.{parts, years-sum, number_small}
use Rattle.calendar.proofs.day_number.Goals as goal

pub returns : goal.returns
unfolding day_number
returns c =
    let d = c.args.date in
    let has = parts d c.requires.there in
    let at : suc (d.month - 1) ≡ d.month = omega (arith, has.first-month) in
    let before : c.days_before-before.result ≡ days_before (leap d.year) d.month =
    c.days_before-before.ensures
    ∙ ap (λ (l : Bool). days_before l (suc (d.month - 1))) c.is_leap.ensures
    ∙ ap (days_before (leap d.year)) at in
    let last : d.year - 1 ≡ 2006 + (d.year - first_year) = omega (arith, c.requires.since) in
    let leaps : ℕ → ℕ = λ n. n / 4 + n / 400 - n / 100 - 486 in
    let leap-days = ap leaps last in
    let sum = years-sum (d.year - first_year) (omega (arith, c.requires.till)) in
    record { is = omega arith; small = omega (arith, number_small d c.requires) }

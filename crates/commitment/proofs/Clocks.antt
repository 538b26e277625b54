-- A date in its ranges that exists is one that a clock starts from.
use mathlib.Core.Path.{◌≡◌, ap}
use mathlib.Core.Bool.{Bool, true, ◌&&◌}
use Rattle.calendar.specs.declared.Date.{Date}
use Rattle.calendar.specs.Dates.{exists, last_year, Within}
use Rattle.commitment.specs.Ranges.{date_ranged}
use Rattle.commitment.proofs.Ranges.{window-ranges}

pub date-within : (d : Date) → date_ranged d ≡ true → exists d ≡ true → Within last_year d
date-within d ranged there =
    let r = window-ranges (record { date = d; word = 0 }) (ap (λ (t : Bool). t && true) ranged) in
    record { there = there; since = r.year-least; till = r.year-most }

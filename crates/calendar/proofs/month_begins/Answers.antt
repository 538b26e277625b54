-- The hours between two midnights by the numbers of their days, and by daylight time at each.
use Rattle.std.proofs.Common.{◌≡◌, refl, sym, ap, subst, ℕ, ◌+◌, ◌-◌, ◌*◌, ◌%◌, ◌≤◌, arith}
use Rattle.calendar.specs.declared.Date.{Date}
use Rattle.calendar.specs.Dates.{last_year, last_numbered, day_number, Within}
use Rattle.calendar.specs.Clock.{changes_before}
use Rattle.calendar.specs.Months.{month_begins, months_on}
use Rattle.calendar.proofs.Months.{months-within, begins-by}
use Rattle.calendar.proofs.month_begins.Goals as goal

-- the end and the start, by their numbers
apart : (d first : Date) (month day day' over over' : ℕ) → Within last_year d → 1 ≤ month → first ≡ months_on (month - 1) d → day ≡ day_number first
    → over ≡ changes_before d → day' ≡ day_number d → over' ≡ changes_before first
    → month_begins d month + 4 * (24 * day' + over' % 2) ≡ 4 * (24 * day + over % 2)
apart d first month day day' over over' r lo same day-is over-is day-is' over-is' =
    omega (arith, begins-by d r.there r.since month (month - 1) refl, day-is, over-is, day-is', over-is', ap day_number same, ap changes_before same)

pub day_number-requires : goal.day_number-requires
day_number-requires c =
    subst (Within last_numbered) (sym c.month_on-first.ensures) (months-within (c.args.month - 1) c.args.date c.requires.0 (omega (arith, c.requires.2)))

pub changes_before-requires-2 : goal.changes_before-requires-2
changes_before-requires-2 c =
    subst (Within last_numbered) (sym c.month_on-first.ensures) (months-within (c.args.month - 1) c.args.date c.requires.0 (omega (arith, c.requires.2)))

pub overflow_sub-result : goal.overflow_sub-result
overflow_sub-result c =
    omega (
      arith,
      apart c.args.date c.month_on-first.result c.args.month c.day_number.result c.day_number-2.result c.changes_before.result
          c.changes_before-2.result c.requires.0 c.requires.1 c.month_on-first.ensures c.day_number.ensures.is c.changes_before.ensures c.day_number-2.ensures.is
          c.changes_before-2.ensures,
    )

pub returns : goal.returns
returns c =
    omega (
      arith,
      apart c.args.date c.month_on-first.result c.args.month c.day_number.result c.day_number-2.result c.changes_before.result
          c.changes_before-2.result c.requires.0 c.requires.1 c.month_on-first.ensures c.day_number.ensures.is c.changes_before.ensures c.day_number-2.ensures.is
          c.changes_before-2.ensures,
    )

-- Calendar months from a date on, the date's own counted 1: the month in which an interval falls, and the interval at which a month begins. Intervals
-- are counted from 0, four to the hour.
use Rattle.std.specs.Prelude.{cond, ℕ, zero, suc, ◌+◌, ◌-◌, ◌*◌, ◌/◌, ltb, length}
use Rattle.calendar.specs.declared.Date.{Date}
use Rattle.calendar.specs.Dates.{date, days_in, next}
use Rattle.calendar.specs.Clock.{hours_of, hours_over}

-- a horizon of a year has this many intervals at most, and months
abbrev pub year_intervals : ℕ
year_intervals = 35136

abbrev pub most_months : ℕ
most_months = 13

-- ---- the month of an interval

-- the day itself while its hours last, else one of so many days after it
abbrev pub day_after : ℕ → Date → ℕ → Date
day_after zero d passed = d
day_after (suc days) d passed = cond (ltb passed (length (hours_of d))) d (day_after days (next d) (passed - length (hours_of d)))

-- the date when so many hours have passed since a date's midnight; a day has at least 23, so that many days are enough
unfoldable pub date_after : Date → ℕ → Date
date_after d passed = day_after (passed / 23) d passed

-- months one after the other, twelve to the year
abbrev pub month_count : Date → ℕ
month_count d = 12 * d.year + d.month

unfoldable pub month_of : Date → ℕ → ℕ
month_of d interval = suc (month_count (date_after d (interval / 4))) - month_count d

-- ---- where a month begins

-- the days of a date's month from the date on, and the first day of the next month
abbrev pub days_left : Date → ℕ
days_left d = suc (days_in d.year d.month) - d.day

abbrev pub next_month : Date → Date
next_month d = cond (ltb d.month 12) (date d.year (suc d.month) 1) (date (suc d.year) 1 1)

-- so many months on
abbrev pub months_on : ℕ → Date → Date
months_on zero d = d
months_on (suc months) d = months_on months (next_month d)

-- the days of so many months, the first from a date on
abbrev pub days_of_months : ℕ → Date → ℕ
days_of_months zero d = 0
days_of_months (suc months) d = days_left d + days_of_months months (next_month d)

-- it begins when the hours of the days of the months before it have passed
unfoldable pub month_begins : Date → ℕ → ℕ
month_begins d month = 4 * length (hours_over (days_of_months (month - 1) d) d)

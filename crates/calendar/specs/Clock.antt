-- Clock hours under United States daylight time (specification 22): the hours that a day shows, one after the other, and those from a date's
-- midnight on. This is the meaning; what follows after it, the days on which time changes and the clock by them, is how the code finds it.
use Rattle.std.specs.Prelude.{◌≡◌, Bool, ◌&&◌, ◌||◌, cond, List, [], ◌∷◌, ◌++◌, ℕ, zero, suc, ◌+◌, ◌-◌, ◌*◌, ◌/◌, ◌%◌, ◌≤◌, ◌<◌, leb, ltb, eqb, get_or}
use Rattle.calendar.specs.declared.Date.{Date}
use Rattle.calendar.specs.declared.Clock.{Clock}
use Rattle.calendar.specs.Dates.{date, next, first_year, day_number, is_sunday}

-- the second Sunday of March, and the first of November
abbrev pub springs : Date → Bool
springs d = eqb d.month 3 && leb 8 d.day && leb d.day 14 && is_sunday d

abbrev pub falls : Date → Bool
falls d = eqb d.month 11 && leb d.day 7 && is_sunday d

-- so many hours, one after the other
abbrev pub hours_up : ℕ → ℕ → List ℕ
hours_up first zero = []
hours_up first (suc count) = first ∷ hours_up (suc first) count

abbrev pub plain_hours : List ℕ
plain_hours = hours_up 0 24

-- after 1 comes 3
abbrev pub spring_hours : List ℕ
spring_hours = 0 ∷ 1 ∷ hours_up 3 21

-- 1 comes twice
abbrev pub fall_hours : List ℕ
fall_hours = 0 ∷ 1 ∷ 1 ∷ hours_up 2 22

unfoldable pub hours_of : Date → List ℕ
hours_of d = cond (springs d) spring_hours (cond (falls d) fall_hours plain_hours)

-- the hours of so many days, from a date on
abbrev pub hours_over : ℕ → Date → List ℕ
hours_over zero d = []
hours_over (suc days) d = hours_of d ++ hours_over days (next d)

-- the clock hour when so many hours have passed since a date's midnight; a day has at least 23, so that many days are enough
unfoldable pub clock_after : Date → ℕ → ℕ
clock_after d passed = get_or (hours_over (suc (passed / 23)) d) passed 0

-- ---- the days on which time changes, by their numbers: the second Sunday of March and the first of November, year after year

-- the first Sunday from a day on
abbrev pub sunday_from : ℕ → ℕ
sunday_from day = day + (6 - day % 7)

abbrev pub spring_day : ℕ → ℕ
spring_day year = sunday_from (day_number (date year 3 8))

abbrev pub fall_day : ℕ → ℕ
fall_day year = sunday_from (day_number (date year 11 1))

-- the change after so many from the first year on
unfoldable pub change_day : ℕ → ℕ
change_day before = cond (eqb (before % 2) 0) (spring_day (first_year + before / 2)) (fall_day (first_year + before / 2))

-- the number of the last one in the years that are numbered
abbrev pub most_changes : ℕ
most_changes = 189

-- how many of them are over at a date's midnight: an odd number when daylight time is on
unfoldable pub changes_before : Date → ℕ
changes_before d =
    2 * (d.year - first_year) + cond (leb (day_number d) (spring_day d.year)) 0 (cond (leb (day_number d) (fall_day d.year)) 1 2)

-- ---- the clock over a horizon of this many hours at most, in which time changes three times at most: as the hours are counted, but so many hours
-- ahead from the first change to the second, and from the third on

abbrev pub most_passed : ℕ
most_passed = 8784

abbrev pub most_ahead : ℕ
most_ahead = 23

abbrev pub turned : Clock → ℕ → Bool
turned clock passed = leb clock.first passed && (ltb passed clock.second || leb clock.third passed)

abbrev pub shown : Clock → ℕ → ℕ
shown clock passed = cond (turned clock passed) ((passed + clock.ahead) % 24) (passed % 24)

abbrev pub clock_of : ℕ → ℕ → ℕ → ℕ → Clock
clock_of first second third ahead = record { first = first; second = second; third = third; ahead = ahead }

-- the hours from a day's midnight to 2 o'clock on the day of a change, by days of 24
abbrev pub hours_to : ℕ → ℕ → ℕ
hours_to number before = 24 * (change_day before - number) + 2

-- the clock by the next three changes, when so many are over: by the second an hour is missing, or one came twice
abbrev pub clock_by_changes : ℕ → ℕ → Clock
clock_by_changes number before =
    cond (eqb (before % 2) 0) (clock_of (hours_to number before) (hours_to number (before + 1) - 1) (hours_to number (before + 2)) 1)
    (clock_of (hours_to number before) (hours_to number (before + 1) + 1) (hours_to number (before + 2)) 23)

unfoldable pub clock_from : Date → Clock
clock_from d = clock_by_changes (day_number d) (changes_before d)

-- the clock that is found runs, over a horizon, as the hours do from the date's midnight on
pub record Follows (d : Date) (clock : Clock) : Type 0 where
  pub found : clock ≡ clock_from d
  pub same : (passed : ℕ) → passed < most_passed → clock_after d passed ≡ shown clock passed
  pub small : clock.ahead ≤ most_ahead

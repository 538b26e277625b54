-- Worked cases, computed: dates that exist and that do not, days of the week, the clock around a change of time and around a new year, the
-- changes over a year, and its months.
use mathlib.Core.Path.{◌≡◌, refl}
use mathlib.Core.Bool.{Bool, true, false, ◌&&◌, not}
use mathlib.Core.List.{List, [], ◌∷◌, map}
use Prim.Native.Nat.{ℕ, suc, ◌%◌}
use Rattle.calendar.specs.declared.Date.{Date}
use Rattle.calendar.specs.Dates.{date, exists, next, day_number, is_sunday}
use Rattle.calendar.specs.Clock.{springs, falls, hours_of, clock_after, change_day, changes_before, clock_of, clock_from}
use Rattle.calendar.specs.Months.{date_after, month_of, month_begins}
use Rattle.calendar.specs.Words.{hours_allowed}

-- ---- the last day of each month exists and the next does not, from January on: of a common year, of a leap year, and of 2100

abbrev months_end : ℕ → ℕ → List ℕ → Bool
months_end year month [] = true
months_end year month (last ∷ later) =
    exists (date year month last) && not (exists (date year month (suc last))) && months_end year (suc month) later

abbrev common_year : List ℕ
common_year = 31 ∷ 28 ∷ 31 ∷ 30 ∷ 31 ∷ 30 ∷ 31 ∷ 31 ∷ 30 ∷ 31 ∷ 30 ∷ 31 ∷ []

abbrev leap_year : List ℕ
leap_year = 31 ∷ 29 ∷ 31 ∷ 30 ∷ 31 ∷ 30 ∷ 31 ∷ 31 ∷ 30 ∷ 31 ∷ 30 ∷ 31 ∷ []

months-end : months_end 2023 1 common_year ∷ months_end 2024 1 leap_year ∷ months_end 2100 1 common_year ∷ [] ≡ true ∷ true ∷ true ∷ []
months-end = refl

-- ---- days of the week, Monday 0 to Sunday 6

abbrev weekday : Date → ℕ
weekday d = day_number d % 7

weekdays
    : map weekday
    (date 2007 1 1
    ∷ date 2008 8 8
    ∷ date 2010 10 10
    ∷ date 2012 12 12
    ∷ date 2016 2 29
    ∷ date 2019 7 20
    ∷ date 2020 1 1
    ∷ date 2024 2 29
    ∷ date 2026 11 17
    ∷ date 2099 12 31
    ∷ date 2100 3 1
    ∷ date 2101 1 1
    ∷ [])
    ≡ 0 ∷ 4 ∷ 6 ∷ 2 ∷ 0 ∷ 5 ∷ 2 ∷ 3 ∷ 1 ∷ 3 ∷ 0 ∷ 5 ∷ []
unfolding day_number
weekdays = refl

-- ---- the second Sunday of March, the first of November

spring-2024 : map springs (date 2024 3 3 ∷ date 2024 3 10 ∷ date 2024 3 17 ∷ []) ≡ false ∷ true ∷ false ∷ []
unfolding day_number is_sunday
spring-2024 = refl

fall-2024 : map falls (date 2024 11 3 ∷ date 2024 11 10 ∷ []) ≡ true ∷ false ∷ []
unfolding day_number is_sunday
fall-2024 = refl

-- ---- the clock when 0 to 4, 22 to 24 hours have passed

abbrev around : List ℕ
around = 0 ∷ 1 ∷ 2 ∷ 3 ∷ 4 ∷ 22 ∷ 23 ∷ 24 ∷ []

march-hours : map (clock_after (date 2024 3 10)) around ≡ 0 ∷ 1 ∷ 3 ∷ 4 ∷ 5 ∷ 23 ∷ 0 ∷ 1 ∷ []
unfolding day_number is_sunday hours_of clock_after
march-hours = refl

november-hours : map (clock_after (date 2024 11 3)) around ≡ 0 ∷ 1 ∷ 1 ∷ 2 ∷ 3 ∷ 21 ∷ 22 ∷ 23 ∷ []
unfolding day_number is_sunday hours_of clock_after
november-hours = refl

plain-day-hours : map (clock_after (date 2024 7 4)) around ≡ 0 ∷ 1 ∷ 2 ∷ 3 ∷ 4 ∷ 22 ∷ 23 ∷ 0 ∷ []
unfolding day_number is_sunday hours_of clock_after
plain-day-hours = refl

-- ---- into the year 2100

new-year : next (date 2099 12 31) ≡ date 2100 1 1
new-year = refl

new-year-hours : map (clock_after (date 2099 12 31)) around ≡ 0 ∷ 1 ∷ 2 ∷ 3 ∷ 4 ∷ 22 ∷ 23 ∷ 0 ∷ []
unfolding day_number is_sunday hours_of clock_after
new-year-hours = refl

-- ---- the three changes over a year, from a Sunday of March, from one of November and from the last date; the third as the days are counted out

year-clocks
    : map clock_from (date 2024 3 10 ∷ date 2024 11 3 ∷ date 2099 12 31 ∷ [])
    ≡ clock_of 2 5713 8738 1 ∷ clock_of 2 3027 8738 23 ∷ clock_of 1754 7465 10490 1 ∷ []
unfolding day_number change_day changes_before clock_from
year-clocks = refl

third-change : map (clock_after (date 2024 3 10)) (8736 ∷ 8737 ∷ 8738 ∷ 8783 ∷ []) ≡ 0 ∷ 1 ∷ 3 ∷ 0 ∷ []
unfolding day_number is_sunday hours_of clock_after
third-change = refl

-- ---- months: where those of 2026 begin, with 743 hours in March and 721 in November; and the months around an end, 13 of them in a horizon

months-begin
    : map (month_begins (date 2026 1 1)) (1 ∷ 2 ∷ 3 ∷ 4 ∷ 5 ∷ 6 ∷ 7 ∷ 8 ∷ 9 ∷ 10 ∷ 11 ∷ 12 ∷ 13 ∷ [])
    ≡ 0 ∷ 2976 ∷ 5664 ∷ 8636 ∷ 11516 ∷ 14492 ∷ 17372 ∷ 20348 ∷ 23324 ∷ 26204 ∷ 29180 ∷ 32064 ∷ 35040 ∷ []
unfolding day_number is_sunday hours_of month_begins
months-begin = refl

months-around : map (month_of (date 2026 1 31)) (0 ∷ 95 ∷ 96 ∷ 2783 ∷ 2784 ∷ 35135 ∷ []) ≡ 1 ∷ 1 ∷ 2 ∷ 2 ∷ 3 ∷ 13 ∷ []
unfolding day_number is_sunday hours_of date_after month_of
months-around = refl

-- ---- words: all hours, none, 6 to 21

words-counted : map hours_allowed (16777215 ∷ 0 ∷ 4194240 ∷ []) ≡ 24 ∷ 0 ∷ 16 ∷ []
unfolding hours_allowed
words-counted = refl

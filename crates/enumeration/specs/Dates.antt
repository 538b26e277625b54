-- The days on which time changes, and which dates exist.
use Rattle.std.specs.Prelude.{ℕ, ◌+◌, ◌*◌, ◌/◌, ◌%◌, Bool, true, cond, Option, None, Some, ◌&&◌, ◌||◌, ◌==◌, nat_le, nat_lt}
use Rattle.enumeration.specs.declared.enumerator.Allowed.{Allowed}
use Rattle.enumeration.specs.declared.enumerator.Case.{Case}

-- Zeller's congruence, for a year from 2000 to 2099 and a month from March on
abbrev pub is_sunday : Allowed → Bool
is_sunday a = (a.day + 13 * (a.month + 1) / 5 + a.year % 100 + a.year % 100 / 4) % 7 == 1

-- the second Sunday of March, and the first of November
abbrev pub goes_forward : Allowed → Bool
goes_forward a = a.month == 3 && nat_lt 7 a.day && nat_lt a.day 15 && is_sunday a

abbrev pub goes_back : Allowed → Bool
goes_back a = a.month == 11 && nat_lt a.day 8 && is_sunday a

abbrev of_thirty : ℕ → Bool
of_thirty month = month == 4 || month == 6 || month == 9 || month == 11

-- from 2004 to 2096 every fourth year is leap
abbrev pub days_of : Allowed → ℕ
days_of a = cond (a.month == 2) (28 + cond (a.year % 4 == 0) 1 0) (cond (of_thirty a.month) 30 31)

abbrev on_a_day : Option Allowed → Bool
on_a_day None = true
on_a_day (Some a) = nat_le a.day (days_of a)

-- a date that is given is one of its month
unfoldable pub date_exists : Case → Bool
date_exists case = on_a_day case.allowed

-- the number of a call's refusal, or that of a date that does not exist
abbrev pub refusal_of : Case → ℕ → ℕ
refusal_of case number = cond (date_exists case) number 12

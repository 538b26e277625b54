-- The Gregorian calendar (specification 22): which dates exist, the day after a date, and the day of the week.
use Rattle.std.specs.Prelude.{◌≡◌, Bool, true, ◌&&◌, ◌||◌, not, cond, List, [], ◌∷◌, ℕ, zero, suc, ◌+◌, ◌-◌, ◌%◌, ◌<◌, ◌≤◌, leb, ltb, eqb, get_or, take}
use Rattle.calendar.specs.declared.Date.{Date}

abbrev pub date : ℕ → ℕ → ℕ → Date
date year month day = record { year = year; month = month; day = day }

abbrev pub divides : ℕ → ℕ → Bool
divides d n = eqb (n % d) 0

-- every fourth year, but of the hundreds every fourth
abbrev pub leap : ℕ → Bool
leap year = divides 4 year && (not (divides 100 year) || divides 400 year)

-- the days of the months, January first
abbrev pub months : Bool → List ℕ
months leap = 31 ∷ cond leap 29 28 ∷ 31 ∷ 30 ∷ 31 ∷ 30 ∷ 31 ∷ 31 ∷ 30 ∷ 31 ∷ 30 ∷ 31 ∷ []

-- months are counted from 1; there is no month 0, nor one after 12
abbrev pub days_in : ℕ → ℕ → ℕ
days_in year month = get_or (0 ∷ months (leap year)) month 0

abbrev pub exists : Date → Bool
exists d = leb 1 d.day && leb d.day (days_in d.year d.month)

abbrev pub next : Date → Date
next d =
    cond (ltb d.day (days_in d.year d.month)) (date d.year d.month (suc d.day))
    (cond (ltb d.month 12) (date d.year (suc d.month) 1) (date (suc d.year) 1 1))

-- ---- the day of the week, by the days since 1 January 2007, which was a Monday

abbrev pub first_year : ℕ
first_year = 2007

abbrev pub last_year : ℕ
last_year = 2099

-- days are counted beyond it: a year from its last day on ends two years later
abbrev pub last_numbered : ℕ
last_numbered = 2101

-- a date that exists, from the first year to this one
pub record Within (last : ℕ) (d : Date) : Type 0 where
  pub there : exists d ≡ true
  pub since : first_year ≤ d.year
  pub till : d.year ≤ last

abbrev pub sum : List ℕ → ℕ
sum [] = 0
sum (n ∷ ns) = n + sum ns

-- the days of so many years from the first on
abbrev pub days_of_years : ℕ → ℕ
days_of_years zero = 0
days_of_years (suc k) = days_of_years k + sum (months (leap (first_year + k)))

-- the days before a month, in a common or a leap year
abbrev pub days_before : Bool → ℕ → ℕ
days_before leap month = sum (take (month - 1) (months leap))

unfoldable pub day_number : Date → ℕ
day_number d = days_of_years (d.year - first_year) + days_before (leap d.year) d.month + (d.day - 1)

-- more than any within the years that are numbered
abbrev pub past_numbers : ℕ
past_numbers = 40000

pub record Numbered (d : Date) (number : ℕ) : Type 0 where
  pub is : number ≡ day_number d
  pub small : number < past_numbers

unfoldable pub is_sunday : Date → Bool
is_sunday d = eqb (day_number d % 7) 6

-- Worked cases of months: keeping two months of three intervals each, from a unit that is off or on before them; and the months of a horizon by the
-- calendar.
use Rattle.std.specs.Prelude.{◌≡◌, refl, Bool, true, false, List, [], ◌∷◌, map, ℕ, Some, None}
use Rattle.calendar.specs.declared.Date.{Date}
use Rattle.calendar.specs.Dates.{date, day_number, is_sunday}
use Rattle.calendar.specs.Clock.{hours_of}
use Rattle.calendar.specs.Months.{date_after, month_of, month_begins}
use Rattle.commitment.specs.declared.Limits.{Limits}
use Rattle.commitment.specs.Months.{Month, keeps_months, months_of}

pub record MonthCase : Type 0 where
  pub limits : Limits
  pub on : Bool
  pub schedule : List ℕ

abbrev pub starts : ℕ → Limits
starts k = record { starts = Some k; hours = None; mwh = None }

abbrev pub hours : ℕ → Limits
hours k = record { starts = None; hours = Some k; mwh = None }

abbrev pub mwh : ℕ → Limits
mwh k = record { starts = None; hours = None; mwh = Some k }

abbrev pub two : Limits → List Month
two l = record { long = 3; limits = l } ∷ record { long = 3; limits = l } ∷ []

abbrev pub kept : MonthCase → Bool
kept c = keeps_months (two c.limits) c.on c.schedule

abbrev pub of : Limits → Bool → List ℕ → MonthCase
of l on s = record { limits = l; on = on; schedule = s }

abbrev pub cases : List MonthCase
cases =
    -- a run that goes over the month's end starts in the first month alone
    of (starts 1) false (0 ∷ 10 ∷ 10 ∷ 10 ∷ 0 ∷ 10 ∷ [])
    ∷ of (starts 1) false (0 ∷ 10 ∷ 10 ∷ 0 ∷ 10 ∷ 0 ∷ [])
    ∷ of (starts 1) false (10 ∷ 0 ∷ 10 ∷ 0 ∷ 0 ∷ 0 ∷ [])
    -- one begun earlier starts in none
    ∷ of (starts 0) true (10 ∷ 10 ∷ 10 ∷ 10 ∷ 10 ∷ 0 ∷ [])
    ∷ of (starts 0) false (0 ∷ 0 ∷ 0 ∷ 0 ∷ 0 ∷ 10 ∷ [])
    -- its on-intervals and its output count in the month of each interval
    ∷ of (hours 0) true (0 ∷ 0 ∷ 0 ∷ 10 ∷ 0 ∷ 0 ∷ [])
    ∷ of (hours 1) false (10 ∷ 10 ∷ 10 ∷ 10 ∷ 10 ∷ 10 ∷ [])
    ∷ of (mwh 5) false (0 ∷ 10 ∷ 10 ∷ 10 ∷ 10 ∷ 0 ∷ [])
    ∷ of (mwh 5) false (0 ∷ 0 ∷ 10 ∷ 10 ∷ 10 ∷ 10 ∷ [])
    ∷ []

pub worked : map kept cases ≡ true ∷ true ∷ false ∷ true ∷ false ∷ false ∷ true ∷ true ∷ false ∷ []
worked = refl

-- ---- how long the months of a horizon are

abbrev pub longs : Date → ℕ → List ℕ
longs d n = map (λ (m : Month). m.long) (months_of d (starts 1) n)

-- the last day of January and an hour of February; one interval; all of January, and one interval more
pub short : longs (date 2026 1 31) 100 ∷ longs (date 2026 1 31) 1 ∷ longs (date 2026 1 1) 2976 ∷ longs (date 2026 1 1) 2977 ∷ []
    ≡ (96 ∷ 4 ∷ []) ∷ (1 ∷ []) ∷ (2976 ∷ []) ∷ (2976 ∷ 1 ∷ []) ∷ []
unfolding day_number is_sunday hours_of date_after month_of month_begins months_of
short = refl

-- thirteen months in a year from the last day of January on: March has 4 intervals less than 31 days of 96, November 4 more than 30
pub thirteen : longs (date 2027 1 31) 35136
    ≡ 96 ∷ 2688 ∷ 2972 ∷ 2880 ∷ 2976 ∷ 2880 ∷ 2976 ∷ 2976 ∷ 2880 ∷ 2976 ∷ 2884 ∷ 2976 ∷ 2976 ∷ []
unfolding day_number is_sunday hours_of date_after month_of month_begins months_of
thirteen = refl

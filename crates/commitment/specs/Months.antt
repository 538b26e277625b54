-- Limitations that are kept in every calendar month: a schedule is cut where the months begin, and each part keeps its month's figures.
use Rattle.std.specs.Prelude.{Bool, true, false, cond, ◌&&◌, List, [], ◌∷◌, map, ℕ, zero, suc, ◌+◌, ◌-◌, min, ℤ, length, take, drop}
use Rattle.calendar.specs.declared.Date.{Date}
use Rattle.calendar.specs.Months.{month_of, month_begins}
use Rattle.commitment.specs.declared.Limits.{Limits}
use Rattle.commitment.specs.declared.UnitRecord.{UnitRecord}
use Rattle.commitment.specs.Best.{Plan, nothing, plan, outputs, lists, first_best}
use Rattle.commitment.specs.Keeping.{was_on, starts_in, on_intervals, output_sum, keeps_case}
use Rattle.commitment.specs.Limits.{within}
use Rattle.commitment.specs.Profit.{profit}

-- a month of a horizon: how many intervals it has, and its figures
pub record Month : Type 0 where
  pub long : ℕ
  pub limits : Limits

-- on or off after some intervals
abbrev pub on_after : Bool → List ℕ → Bool
on_after on [] = on
on_after on (zero ∷ s) = on_after false s
on_after on (suc m ∷ s) = on_after true s

-- the part of a schedule in one month; a start belongs to the month of its first interval
abbrev pub keeps_in : Limits → Bool → List ℕ → Bool
keeps_in limits on part =
    within 1 (starts_in on part) limits.starts && within 4 (on_intervals part) limits.hours && within 4 (output_sum part) limits.mwh

-- month by month, from the state before the first of them
abbrev pub keeps_months : List Month → Bool → List ℕ → Bool
keeps_months [] on s = true
keeps_months (m ∷ ms) on s =
    keeps_in m.limits on (take m.long s) && keeps_months ms (on_after on (take m.long s)) (drop m.long s)

-- the intervals of some months
abbrev pub intervals_of : List Month → ℕ
intervals_of [] = 0
intervals_of (m ∷ ms) = m.long + intervals_of ms

-- ---- the months of a horizon by the calendar, each with the same figures

-- the interval, counted from 0, before which month k ends: where the next begins, or the end of n intervals; the date's own month is counted 1
abbrev pub month_ends : Date → ℕ → ℕ → ℕ
month_ends d n k = min n (month_begins d (suc k))

abbrev pub month_in : Date → Limits → ℕ → ℕ → Month
month_in d limits n k = record { long = month_ends d n k - month_begins d k; limits = limits }

-- so many months, from month k on
abbrev pub months_from : Date → Limits → ℕ → ℕ → ℕ → List Month
months_from d limits n k zero = []
months_from d limits n k (suc count) = month_in d limits n k ∷ months_from d limits n (suc k) count

-- from the month of the first of n intervals to that of the last
unfoldable pub months_of : Date → Limits → ℕ → List Month
months_of d limits n = months_from d limits n 1 (month_of d (n - 1))

-- ---- the best plan that keeps the case and every month

abbrev pub candidate_in : UnitRecord → List Month → List ℤ → List ℕ → Plan
candidate_in u months prices s = cond (keeps_case u s && keeps_months months (was_on u.opening) s) (plan s (profit u prices s)) nothing

abbrev pub best_in : UnitRecord → List Month → List ℤ → Plan
best_in u months prices = first_best (map (candidate_in u months prices) (lists (outputs u.generator) (length prices)))

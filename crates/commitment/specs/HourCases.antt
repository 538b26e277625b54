-- The worked cases of permitted hours (specification 22): C1's unit and prices with a date and an hour word, and the intervals that a word opens
-- from the two Sundays on; one table, and one statement over it.
use Rattle.std.specs.Prelude.{◌≡◌, refl, false, cond, List, [], ◌∷◌, map, ℕ, zero, suc, pos, Some, None}
use Rattle.calendar.specs.Dates.{date, is_sunday, day_number}
use Rattle.calendar.specs.Clock.{hours_of, clock_after}
use Rattle.commitment.specs.declared.Limitation.TheVariants.{Starts, Hours}
use Rattle.commitment.specs.declared.Outcome.TheVariants.{Gap}
use Rattle.commitment.specs.Types.{Permit}
use Rattle.commitment.specs.declared.UnitRecord.{UnitRecord}
use Rattle.commitment.specs.Keeping.{opens_in, keeps_case}
use Rattle.commitment.specs.Ranges.{date_kept}
use Rattle.commitment.specs.Best.{best}
use Rattle.commitment.specs.Valuing.{outcome_of}
use Rattle.commitment.specs.PlanCases.{c1-under, c1-prices, schedule, profit, number, outcome, plan_before, Row, row}

abbrev pub hours_from : ℕ → ℕ → ℕ → ℕ → Permit
hours_from year month day word = Some (record { date = date year month day; word = word })

-- C1 on 3 February 2024
abbrev pub c1-word : ℕ → UnitRecord
c1-word word = c1-under 2 0 2 (Some 2) (Some 2) None (hours_from 2024 2 3 word)

-- and on, for one interval, before its first
abbrev pub c1-on-word : ℕ → UnitRecord
c1-on-word word = c1-under 2 1 1 (Some 2) (Some 2) None (hours_from 2024 2 3 word)

abbrev pub table : List Row
table =
    -- hour 0 alone: the first four intervals
    row
    (plan_before (best (c1-word 1) c1-prices)
    (outcome (outcome_of (c1-word 1) c1-prices Starts) ∷ outcome (outcome_of (c1-word 1) c1-prices Hours) ∷ []))
    (schedule (0 ∷ 20 ∷ 20 ∷ 0 ∷ 0 ∷ 0 ∷ []) ∷ profit (pos 200000) ∷ outcome (Gap (pos 200000)) ∷ outcome (Gap (pos 200000)) ∷ [])
    -- a run that may not go on
    ∷ row (plan_before (best (c1-on-word 2) c1-prices) []) (number 9 ∷ [])
    -- no hour
    ∷ row (plan_before (best (c1-word 0) c1-prices) []) (schedule (0 ∷ 0 ∷ 0 ∷ 0 ∷ 0 ∷ 0 ∷ []) ∷ profit (pos 0) ∷ [])
    ∷ []

pub worked : map (λ (r : Row). r.computed) table ≡ map (λ (r : Row). r.given) table
unfolding clock_after hours_of is_sunday day_number
worked = refl

-- C1's plan is on in an hour that the word shuts
pub c1-plan-shut : keeps_case (c1-word 1) (0 ∷ 20 ∷ 20 ∷ 10 ∷ 20 ∷ 20 ∷ []) ≡ false
unfolding clock_after hours_of is_sunday day_number
c1-plan-shut = refl

-- ---- the intervals that a word opens, of so many from one on, counted from 1

abbrev pub open_of : Permit → ℕ → ℕ → List ℕ
open_of permit i zero = []
open_of permit i (suc count) = cond (opens_in permit i) (suc i ∷ open_of permit (suc i) count) (open_of permit (suc i) count)

-- from 10 March 2024 hour 2 never comes, and hour 3 is the third; from 3 November hour 1 comes twice
pub march : (open_of (hours_from 2024 3 10 4) 0 16 ≡ []) × (open_of (hours_from 2024 3 10 8) 0 16 ≡ 9 ∷ 10 ∷ 11 ∷ 12 ∷ [])
unfolding clock_after hours_of is_sunday day_number
march = (refl, refl)

pub november : open_of (hours_from 2024 11 3 2) 0 16 ≡ 5 ∷ 6 ∷ 7 ∷ 8 ∷ 9 ∷ 10 ∷ 11 ∷ 12 ∷ []
unfolding clock_after hours_of is_sunday day_number
november = refl

-- 30 February
pub thirtieth : date_kept (hours_from 2024 2 30 1) ≡ false
thirtieth = refl

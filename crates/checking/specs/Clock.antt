-- The clock hour of an interval when interval 1 begins at a date's midnight (specification 22), or those of the first intervals; or 3 (a number
-- outside its range), 12 (a date that does not exist).
use Rattle.std.specs.Prelude.{◌&&◌, List, [], ◌∷◌, ℕ, zero, suc, ◌-◌, ◌/◌, length, Ok, Err}
use Rattle.calendar.specs.declared.Date.{Date}
use Rattle.calendar.specs.Dates.{exists}
use Rattle.calendar.specs.Clock.{clock_after}
use Rattle.commitment.specs.declared.Cause.TheVariants as cause
use Rattle.commitment.specs.Types.{Checked}
use Rattle.commitment.specs.Causes.{number_of, Check, ◌else◌, first_of}
use Rattle.commitment.specs.Ranges.{date_ranged, horizon_kept}
use Rattle.checking.specs.Types.{ClockRead}

-- an interval is counted from 1
abbrev pub clock_checks : Date → ℕ → List Check
clock_checks d interval = (date_ranged d && horizon_kept interval else cause.Range) ∷ (exists d else cause.Date) ∷ []

abbrev pub clock_checked : Date → ℕ → Checked
clock_checked d interval = first_of (clock_checks d interval)

abbrev pub clock_by : Checked → ℕ → ClockRead
clock_by (Ok _) hour = Ok hour
clock_by (Err cause) hour = Err cause

abbrev pub clock_hour : Date → ℕ → ClockRead
clock_hour d interval = clock_by (clock_checked d interval) (clock_after d ((interval - 1) / 4))

-- its number and its hour: 0 where there is none
abbrev pub hour_in : ClockRead → ℕ
hour_in (Ok hour) = hour
hour_in (Err cause) = 0

-- ---- the clock hours of the first intervals, as many as a lent slice has entries; on a refusal it is as it was

-- an hour for each of so many intervals, from one on
abbrev pub each_from : (ℕ → ℕ) → ℕ → ℕ → List ℕ
each_from hour first zero = []
each_from hour first (suc count) = hour first ∷ each_from hour (suc first) count

abbrev pub clock_hours : Date → ℕ → List ℕ
clock_hours d count = each_from (λ i. clock_after d (i / 4)) 0 count

abbrev pub hours_by : Checked → Date → List ℕ → List ℕ
hours_by (Ok _) d was = clock_hours d (length was)
hours_by (Err cause) d was = was

unfoldable pub hours_left : Date → List ℕ → List ℕ
hours_left d was = hours_by (clock_checked d (length was)) d was

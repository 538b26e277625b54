-- When a schedule keeps the case (specification 5): one definition for each rule. The Bool is the state before the first interval, on or off,
-- and `spent` the intervals spent in that state.
use Rattle.std.specs.Prelude.{Bool, true, false, ◌&&◌, List, [], ◌∷◌, ℕ, zero, suc, ◌+◌, ◌/◌, leb, eqb, Some, None}
use Rattle.calendar.specs.Clock.{clock_after}
use Rattle.calendar.specs.Words.{allows}
use Rattle.commitment.specs.declared.Opening.{Opening}
use Rattle.commitment.specs.Types.{Permit}
use Rattle.commitment.specs.declared.UnitRecord.{UnitRecord}
use Rattle.commitment.specs.Limits.{within}

-- the state before interval 1
abbrev pub was_on : Opening → Bool
was_on o = eqb o.was 1

-- an interval that is on after one that is off is a start
abbrev pub starts_in : Bool → List ℕ → ℕ
starts_in on [] = 0
starts_in on (zero ∷ s) = starts_in false s
starts_in false (suc m ∷ s) = suc (starts_in true s)
starts_in true (suc m ∷ s) = starts_in true s

-- a run lasts at least mot intervals: each run that ends; one still on at the last interval may be shorter
abbrev pub runs_last : ℕ → Bool → ℕ → List ℕ → Bool
runs_last mot on spent [] = true
runs_last mot true spent (zero ∷ s) = leb mot spent && runs_last mot false 1 s
runs_last mot true spent (suc m ∷ s) = runs_last mot true (suc spent) s
runs_last mot false spent (zero ∷ s) = runs_last mot false (suc spent) s
runs_last mot false spent (suc m ∷ s) = runs_last mot true 1 s

-- an off spell followed by a start lasts at least mdt
abbrev pub spells_last : ℕ → Bool → ℕ → List ℕ → Bool
spells_last mdt on spent [] = true
spells_last mdt true spent (zero ∷ s) = spells_last mdt false 1 s
spells_last mdt true spent (suc m ∷ s) = spells_last mdt true (suc spent) s
spells_last mdt false spent (zero ∷ s) = spells_last mdt false (suc spent) s
spells_last mdt false spent (suc m ∷ s) = leb mdt spent && spells_last mdt true 1 s

abbrev pub on_intervals : List ℕ → ℕ
on_intervals [] = 0
on_intervals (zero ∷ s) = on_intervals s
on_intervals (suc m ∷ s) = suc (on_intervals s)

abbrev pub output_sum : List ℕ → ℕ
output_sum [] = 0
output_sum (m ∷ s) = m + output_sum s

-- whether the permit lets the unit run in an interval, counted from 0: the bit of its clock hour is 1
abbrev pub opens_in : Permit → ℕ → Bool
opens_in None i = true
opens_in (Some w) i = allows w.word (clock_after w.date (i / 4))

-- off wherever it does not open, from the interval of a number on
abbrev pub off_where_shut : (ℕ → Bool) → ℕ → List ℕ → Bool
off_where_shut opens i [] = true
off_where_shut opens i (zero ∷ s) = off_where_shut opens (suc i) s
off_where_shut opens i (suc m ∷ s) = opens i && off_where_shut opens (suc i) s

-- ---- the rules

abbrev pub keeps_starts : UnitRecord → List ℕ → Bool
keeps_starts u s = within 1 (starts_in (was_on u.opening) s) u.limits.starts

abbrev pub keeps_runs : UnitRecord → List ℕ → Bool
keeps_runs u s = runs_last u.generator.mot (was_on u.opening) u.opening.held s

abbrev pub keeps_spells : UnitRecord → List ℕ → Bool
keeps_spells u s = spells_last u.generator.mdt (was_on u.opening) u.opening.held s

-- on-intervals number at most 4 × hours
abbrev pub keeps_hours : UnitRecord → List ℕ → Bool
keeps_hours u s = within 4 (on_intervals s) u.limits.hours

-- the sum of outputs is at most 4 × mwh
abbrev pub keeps_mwh : UnitRecord → List ℕ → Bool
keeps_mwh u s = within 4 (output_sum s) u.limits.mwh

-- off wherever its hour's bit is 0
abbrev pub keeps_window : UnitRecord → List ℕ → Bool
keeps_window u s = off_where_shut (opens_in u.permit) 0 s

abbrev pub keeps_case : UnitRecord → List ℕ → Bool
keeps_case u s = keeps_starts u s && keeps_runs u s && keeps_spells u s && keeps_hours u s && keeps_mwh u s && keeps_window u s

-- Permitted hours (specification 22), clause by clause: the calendar, the clock hours of intervals, their months, the rivals held to the hours, and
-- the listing's line.
use Rattle.std.specs.Prelude.{Err, None, Ok, Some}
use mathlib.Core.Path.{◌≡◌, refl, sym, ap, ◌∙◌}
use mathlib.Core.Bool.{Bool, true, false, ◌&&◌, false≢true}
use mathlib.Core.List.{List, [], ◌∷◌, ◌++◌, append_assoc, append-nil}
use mathlib.Core.Logic.{◌↔◌}
use Prim.Native.Nat.{ℕ, zero, suc, ◌+◌, ◌-◌, ◌/◌, ◌<◌, ◌≤◌}
use native.Mathlib.Omega.{arith}
use lib.IntN.{ℤ}
use lib.ListN.{length, get_or}
use Rattle.lists.proofs.Conjunctions.{both}
use Rattle.calendar.specs.declared.Date.{Date}
use Rattle.calendar.specs.Dates.{exists, first_year}
use Rattle.calendar.specs.Tables.{exists_by_table}
use Rattle.calendar.specs.Clock.{springs, falls, hours_of, clock_after}
use Rattle.calendar.specs.Months.{month_of, month_begins}
use Rattle.calendar.proofs.Tables as tables
use Rattle.calendar.proofs.Days as days
use Rattle.calendar.proofs.Months as months
use Rattle.commitment.specs.declared.Cause.{Cause}
use Rattle.commitment.specs.Types.{Checked}
use Rattle.commitment.specs.declared.Outcomes.{Outcomes}
use Rattle.commitment.specs.declared.UnitRecord.{UnitRecord}
use Rattle.commitment.specs.Causes.{number_of, answered_number}
use Rattle.commitment.specs.Keeping.{opens_in, off_where_shut, keeps_starts, keeps_runs, keeps_spells, keeps_hours, keeps_mwh, keeps_window}
use Rattle.commitment.specs.Rivals.{Rival}
use Rattle.checking.specs.Clock.{clock_checked, clock_hour, hour_in, hours_by, hours_left}
use Rattle.checking.proofs.Clocks as clocks
use Rattle.listing.specs.Listing.{interval_heading, value_heading, interval_lines, profit_line, outcome_lines, hours_line, listing}
use Rattle.promises.specs.Causes.{FirstOf, NoneOf, clock_causes}
use Rattle.promises.proofs.Causes as causes

-- ---- the calendar: a date exists exactly when the table of days before each month says; on a March Sunday the clock shows 23 hours, 3 after 1, on a
-- November Sunday 25, 1 twice, and on any other day 24

pub exists-by-table : (d : Date) → exists d ≡ exists_by_table d
exists-by-table = tables.exists-by-table

pub spring-day : (d : Date) → springs d ≡ true
    → hours_of d ≡ 0 ∷ 1 ∷ 3 ∷ 4 ∷ 5 ∷ 6 ∷ 7 ∷ 8 ∷ 9 ∷ 10 ∷ 11 ∷ 12 ∷ 13 ∷ 14 ∷ 15 ∷ 16 ∷ 17 ∷ 18 ∷ 19 ∷ 20 ∷ 21 ∷ 22 ∷ 23 ∷ []
spring-day = days.spring-hours

pub fall-day : (d : Date) → falls d ≡ true
    → hours_of d ≡ 0 ∷ 1 ∷ 1 ∷ 2 ∷ 3 ∷ 4 ∷ 5 ∷ 6 ∷ 7 ∷ 8 ∷ 9 ∷ 10 ∷ 11 ∷ 12 ∷ 13 ∷ 14 ∷ 15 ∷ 16 ∷ 17 ∷ 18 ∷ 19 ∷ 20 ∷ 21 ∷ 22 ∷ 23 ∷ []
fall-day = days.fall-hours

pub other-day : (d : Date) → springs d ≡ false → falls d ≡ false
    → hours_of d ≡ 0 ∷ 1 ∷ 2 ∷ 3 ∷ 4 ∷ 5 ∷ 6 ∷ 7 ∷ 8 ∷ 9 ∷ 10 ∷ 11 ∷ 12 ∷ 13 ∷ 14 ∷ 15 ∷ 16 ∷ 17 ∷ 18 ∷ 19 ∷ 20 ∷ 21 ∷ 22 ∷ 23 ∷ []
other-day = days.plain-hours

-- ---- the clock hour of an interval is that of the hours passed since the date's midnight, four intervals to the hour; refused with the first of its
-- causes that holds, and hour 0 with it

pub clock-refused : (d : Date) (interval : ℕ) (cause : Cause) → (clock_hour d interval ≡ Err cause) ↔ FirstOf (clock_causes d interval) cause
clock-refused d interval cause = causes.clock-refused d interval

pub clock-answered : (d : Date) (interval : ℕ) → (clock_hour d interval ≡ Ok (clock_after d ((interval - 1) / 4))) ↔ NoneOf (clock_causes d interval)
clock-answered = causes.clock-answered

pub clock-refusal : (cause : Cause) → (answered_number {A = ℕ} (Err cause) ≡ number_of cause) × (hour_in (Err cause) ≡ 0)
clock-refusal cause = (refl, refl)

-- ---- the clock hours in a lent slice: refused as for the last of its intervals, and the slice is as it was; else each entry is the answer for its
-- interval

pub hours-refused : (d : Date) (was : List ℕ) (cause : Cause) → (clock_checked d (length was) ≡ Err cause) ↔ FirstOf (clock_causes d (length was)) cause
hours-refused d was cause = causes.hours-refused d (length was)

pub hours-untouched : (d : Date) (was : List ℕ) (cause : Cause) → clock_checked d (length was) ≡ Err cause → hours_left d was ≡ was
unfolding hours_left
hours-untouched d was cause e = ap (λ (k : Checked). hours_by k d was) e

pub hours-filled : (d : Date) (was : List ℕ) (i : ℕ) → clock_checked d (length was) ≡ Ok tt → i < length was
    → clock_hour d (suc i) ≡ Ok (get_or (hours_left d was) i 0)
hours-filled = clocks.entry-is

-- ---- months of the calendar: an interval, counted from 0, lies in a month exactly when the month has begun and the next has not

pub in-month : (d : Date) → exists d ≡ true → first_year ≤ d.year → (interval month : ℕ) → 1 ≤ month
    → (month_of d interval ≡ month) ↔ ((month_begins d month ≤ interval) × (interval < month_begins d (suc month)))
in-month = months.in-month

-- ---- a schedule that is on in a shut hour is no rival

off-there : (opens : ℕ → Bool) (first : ℕ) (s : List ℕ) (i : ℕ) → off_where_shut opens first s ≡ true → opens (first + i) ≡ false → get_or s i 0 ≡ 0
off-there opens first [] i kept shut = refl
off-there opens first (zero ∷ s) zero kept shut = refl
off-there opens first (suc m ∷ s) zero kept shut =
    let here : opens first ≡ true = (both (opens first) (off_where_shut opens (suc first) s) kept).0 in
    let none : opens first ≡ false = ap opens (omega arith) ∙ shut in
    absurd (false≢true (sym none ∙ here))
off-there opens first (m ∷ s) (suc i) kept shut =
    off-there opens (suc first) s i (rest m kept) (ap opens (omega arith) ∙ shut)
  where
    rest : (m : ℕ) → off_where_shut opens first (m ∷ s) ≡ true → off_where_shut opens (suc first) s ≡ true
    rest zero kept = kept
    rest (suc m) kept = (both (opens first) (off_where_shut opens (suc first) s) kept).1

pub on-in-a-shut-hour : (u : UnitRecord) (prices : List ℤ) (s : List ℕ) (i : ℕ) → opens_in u.permit i ≡ false → (get_or s i 0 ≡ 0 → ⊥) → Rival u prices s → ⊥
on-in-a-shut-hour u prices s i shut on rival =
    let rules = keeps_starts u s && keeps_runs u s && keeps_spells u s && keeps_hours u s && keeps_mwh u s in
    let kept = (both rules (keeps_window u s) rival.kept).1 in
    on (off-there (opens_in u.permit) 0 s i kept (ap (opens_in u.permit) (omega arith) ∙ shut))

-- a case without a date and word is held to no hours

always-open : (i : ℕ) (s : List ℕ) → off_where_shut (opens_in None) i s ≡ true
always-open i [] = refl
always-open i (zero ∷ s) = always-open (suc i) s
always-open i (suc m ∷ s) = always-open (suc i) s

pub any-hour : (u : UnitRecord) (s : List ℕ) → u.permit ≡ None → keeps_window u s ≡ true
any-hour u s e = rw e (always-open 0 s)

-- ---- the listing of a case with a word is that of one without, and the line behind it

behind : (a b c d e last : List ℕ) → a ++ (b ++ (c ++ (d ++ (e ++ last)))) ≡ (a ++ (b ++ (c ++ (d ++ (e ++ []))))) ++ last
behind a b c d e last = simp (append_assoc, append-nil)

pub window-last : (schedule : List ℕ) (profit : ℤ) (outcomes : Outcomes) (hours : ℕ)
    → listing schedule profit outcomes (Some hours) ≡ listing schedule profit outcomes None ++ hours_line hours
unfolding listing
window-last schedule profit outcomes hours =
    behind interval_heading (interval_lines 1 schedule) value_heading (profit_line profit) (outcome_lines outcomes) (hours_line hours)

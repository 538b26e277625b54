-- The tables of days before each month are right, and a month's days are the difference of two entries.
use mathlib.Core.Path.{◌≡◌, refl, sym, ap, ◌∙◌}
use mathlib.Core.Logic.{⊎_elim}
use mathlib.Core.Bool.{Bool, true, false, ◌&&◌, and-false}
use mathlib.Core.List.{◌∷◌}
use Prim.Native.Nat.{ℕ, suc, ◌+◌, ◌-◌, ◌<◌, ◌≤◌}
use native.Mathlib.Omega.{arith}
use lib.Dec.{leb, lit≤}
use lib.ListN.{get_or, get_or-eq_default}
use borrow.Author.Tests.{leb-true, le-leb, lt-leb}
use Rattle.calendar.specs.declared.Date.{Date}
use Rattle.calendar.specs.Dates.{months, leap, days_in, days_before, sum, exists}
use Rattle.calendar.specs.Tables.{table_before, days_by_table, exists_by_table}
use Rattle.calendar.proofs.Checks.{checked, alike, order}

-- the table's entry is the sum of the months before
pub table-sums : (leap : Bool) (k : ℕ) → k ≤ 12 → get_or (table_before leap) k 0 ≡ days_before leap (suc k)
table-sums true k h = alike (λ k. get_or (table_before true) k 0) (λ k. days_before true (suc k)) 13 refl k (omega arith)
table-sums false k h = alike (λ k. get_or (table_before false) k 0) (λ k. days_before false (suc k)) 13 refl k (omega arith)

-- a month's days come on top of those before it
pub month-sums : (leap : Bool) (m : ℕ) → m ≤ 12 → days_before leap m + get_or (0 ∷ months leap) m 0 ≡ days_before leap (suc m)
month-sums true m h = alike (λ m. days_before true m + get_or (0 ∷ months true) m 0) (λ m. days_before true (suc m)) 13 refl m (omega arith)
month-sums false m h = alike (λ m. days_before false m + get_or (0 ∷ months false) m 0) (λ m. days_before false (suc m)) 13 refl m (omega arith)

-- a year has 365 days or 366, and no month begins or ends after it
pub year-days : (leap : Bool) → (365 ≤ sum (months leap)) × (sum (months leap) ≤ 366)
year-days true = (lit≤ tt, lit≤ tt)
year-days false = (lit≤ tt, lit≤ tt)

pub within-year : (leap : Bool) (m : ℕ) → m ≤ 12 → days_before leap (suc m) ≤ sum (months leap)
within-year true m h = leb-true _ _ (checked (λ m. leb (days_before true (suc m)) 366) 13 refl m (omega arith))
within-year false m h = leb-true _ _ (checked (λ m. leb (days_before false (suc m)) 365) 13 refl m (omega arith))

-- every month has a first day
pub month-begins : (leap : Bool) (m : ℕ) → m ≤ 11 → 1 ≤ get_or (months leap) m 0
month-begins true m h = leb-true _ _ (checked (λ m. leb 1 (get_or (months true) m 0)) 12 refl m (omega arith))
month-begins false m h = leb-true _ _ (checked (λ m. leb 1 (get_or (months false) m 0)) 12 refl m (omega arith))

pub no-month : (year m : ℕ) → 12 < m → days_in year m ≡ 0
no-month year m h = get_or-eq_default (0 ∷ months (leap year)) 0 h

-- ---- which dates exist

days-by-table : (year m : ℕ) → 1 ≤ m → m ≤ 12 → days_by_table year m ≡ days_in year m
days-by-table year m h k =
    let at : suc (m - 1) ≡ m = omega arith in
    let same = ap (days_before (leap year)) at in
    omega (arith, table-sums (leap year) m k, table-sums (leap year) (m - 1) (omega arith), month-sums (leap year) m k, same)

no-day : (day days : ℕ) → days ≡ 0 → leb 1 day && leb day days ≡ false
no-day day days none =
    ⊎_elim (λ (h : day < 1). ap (λ (t : Bool). t && leb day days) (lt-leb 1 day h))
    (λ (h : 1 ≤ day). ap (λ (t : Bool). leb 1 day && t) (lt-leb day days (omega arith)) ∙ and-false (leb 1 day))
    (order day 1)

pub exists-by-table : (d : Date) → exists d ≡ exists_by_table d
exists-by-table d =
    let days = days_by_table d.year d.month in
    let rest : Bool → Bool = λ t. t && leb 1 d.day && leb d.day days in
    ⊎_elim
    (λ (h : d.month < 1).
    let zero-month : d.month ≡ 0 = omega arith in
    no-day d.day (days_in d.year d.month) (ap (days_in d.year) zero-month)
    ∙ sym (ap (λ (t : Bool). rest (t && leb d.month 12)) (lt-leb 1 d.month h)))
    (λ (h : 1 ≤ d.month).
    ⊎_elim
    (λ (k : 12 < d.month).
    no-day d.day (days_in d.year d.month) (no-month d.year d.month k)
    ∙ sym (ap (λ (t : Bool). rest (leb 1 d.month && t)) (lt-leb d.month 12 k) ∙ ap rest (and-false (leb 1 d.month))))
    (λ (k : d.month ≤ 12).
    ap (λ (n : ℕ). leb 1 d.day && leb d.day n) (sym (days-by-table d.year d.month h k))
    ∙ sym
    (ap (λ (t : Bool). rest (t && leb d.month 12)) (le-leb 1 d.month h)
    ∙ ap (λ (t : Bool). rest (true && t)) (le-leb d.month 12 k)))
    (order 12 d.month))
    (order d.month 1)

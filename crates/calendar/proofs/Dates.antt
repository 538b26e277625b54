-- Dates: what it says of a date that it exists, the day after it, and that its number is one more; its year and month by its number.
use mathlib.Core.Path.{◌≡◌, refl, sym, ap, ◌∙◌, subst}
use mathlib.Core.Logic.{⊎_elim}
use mathlib.Core.Bool.{Bool, true, cond}
use Prim.Native.Nat.{ℕ, zero, suc, ◌+◌, ◌-◌, ◌*◌, ◌/◌, ◌<◌, ◌≤◌}
use native.Mathlib.Nat.{eq-or-lt_of_le, le_of_suc-le-suc}
use native.Mathlib.Omega.{arith}
use lib.Dec.{leb, ltb, lit≤}
use borrow.Author.Tests.{leb-true, le-leb, lt-ltb, le-ltb}
use Rattle.lists.proofs.Conjunctions.{both}
use Rattle.calendar.specs.declared.Date.{Date}
use Rattle.calendar.specs.Dates.{date, leap, months, days_in, exists, next, first_year, last_numbered, sum, days_of_years, days_before}
use Rattle.calendar.specs.Dates.{day_number, past_numbers, Within}
use Rattle.calendar.proofs.Checks.{alike, order}
use Rattle.calendar.proofs.Tables.{no-month, month-sums, month-begins, within-year}

pub record Parts (d : Date) : Type 0 where
  pub first-month : 1 ≤ d.month
  pub last-month : d.month ≤ 12
  pub first-day : 1 ≤ d.day
  pub last-day : d.day ≤ days_in d.year d.month

pub parts : (d : Date) → exists d ≡ true → Parts d
parts d e =
    let days = days_in d.year d.month in
    let tests = both (leb 1 d.day) (leb d.day days) e in
    let first : 1 ≤ d.day = leb-true 1 d.day tests.0 in
    let last : d.day ≤ days = leb-true d.day days tests.1 in
    record {
      first-month =
          ⊎_elim
          (λ (h : d.month < 1). let none : days ≡ 0 = (let z : d.month ≡ 0 = omega arith in ap (days_in d.year) z) in absurd (omega arith))
          (λ (h : 1 ≤ d.month). h)
          (order d.month 1);
      last-month =
          ⊎_elim (λ (h : 12 < d.month). let none = no-month d.year d.month h in absurd (omega arith)) (λ (h : d.month ≤ 12). h) (order 12 d.month);
      first-day = first;
      last-day = last;
    }

pub existing : (d : Date) → 1 ≤ d.day → d.day ≤ days_in d.year d.month → exists d ≡ true
existing d h k = simp (le-leb _ _ h, le-leb _ _ k)

-- ---- years one after the other

-- by the rule of leap years
pub years-sum : (k : ℕ) → k ≤ last_numbered - first_year → days_of_years k ≡ 365 * k + ((2006 + k) / 4 + (2006 + k) / 400 - (2006 + k) / 100 - 486)
years-sum k h =
    alike days_of_years (λ k. 365 * k + ((2006 + k) / 4 + (2006 + k) / 400 - (2006 + k) / 100 - 486)) (suc (last_numbered - first_year)) refl k (omega arith)

pub year-on : (year : ℕ) → first_year ≤ year → days_of_years (suc year - first_year) ≡ days_of_years (year - first_year) + sum (months (leap year))
year-on year h =
    let at : suc year - first_year ≡ suc (year - first_year) = omega arith in
    let this : first_year + (year - first_year) ≡ year = omega arith in
    ap days_of_years at ∙ ap (λ (y : ℕ). days_of_years (year - first_year) + sum (months (leap y))) this

pub years-grow : (j k : ℕ) → j ≤ k → days_of_years j ≤ days_of_years k
years-grow j zero h = let same = ap days_of_years (let z : j ≡ 0 = omega arith in z) in omega arith
years-grow j (suc k) h =
    ⊎_elim (λ (q : j ≡ suc k). let same = ap days_of_years q in omega arith) (λ (l : j < suc k). let before = years-grow j k (le_of_suc-le-suc l) in omega arith)
    (eq-or-lt_of_le h)

-- ---- the day after a date is the next of the month, the first of the next, or New Year's Day

module _ (P : Date → Type 0) (d : Date) where
  next-by
      : (d.day < days_in d.year d.month → P (date d.year d.month (suc d.day)))
      → (days_in d.year d.month ≤ d.day → d.month < 12 → P (date d.year (suc d.month) 1))
      → (days_in d.year d.month ≤ d.day → 12 ≤ d.month → P (date (suc d.year) 1 1))
      → P (next d)
  next-by day month year =
      let days = days_in d.year d.month in
      let one = date d.year d.month (suc d.day) in
      let two = date d.year (suc d.month) 1 in
      let three = date (suc d.year) 1 1 in
      let other = cond (ltb d.month 12) two three in
      ⊎_elim (λ (h : d.day < days). subst P (sym (ap (λ (t : Bool). cond t one other) (lt-ltb d.day days h))) (day h))
      (λ (h : days ≤ d.day).
      subst P (sym (ap (λ (t : Bool). cond t one other) (le-ltb d.day days h)))
      (⊎_elim (λ (k : d.month < 12). subst P (sym (ap (λ (t : Bool). cond t two three) (lt-ltb d.month 12 k))) (month h k))
      (λ (k : 12 ≤ d.month). subst P (sym (ap (λ (t : Bool). cond t two three) (le-ltb d.month 12 k))) (year h k))
      (order d.month 12)))
      (order d.day days)

pub next-exists : (d : Date) → exists d ≡ true → exists (next d) ≡ true
next-exists d e =
    let has = parts d e in
    next-by (λ (n : Date). exists n ≡ true) d (λ h. existing (date d.year d.month (suc d.day)) (omega arith) h)
    (λ h k. existing (date d.year (suc d.month) 1) (omega arith) (month-begins (leap d.year) d.month (omega arith)))
    (λ h k. refl)

pub next-from : (d : Date) → first_year ≤ d.year → first_year ≤ (next d).year
next-from d h = next-by (λ (n : Date). first_year ≤ n.year) d (λ _. h) (λ _ _. h) (λ _ _. omega arith)

pub next-number : (d : Date) → exists d ≡ true → first_year ≤ d.year → day_number (next d) ≡ suc (day_number d)
unfolding day_number
next-number d e from =
    let has = parts d e in
    let sums = month-sums (leap d.year) d.month has.last-month in
    next-by (λ (n : Date). day_number n ≡ suc (day_number d)) d (λ h. omega arith) (λ h k. omega arith)
    (λ h k.
    let more = year-on d.year from in
    let whole : days_before (leap d.year) (suc d.month) ≡ sum (months (leap d.year)) =
    (let december : d.month ≡ 12 = omega arith in ap (λ (m : ℕ). days_before (leap d.year) (suc m)) december) in
    omega arith)

-- ---- so many days on

abbrev pub walk : ℕ → Date → Date
walk zero d = d
walk (suc n) d = walk n (next d)

pub record Walked (d : Date) (n : ℕ) (e : Date) : Type 0 where
  pub there : exists e ≡ true
  pub since : first_year ≤ e.year
  pub number : day_number e ≡ day_number d + n

pub walked : (n : ℕ) (d : Date) → exists d ≡ true → first_year ≤ d.year → Walked d n (walk n d)
walked zero d e h = record { there = e; since = h; number = omega arith }
walked (suc n) d e h =
    let on = walked n (next d) (next-exists d e) (next-from d h) in
    record { there = on.there; since = on.since; number = omega (arith, on.number, next-number d e h) }

-- ---- within a year

-- a date lies within its year
pub day-of-year : (d : Date) → exists d ≡ true → days_before (leap d.year) d.month + d.day ≤ sum (months (leap d.year))
day-of-year d e =
    let has = parts d e in
    omega (arith, month-sums (leap d.year) d.month has.last-month, within-year (leap d.year) d.month has.last-month)

-- and its number is below those of the next
pub in-year : (d : Date) → exists d ≡ true → first_year ≤ d.year → day_number d < days_of_years (suc d.year - first_year)
unfolding day_number
in-year d e from = omega (arith, (parts d e).first-day, day-of-year d e, year-on d.year from)

pub years-small : days_of_years (suc last_numbered - first_year) < past_numbers
years-small = lit≤ tt

pub number_small : (d : Date) → Within last_numbered d → day_number d < past_numbers
number_small d w =
    omega (arith, years-small, in-year d w.there w.since, years-grow (suc d.year - first_year) (suc last_numbered - first_year) (omega (arith, w.till)))

-- ---- the month of a day, by its number

pub before-grows : (leap : Bool) (m k : ℕ) → m ≤ k → k ≤ 13 → days_before leap m ≤ days_before leap k
before-grows leap m zero h l = let same = ap (days_before leap) (let z : m ≡ 0 = omega arith in z) in omega arith
before-grows leap m (suc k) h l =
    ⊎_elim (λ (q : m ≡ suc k). let same = ap (days_before leap) q in omega arith)
    (λ (b : m < suc k). omega (arith, before-grows leap m k (le_of_suc-le-suc b) (omega arith), month-sums leap k (omega arith)))
    (eq-or-lt_of_le h)

module _ (d : Date) (there : exists d ≡ true) where
  abbrev since-new-year : ℕ → ℕ
  since-new-year month = days_of_years (d.year - first_year) + days_before (leap d.year) month

  -- a date of an earlier month is before the first of this one, one of a later month not
  pub month-earlier : (month : ℕ) → month ≤ 12 → d.month < month → day_number d < since-new-year month
  unfolding day_number
  month-earlier month few h =
      let has = parts d there in
      omega (
        arith,
        has.first-day,
        has.last-day,
        month-sums (leap d.year) d.month has.last-month,
        before-grows (leap d.year) (suc d.month) month h (omega arith),
      )

  pub month-later : (month : ℕ) → month ≤ d.month → since-new-year month ≤ day_number d
  unfolding day_number
  month-later month h = omega (arith, before-grows (leap d.year) month d.month h (omega (arith, (parts d there).last-month)))

  pub month-of : (month : ℕ) → month ≤ 12 → since-new-year month ≤ day_number d → day_number d < since-new-year (suc month) → d.month ≡ month
  month-of month few low high =
      ⊎_elim (λ (l : d.month < month). absurd (omega (arith, month-earlier month few l)))
      (λ (l : month ≤ d.month).
      ⊎_elim (λ (h : d.month < suc month). omega arith) (λ (h : suc month ≤ d.month). absurd (omega (arith, month-later (suc month) h)))
      (order d.month (suc month)))
      (order d.month month)

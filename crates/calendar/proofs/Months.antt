-- Months: the day on which an hour falls, the first days of months by their numbers, and that an interval lies in a month exactly when the month has
-- begun and the next has not.
use mathlib.Core.Path.{◌≡◌, refl, sym, ap, ap₂, ◌∙◌, subst}
use mathlib.Core.Logic.{◌↔◌, ⊎_elim}
use mathlib.Core.Bool.{Bool, true, false, cond}
use Prim.Native.Nat.{ℕ, zero, suc, ◌+◌, ◌-◌, ◌*◌, ◌/◌, ◌%◌, ◌<◌, ◌≤◌}
use native.Mathlib.Nat.{eq-or-lt_of_le, le_of_suc-le-suc}
use native.Mathlib.Omega.{arith}
use lib.Dec.{leb}
use lib.ListN.{length, length-append}
use borrow.Author.Tests.{leb-true, lt-ltb, le-ltb}
use Rattle.calendar.specs.declared.Date.{Date}
use Rattle.calendar.specs.Dates.{date, leap, months, days_in, exists, next, first_year, last_year, last_numbered, Within}
use Rattle.calendar.specs.Dates.{sum, days_of_years, days_before, day_number}
use Rattle.calendar.specs.Clock.{hours_of, hours_over, changes_before}
use Rattle.calendar.specs.Months.{day_after, date_after, month_count, month_of, year_intervals, most_months}
use Rattle.calendar.specs.Months.{days_left, next_month, months_on, days_of_months, month_begins}
use Rattle.calendar.proofs.Checks.{up_to, checked, order}
use Rattle.calendar.proofs.Tables.{month-sums, month-begins}
use Rattle.calendar.proofs.Dates.{parts, existing, next-exists, next-from, next-number, walk, Walked, walked}
use Rattle.calendar.proofs.Dates.{year-on, years-grow, in-year, month-earlier, month-later}
use Rattle.calendar.proofs.Changes.{between, only, on_first, first-light, spring-parts, fall-parts, Kind, plain, spring, fall, kind}
use Rattle.calendar.proofs.Days.{At, at, days-few, light, hours-long, day-long}

-- ---- the day on which an hour falls

day-in : (n k : ℕ) (d : Date) (hour : ℕ) → n ≤ k → hour < length (hours_of (walk n d)) → day_after k d (length (hours_over n d) + hour) ≡ walk n d
day-in zero zero d hour h l = refl
day-in (suc n) zero d hour h l = absurd (omega arith)
day-in zero (suc k) d hour h l = simp (lt-ltb (0 + hour) (length (hours_of d)) (omega arith))
day-in (suc n) (suc k) d hour h l =
    let day = length (hours_of d) in
    let p = length (hours_over (suc n) d) + hour in
    let long = length-append (hours_of d) (hours_over n (next d)) in
    let rest : p - day ≡ length (hours_over n (next d)) + hour = omega arith in
    ap (λ (t : Bool). cond t d (day_after k (next d) (p - day))) (le-ltb p day (omega arith))
    ∙ ap (day_after k (next d)) rest
    ∙ day-in n k (next d) hour (le_of_suc-le-suc h) l

date-at : (d : Date) (passed : ℕ) (a : At d passed) → date_after d passed ≡ walk a.days d
unfolding date_after
date-at d passed a =
    ap (day_after (passed / 23) d) a.is ∙ day-in a.days (passed / 23) d a.hour (omega (arith, days-few d passed a)) a.within

-- ---- hours have passed exactly when the days have

hours-one : (n : ℕ) (d : Date) → length (hours_over (suc n) d) ≡ length (hours_over n d) + length (hours_of (walk n d))
hours-one zero d = omega (arith, length-append (hours_of d) (hours_over 0 (next d)))
hours-one (suc n) d =
    omega (arith, length-append (hours_of d) (hours_over (suc n) (next d)), length-append (hours_of d) (hours_over n (next d)), hours-one n (next d))

hours-grow : (m n : ℕ) (d : Date) → m ≤ n → length (hours_over m d) ≤ length (hours_over n d)
hours-grow m zero d h = let same = ap (λ (k : ℕ). length (hours_over k d)) (let z : m ≡ 0 = omega arith in z) in omega arith
hours-grow m (suc n) d h =
    ⊎_elim (λ (q : m ≡ suc n). let same = ap (λ (k : ℕ). length (hours_over k d)) q in omega arith)
    (λ (l : m < suc n). omega (arith, hours-one n d, hours-grow m n d (le_of_suc-le-suc l)))
    (eq-or-lt_of_le h)

module _ (d : Date) (passed : ℕ) (a : At d passed) (days : ℕ) where
  days-over : days ≤ a.days → length (hours_over days d) ≤ passed
  days-over h = omega (arith, a.is, hours-grow days a.days d h)

  days-ahead : a.days < days → passed < length (hours_over days d)
  days-ahead h = omega (arith, a.is, a.within, hours-one a.days d, hours-grow (suc a.days) days d h)

-- ---- months by the numbers of days

abbrev new-year : ℕ → ℕ
new-year year = days_of_years (year - first_year)

module _ (d e : Date) (there : exists d ≡ true) (there' : exists e ≡ true) (from : first_year ≤ d.year) (from' : first_year ≤ e.year) where
  -- a date of an earlier month has a lower number
  month-less : month_count d < month_count e → day_number d < day_number e
  unfolding day_number
  month-less h =
      let has = parts d there in
      let has' = parts e there' in
      ⊎_elim (λ (l : d.year < e.year). omega (arith, in-year d there from, years-grow (suc d.year - first_year) (e.year - first_year) (omega arith)))
      (λ (l : e.year ≤ d.year).
      let same : e.year ≡ d.year = omega arith in
      let later = month-earlier d there e.month has'.last-month (omega arith) in
      omega (arith, ap new-year same, ap (λ (y : ℕ). days_before (leap y) e.month) same))
      (order d.year e.year)

  -- and the first day of a month none above those of the same month or a later one
  month-first : d.day ≡ 1 → month_count d ≤ month_count e → day_number d ≤ day_number e
  unfolding day_number
  month-first one h =
      let has = parts d there in
      let has' = parts e there' in
      ⊎_elim (λ (l : d.year < e.year). omega (arith, in-year d there from, years-grow (suc d.year - first_year) (e.year - first_year) (omega arith)))
      (λ (l : e.year ≤ d.year).
      let same : d.year ≡ e.year = omega arith in
      let later = month-later e there' d.month (omega arith) in
      omega (arith, ap new-year same, ap (λ (y : ℕ). days_before (leap y) d.month) same))
      (order d.year e.year)

-- ---- the first days of the months after a date

module _ (P : Date → Type 0) (d : Date) where
  next-month-by : (d.month < 12 → P (date d.year (suc d.month) 1)) → (12 ≤ d.month → P (date (suc d.year) 1 1)) → P (next_month d)
  next-month-by month year =
      let by : Bool → Date = λ t. cond t (date d.year (suc d.month) 1) (date (suc d.year) 1 1) in
      ⊎_elim (λ (h : d.month < 12). subst (λ (t : Bool). P (by t)) (sym (lt-ltb d.month 12 h)) (month h))
      (λ (h : 12 ≤ d.month). subst (λ (t : Bool). P (by t)) (sym (le-ltb d.month 12 h)) (year h))
      (order d.month 12)

record NextMonth (d e : Date) : Type 0 where
  there : exists e ≡ true
  since : first_year ≤ e.year
  first : e.day ≡ 1
  count : month_count e ≡ suc (month_count d)
  number : day_number e ≡ day_number d + days_left d

next-month : (d : Date) → exists d ≡ true → first_year ≤ d.year → NextMonth d (next_month d)
unfolding day_number
next-month d there from =
    let has = parts d there in
    let sums = month-sums (leap d.year) d.month has.last-month in
    next-month-by (NextMonth d) d
    (λ h.
    record {
      there = existing (date d.year (suc d.month) 1) (omega arith) (month-begins (leap d.year) d.month (omega arith));
      since = from;
      first = refl;
      count = omega arith;
      number = omega (arith, has.first-day, has.last-day);
    })
    (λ h.
    let december : d.month ≡ 12 = omega arith in
    let whole = ap (λ (m : ℕ). days_before (leap d.year) (suc m)) december in
    record {
      there = refl;
      since = omega arith;
      first = refl;
      count = omega arith;
      number = omega (arith, has.first-day, has.last-day, year-on d.year from);
    })

-- so many months on: the date itself, or the first day of a later month
record MonthsOn (d : Date) (k : ℕ) (e : Date) : Type 0 where
  there : exists e ≡ true
  since : first_year ≤ e.year
  first : 1 ≤ k → e.day ≡ 1
  count : month_count e ≡ month_count d + k
  number : day_number e ≡ day_number d + days_of_months k d

months-on : (k : ℕ) (d : Date) → exists d ≡ true → first_year ≤ d.year → MonthsOn d k (months_on k d)
months-on zero d there from =
    record { there = there; since = from; first = λ h. absurd (omega arith); count = omega arith; number = omega arith }
months-on (suc k) d there from =
    let one = next-month d there from in
    let rest = months-on k (next_month d) one.there one.since in
    record {
      there = rest.there;
      since = rest.since;
      first = λ _. later k one.first rest.first;
      count = omega (arith, rest.count, one.count);
      number = omega (arith, rest.number, one.number);
    }
  where
    later : (k : ℕ) → (next_month d).day ≡ 1 → (1 ≤ k → (months_on k (next_month d)).day ≡ 1) → (months_on k (next_month d)).day ≡ 1
    later zero now then = now
    later (suc k) now then = then (omega arith)

-- ---- an interval lies in a month exactly when the month has begun and the next has not

module _ (d : Date) (there : exists d ≡ true) (from : first_year ≤ d.year) (interval : ℕ) where
  here : At d (interval / 4)
  here = at (interval / 4) d (interval / 4) (omega arith)

  abbrev day : Date
  day = walk here.days d

  on : Walked d here.days day
  on = walked here.days d there from

  month-is : month_of d interval ≡ suc (month_count day) - month_count d
  unfolding month_of
  month-is = ap (λ (e : Date). suc (month_count e) - month_count d) (date-at d (interval / 4) here)

  not-before : month_count d ≤ month_count day
  not-before =
      ⊎_elim (λ (h : month_count day < month_count d). absurd (omega (arith, month-less day d on.there there on.since from h, on.number)))
      (λ (h : month_count d ≤ month_count day). h)
      (order (month_count day) (month_count d))

  pub month-least : 1 ≤ month_of d interval
  month-least = omega (arith, month-is, not-before)

  module _ (month : ℕ) (counted : 1 ≤ month) where
    begins-on : MonthsOn d (month - 1) (months_on (month - 1) d)
    begins-on = months-on (month - 1) d there from

    pub has-begun : month ≤ month_of d interval → month_begins d month ≤ interval
    unfolding month_begins
    has-begun h =
        let e = months_on (month - 1) d in
        let few : days_of_months (month - 1) d ≤ here.days =
        ⊎_elim
        (λ (l : month < 2). let none = ap (λ (k : ℕ). days_of_months k d) (let z : month - 1 ≡ 0 = omega arith in z) in omega arith)
        (λ (l : 2 ≤ month).
        omega (
          arith,
          begins-on.number,
          on.number,
          month-first e day begins-on.there on.there begins-on.since on.since (begins-on.first (omega arith))
              (omega (arith, begins-on.count, month-is)),
        ))
        (order month 2) in
        omega (arith, days-over d (interval / 4) here (days_of_months (month - 1) d) few)

    pub to-begin : month_of d interval < month → interval < month_begins d month
    unfolding month_begins
    to-begin h =
        let e = months_on (month - 1) d in
        let many : here.days < days_of_months (month - 1) d =
        omega (
          arith,
          begins-on.number,
          on.number,
          month-less day e on.there begins-on.there on.since begins-on.since (omega (arith, begins-on.count, month-is, not-before)),
        ) in
        omega (arith, days-ahead d (interval / 4) here (days_of_months (month - 1) d) many)

    pub begun : month_begins d month ≤ interval → month ≤ month_of d interval
    begun h =
        ⊎_elim (λ (l : month_of d interval < month). absurd (omega (arith, to-begin l))) (λ (l : month ≤ month_of d interval). l)
        (order (month_of d interval) month)

    pub not-begun : interval < month_begins d month → month_of d interval < month
    not-begun h =
        ⊎_elim (λ (l : month_of d interval < month). l) (λ (l : month ≤ month_of d interval). absurd (omega (arith, has-begun l)))
        (order (month_of d interval) month)

  pub in-month : (month : ℕ) → 1 ≤ month → (month_of d interval ≡ month) ↔ ((month_begins d month ≤ interval) × (interval < month_begins d (suc month)))
  in-month month counted = (
    λ is. (has-begun month counted (omega arith), to-begin (suc month) (omega arith) (omega arith)),
    λ h. omega (arith, begun month counted h.0, not-begun (suc month) (omega arith) h.1),
  )

-- ---- months begin one after the other, the first with the first interval

pub begins-first : (d : Date) → month_begins d 1 ≡ 0
unfolding month_begins
begins-first d = refl

pub begins-grow : (d : Date) → exists d ≡ true → first_year ≤ d.year → (k : ℕ) → month_begins d (suc k) < month_begins d (suc (suc k))
unfolding month_begins
begins-grow d there from k =
    let days = days_of_months k d in
    let this = months-on k d there from in
    let that = months-on (suc k) d there from in
    let later = month-less (months_on k d) (months_on (suc k) d) this.there that.there this.since that.since (omega (arith, this.count, that.count)) in
    let hours : ℕ → ℕ = λ n. length (hours_over (days_of_months n d) d) in
    omega (
      arith,
      ap hours (let e : suc k - 1 ≡ k = omega arith in e),
      ap hours (let e : suc (suc k) - 1 ≡ suc k = omega arith in e),
      hours-one days d,
      day-long (walk days d),
      hours-grow (suc days) (days_of_months (suc k) d) d (omega (arith, later, this.number, that.number)),
    )

-- ---- as the code finds them

first-day : {y y' m m' : ℕ} → y ≡ y' → m ≡ m' → date y m 1 ≡ date y' m' 1
first-day a b = ap₂ (λ (y m : ℕ). date y m 1) a b

-- the month by its count, in a year of twelve
pub months-by : (k : ℕ) (d : Date) → 1 ≤ d.month → d.month ≤ 12
    → months_on (suc k) d ≡ date (d.year + (d.month - 1 + suc k) / 12) ((d.month - 1 + suc k) % 12 + 1) 1
months-by zero d h l =
    next-month-by (λ (e : Date). e ≡ date (d.year + (d.month - 1 + 1) / 12) ((d.month - 1 + 1) % 12 + 1) 1) d
    (λ k. first-day (omega arith) (omega arith))
    (λ k. first-day (omega arith) (omega arith))
months-by (suc k) d h l =
    let e = next_month d in
    let on : (1 ≤ e.month) × (e.month ≤ 12) × (month_count e ≡ suc (month_count d)) =
    next-month-by (λ (e : Date). (1 ≤ e.month) × (e.month ≤ 12) × (month_count e ≡ suc (month_count d))) d
    (λ k. (omega arith, omega arith, omega arith))
    (λ k. (omega arith, omega arith, omega arith)) in
    months-by k e on.0 on.1 ∙ first-day (omega (arith, on)) (omega (arith, on))

-- equal numbers have as many changes of time before them
light-by : (d e : Date) → exists d ≡ true → exists e ≡ true → first_year ≤ d.year → first_year ≤ e.year → day_number d ≡ day_number e → light d ≡ light e
light-by d e there there' from from' same =
    let b = between e there' from' in
    ap (λ (n : ℕ). n % 2) (only d there from (changes_before e) (record { over = λ j h. omega (arith, b.over j h); ahead = omega (arith, b.ahead) }))

pub begins-by : (d : Date) → exists d ≡ true → first_year ≤ d.year → (month before : ℕ) → month - 1 ≡ before
    → let e = months_on before d in
    month_begins d month + 4 * (24 * day_number d + light e) ≡ 4 * (24 * day_number e + light d)
unfolding month_begins
begins-by d there from month before at =
    let days = days_of_months before d in
    let e = months_on before d in
    let m = months-on before d there from in
    let w = walked days d there from in
    omega (
      arith,
      ap (λ (n : ℕ). length (hours_over (days_of_months n d) d)) at,
      m.number,
      hours-long days d there from,
      light-by (walk days d) e w.there m.there w.since m.since (omega (arith, w.number, m.number)),
    )

pub months-within : (k : ℕ) (d : Date) → Within last_year d → k ≤ most_months → Within last_numbered (months_on k d)
months-within k d w few =
    let m = months-on k d w.there w.since in
    record {
      there = m.there;
      since = m.since;
      till = omega (arith, m.count, w.till, (parts d w.there).last-month, (parts (months_on k d) m.there).first-month);
    }

-- ---- a horizon has thirteen months at most

-- from the first day of a month to that of the same month a year on are at least 365 days
abbrev shifts : Bool → Bool → ℕ → Bool
shifts this on month = leb (365 + days_before this month) (sum (months this) + days_before on month)

year-shift : (this on : Bool) (month : ℕ) → month ≤ 12 → 365 + days_before this month ≤ sum (months this) + days_before on month
year-shift this on month h = leb-true _ _ (checked (shifts this on) 13 (computed this on) month (omega arith))
  where
    computed : (this on : Bool) → up_to (shifts this on) 13 ≡ true
    computed true true = refl
    computed true false = refl
    computed false true = refl
    computed false false = refl

-- no time changes on the last day of a month
last-quiet : (d : Date) → exists d ≡ true → first_year ≤ d.year → days_left d ≤ 1 → light (next d) ≡ light d
last-quiet d there from last = by (kind d there from)
  where
    by : Kind d → light (next d) ≡ light d
    by (plain s f same) = ap (λ (n : ℕ). n % 2) same
    by (spring s even one) = let p = spring-parts d s in absurd (omega (arith, p.2, ap (days_in d.year) p.0))
    by (fall f odd one) = let p = fall-parts d f in absurd (omega (arith, p.1, ap (days_in d.year) p.0))

-- the days to the fourteenth month are 366 at least; if they are no more, the first is the last of its month, and daylight time is as on the last
fourteenth : (d : Date) → exists d ≡ true → first_year ≤ d.year → (k : ℕ) → k ≡ 11 → year_intervals ≤ month_begins d (suc (suc (suc k)))
unfolding day_number
fourteenth d there from k eleven =
    let e = next_month d in
    let one = next-month d there from in
    let has = parts e one.there in
    let f = months_on (suc k) e in
    let on = months-on (suc k) e one.there one.since in
    let is : f ≡ date (suc e.year) e.month 1 = months-by k e has.first-month has.last-month ∙ first-day (omega arith) (omega arith) in
    let year : day_number e + 365 ≤ day_number f =
    (let shift = year-shift (leap e.year) (leap (suc e.year)) e.month has.last-month in
    omega (arith, ap day_number is, one.first, year-on e.year one.since)) in
    let same : light f ≡ light e =
    first-light f on.there on.since (ap (λ (x : Date). x.day) is)
    ∙ ap (λ (x : Date). on_first x.month) is
    ∙ sym (first-light e one.there one.since one.first) in
    let begins = begins-by d there from (suc (suc (suc k))) (suc (suc k)) (omega arith) in
    ⊎_elim
    (λ (h : days_left d < 2).
    let quiet = last-quiet d there from (omega arith) in
    let next-is =
    light-by e (next d) one.there (next-exists d there) one.since (next-from d from)
    (omega (arith, one.number, next-number d there from, (parts d there).last-day)) in
    omega (arith, (parts d there).last-day, one.number))
    (λ (h : 2 ≤ days_left d). omega (arith, one.number))
    (order (days_left d) 2)

pub months-few : (d : Date) → exists d ≡ true → first_year ≤ d.year → (interval : ℕ) → interval < year_intervals → month_of d interval ≤ most_months
months-few d there from interval h =
    ⊎_elim
    (λ (l : most_months < month_of d interval).
    absurd (omega (arith, has-begun d there from interval (suc most_months) (omega arith) l, fourteenth d there from 11 refl)))
    (λ (l : month_of d interval ≤ most_months). l)
    (order most_months (month_of d interval))

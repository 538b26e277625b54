-- The days on which time changes: by their numbers, far apart; and how many are over at a date's midnight.
use mathlib.Core.Path.{◌≡◌, refl, sym, ap, ap₂, ◌∙◌, subst}
use mathlib.Core.Logic.{◌⊎◌, inl, inr, ⊎_elim}
use mathlib.Core.Bool.{Bool, true, false, ◌&&◌, cond, false≢true}
use Prim.Native.Nat.{ℕ, zero, suc, ◌+◌, ◌-◌, ◌*◌, ◌/◌, ◌%◌, ◌<◌, ◌≤◌}
use native.Mathlib.Nat.{eq-or-lt_of_le, le_of_suc-le-suc}
use native.Mathlib.Omega.{arith}
use lib.Dec.{eqb, leb}
use borrow.Author.Tests.{eqb-true, eq-eqb, ne_eqb, leb-true, le-leb, lt-leb}
use Rattle.lists.proofs.Conjunctions.{both}
use Rattle.calendar.specs.declared.Date.{Date}
use Rattle.calendar.specs.Dates.{leap, months, exists, next, first_year, last_numbered, sum, days_of_years, days_before, day_number, is_sunday}
use Rattle.calendar.specs.Dates.{past_numbers}
use Rattle.calendar.specs.Clock.{springs, falls, spring_day, fall_day, change_day, most_changes, changes_before}
use Rattle.calendar.proofs.Checks.{either, order}
use Rattle.calendar.proofs.Dates.{parts, next-exists, next-from, next-number, year-on, years-small, in-year, month-of, before-grows}

-- ---- within a year: the second Sunday of March, the first of November

march-days : (leap : Bool)
    → (59 ≤ days_before leap 3) × (days_before leap 4 ≡ days_before leap 3 + 31) × (days_before leap 11 ≡ days_before leap 3 + 245)
    × (days_before leap 12 ≡ days_before leap 3 + 275)
    × (sum (months leap) ≡ days_before leap 3 + 306)
march-days true = (omega arith, refl, refl, refl, refl)
march-days false = (omega arith, refl, refl, refl, refl)

abbrev new-year : ℕ → ℕ
new-year year = days_of_years (year - first_year)

record Turning (year : ℕ) : Type 0 where
  spring-since : new-year year + 66 ≤ spring_day year
  spring-till : spring_day year + 232 ≤ fall_day year
  fall-till : fall_day year + 55 ≤ new-year (suc year)

turning : (year : ℕ) → first_year ≤ year → Turning year
unfolding day_number
turning year h =
    let m = march-days (leap year) in
    record {
      spring-since = omega (arith, m);
      spring-till = omega (arith, m);
      fall-till = omega (arith, m, year-on year h);
    }

pub spring-parts : (d : Date) → springs d ≡ true → (d.month ≡ 3) × (8 ≤ d.day) × (d.day ≤ 14) × (is_sunday d ≡ true)
spring-parts d s =
    let three = both (eqb d.month 3 && leb 8 d.day && leb d.day 14) (is_sunday d) s in
    let two = both (eqb d.month 3 && leb 8 d.day) (leb d.day 14) three.0 in
    let one = both (eqb d.month 3) (leb 8 d.day) two.0 in
    (eqb-true d.month 3 one.0, leb-true 8 d.day one.1, leb-true d.day 14 two.1, three.1)

pub fall-parts : (d : Date) → falls d ≡ true → (d.month ≡ 11) × (d.day ≤ 7) × (is_sunday d ≡ true)
fall-parts d f =
    let two = both (eqb d.month 11 && leb d.day 7) (is_sunday d) f in
    let one = both (eqb d.month 11) (leb d.day 7) two.0 in
    (eqb-true d.month 11 one.0, leb-true d.day 7 one.1, two.1)

module _ (d : Date) (there : exists d ≡ true) (from : first_year ≤ d.year) where
  spring-number : springs d ≡ true → day_number d ≡ spring_day d.year
  unfolding day_number is_sunday
  spring-number s =
      let p = spring-parts d s in
      omega (arith, p.1, p.2, eqb-true (day_number d % 7) 6 p.3, ap (days_before (leap d.year)) p.0)

  fall-number : falls d ≡ true → day_number d ≡ fall_day d.year
  unfolding day_number is_sunday
  fall-number f =
      let p = fall-parts d f in
      omega (arith, (parts d there).first-day, p.1, eqb-true (day_number d % 7) 6 p.2, ap (days_before (leap d.year)) p.0)

  -- the day of a month, by its number
  day-is : (month : ℕ) → d.month ≡ month → day_number d + 1 ≡ new-year d.year + days_before (leap d.year) month + d.day
  unfolding day_number
  day-is month at = omega (arith, (parts d there).first-day, ap (days_before (leap d.year)) at)

  number-spring : day_number d ≡ spring_day d.year → springs d ≡ true
  unfolding is_sunday day_number
  number-spring is =
      let m = march-days (leap d.year) in
      let at = month-of d there 3 (omega arith) (omega (arith, m)) (omega (arith, m)) in
      let day = day-is 3 at in
      let low : 8 ≤ d.day = omega arith in
      let high : d.day ≤ 14 = omega arith in
      let sunday : day_number d % 7 ≡ 6 = omega arith in
      simp (eq-eqb d.month 3 at, le-leb 8 d.day low, le-leb d.day 14 high, eq-eqb (day_number d % 7) 6 sunday)

  number-fall : day_number d ≡ fall_day d.year → falls d ≡ true
  unfolding is_sunday day_number
  number-fall is =
      let m = march-days (leap d.year) in
      let at = month-of d there 11 (omega arith) (omega (arith, m)) (omega (arith, m)) in
      let day = day-is 11 at in
      let high : d.day ≤ 7 = omega arith in
      let sunday : day_number d % 7 ≡ 6 = omega arith in
      simp (eq-eqb d.month 11 at, le-leb d.day 7 high, eq-eqb (day_number d % 7) 6 sunday)

-- ---- one after the other

-- the changes of a year
module _ (year : ℕ) (from : first_year ≤ year) where
  spring-at : (before : ℕ) → before ≡ 2 * (year - first_year) → change_day before ≡ spring_day year
  unfolding change_day
  spring-at before is =
      let even : before % 2 ≡ 0 = omega arith in
      let in-it : first_year + before / 2 ≡ year = omega arith in
      ap₂ (λ (t : Bool) (y : ℕ). cond t (spring_day y) (fall_day y)) (eq-eqb (before % 2) 0 even) in-it

  fall-at : (before : ℕ) → before ≡ 2 * (year - first_year) + 1 → change_day before ≡ fall_day year
  unfolding change_day
  fall-at before is =
      let in-it : first_year + before / 2 ≡ year = omega arith in
      ap₂ (λ (t : Bool) (y : ℕ). cond t (spring_day y) (fall_day y)) (ne_eqb (before % 2) 0 (λ (even : before % 2 ≡ 0). omega arith)) in-it

-- the next is at least 121 days on, the one after it 353
apart : (before : ℕ) → (change_day before + 121 ≤ change_day (suc before)) × (change_day before + 353 ≤ change_day (suc (suc before)))
apart before =
    let year = first_year + before / 2 in
    let from : first_year ≤ year = omega arith in
    let now = turning year from in
    let on = turning (suc year) (omega arith) in
    let spring = spring-at (suc year) (omega arith) in
    ⊎_elim
    (λ (even : before % 2 < 1).
    let a = spring-at year from before (omega arith) in
    let b = fall-at year from (suc before) (omega arith) in
    let c = spring (suc (suc before)) (omega arith) in
    (omega (arith, now.spring-till), omega (arith, now.spring-till, now.fall-till, on.spring-since)))
    (λ (odd : 1 ≤ before % 2).
    let a = fall-at year from before (omega arith) in
    let b = spring (suc before) (omega arith) in
    let c = fall-at (suc year) (omega arith) (suc (suc before)) (omega arith) in
    (omega (arith, now.fall-till, on.spring-since), omega (arith, now.fall-till, on.spring-since, on.spring-till)))
    (order (before % 2) 1)

pub changes-grow : (j k : ℕ) → j ≤ k → change_day j ≤ change_day k
changes-grow j zero h = let same = ap change_day (let z : j ≡ 0 = omega arith in z) in omega arith
changes-grow j (suc k) h =
    ⊎_elim (λ (q : j ≡ suc k). let same = ap change_day q in omega arith)
    (λ (l : j < suc k). omega (arith, changes-grow j k (le_of_suc-le-suc l), (apart k).0))
    (eq-or-lt_of_le h)

pub changes-apart : (j k : ℕ) → j < k → change_day j + 121 ≤ change_day k
changes-apart j k h = omega (arith, (apart j).0, changes-grow (suc j) k h)

-- there is no fourth within a year
pub fourth-far : (before : ℕ) → change_day before + 474 ≤ change_day (before + 3)
fourth-far before =
    let at = ap change_day (let z : before + 3 ≡ suc (suc (suc before)) = omega arith in z) in
    omega (arith, (apart before).1, (apart (suc (suc before))).0)

pub change-small : (before : ℕ) → before ≤ most_changes → change_day before < past_numbers
change-small before h =
    let last = fall-at last_numbered (omega arith) most_changes refl in
    omega (arith, changes-grow before most_changes h, (turning last_numbered (omega arith)).fall-till, years-small)

-- ---- how many are over at a date's midnight

pub record Between (d : Date) (before : ℕ) : Type 0 where
  pub over : (j : ℕ) → j < before → change_day j < day_number d
  pub ahead : day_number d ≤ change_day before

module _ (d : Date) (there : exists d ≡ true) (from : first_year ≤ d.year) where
  -- those of earlier years
  earlier : (j : ℕ) → j < 2 * (d.year - first_year) → change_day j < day_number d
  unfolding day_number
  earlier j h =
      let last = 2 * (d.year - first_year) - 1 in
      let year = d.year - 1 in
      let on : new-year (suc year) ≡ new-year d.year = ap new-year (let z : suc year ≡ d.year = omega arith in z) in
      omega (arith, changes-grow j last (omega arith), fall-at year (omega arith) last (omega arith), (turning year (omega arith)).fall-till)

  after : (last before : ℕ) → before ≡ suc last → change_day last < day_number d → day_number d ≤ change_day before → Between d before
  after last before at h k = record { over = λ j l. omega (arith, changes-grow j last (omega arith)); ahead = k }

  pub between : Between d (changes_before d)
  unfolding changes_before
  between =
      let first = 2 * (d.year - first_year) in
      let spring = spring_day d.year in
      let fall = fall_day d.year in
      let second = fall-at d.year from (first + 1) refl in
      let autumn : Bool → ℕ = λ t. first + cond t 1 2 in
      ⊎_elim
      (λ (h : spring < day_number d).
      subst (λ (t : Bool). Between d (first + cond t 0 (cond (leb (day_number d) fall) 1 2))) (sym (lt-leb (day_number d) spring h))
      (⊎_elim
      (λ (k : fall < day_number d).
      let third = spring-at (suc d.year) (omega arith) (first + 2) (omega arith) in
      subst (λ (t : Bool). Between d (autumn t)) (sym (lt-leb (day_number d) fall k))
      (after (first + 1) (first + 2) (omega arith) (omega arith)
      (omega (arith, in-year d there from, (turning (suc d.year) (omega arith)).spring-since))))
      (λ (k : day_number d ≤ fall).
      subst (λ (t : Bool). Between d (autumn t)) (sym (le-leb (day_number d) fall k))
      (after first (first + 1) (omega arith) (omega (arith, spring-at d.year from first refl)) (omega arith)))
      (order fall (day_number d))))
      (λ (h : day_number d ≤ spring).
      subst (λ (t : Bool). Between d (first + cond t 0 (cond (leb (day_number d) fall) 1 2))) (sym (le-leb (day_number d) spring h))
      (record { over = λ j l. earlier j (omega arith); ahead = omega (arith, spring-at d.year from (first + 0) (omega arith)) }))
      (order spring (day_number d))

  -- it is the only number that lies so
  pub only : (before : ℕ) → Between d before → changes_before d ≡ before
  only before b =
      ⊎_elim (λ (h : changes_before d < before). absurd (omega (arith, b.over (changes_before d) h, between.ahead)))
      (λ (h : before ≤ changes_before d).
      ⊎_elim (λ (k : before < changes_before d). absurd (omega (arith, between.over before k, b.ahead))) (λ (k : changes_before d ≤ before). omega arith)
      (order before (changes_before d)))
      (order (changes_before d) before)

pub changes-few : (d : Date) → changes_before d ≤ 2 * (d.year - first_year) + 2
unfolding changes_before
changes-few d = omega (arith, most (leb (day_number d) (spring_day d.year)) (leb (day_number d) (fall_day d.year)))
  where
    most : (s f : Bool) → cond s 0 (cond f 1 2) ≤ 2
    most true f = omega arith
    most false true = omega arith
    most false false = omega arith

-- on the first day of a month daylight time is on from April to November, whatever the year
abbrev pub on_first : ℕ → ℕ
on_first month = cond (leb month 3) 0 (cond (leb month 11) 1 0)

pub first-light : (d : Date) → exists d ≡ true → first_year ≤ d.year → d.day ≡ 1 → changes_before d % 2 ≡ on_first d.month
unfolding day_number
first-light d there from one =
    let first = 2 * (d.year - first_year) in
    let spring = spring-at d.year from first refl in
    let fall = fall-at d.year from (first + 1) refl in
    let next-spring = spring-at (suc d.year) (omega arith) (first + 2) (omega arith) in
    let m = march-days (leap d.year) in
    let has = parts d there in
    let grows = before-grows (leap d.year) in
    ⊎_elim
    (λ (h : d.month < 4).
    let n = only d there from first (record { over = earlier d there from; ahead = omega (arith, grows d.month 3 (omega arith) (omega arith)) }) in
    (let even : changes_before d % 2 ≡ 0 = omega arith in even) ∙ simp (le-leb d.month 3 (omega arith)))
    (λ (h : 4 ≤ d.month).
    ⊎_elim
    (λ (k : d.month < 12).
    let n =
    only d there from (first + 1)
    (after d there from first (first + 1) (omega arith) (omega (arith, grows 4 d.month h (omega arith)))
    (omega (arith, grows d.month 11 (omega arith) (omega arith)))) in
    (let odd : changes_before d % 2 ≡ 1 = omega arith in odd) ∙ simp (lt-leb d.month 3 h, le-leb d.month 11 (omega arith)))
    (λ (k : 12 ≤ d.month).
    let n =
    only d there from (first + 2)
    (after d there from (first + 1) (first + 2) (omega arith) (omega (arith, grows 12 d.month k (omega arith)))
    (omega (arith, in-year d there from, (turning (suc d.year) (omega arith)).spring-since))) in
    (let even : changes_before d % 2 ≡ 0 = omega arith in even) ∙ simp (lt-leb d.month 3 h, lt-leb d.month 11 k))
    (order d.month 12))
    (order d.month 4)

-- ---- three kinds of day

pub data Kind (d : Date) : Type 0 where
  plain : springs d ≡ false → falls d ≡ false → changes_before (next d) ≡ changes_before d → Kind d
  spring : springs d ≡ true → changes_before d % 2 ≡ 0 → changes_before (next d) ≡ suc (changes_before d) → Kind d
  fall : falls d ≡ true → changes_before d % 2 ≡ 1 → changes_before (next d) ≡ suc (changes_before d) → Kind d

module _ (d : Date) (there : exists d ≡ true) (from : first_year ≤ d.year) where
  number-next : day_number (next d) ≡ suc (day_number d)
  number-next = next-number d there from

  -- on the day of a change one more is over at the end
  change-over : (before : ℕ) → day_number d ≡ change_day before → (changes_before d ≡ before) × (changes_before (next d) ≡ suc before)
  change-over before is = (
    only d there from before (record { over = λ j h. omega (arith, changes-apart j before h); ahead = omega arith }),
    only (next d) (next-exists d there) (next-from d from) (suc before)
        (record { over = λ j h. omega (arith, number-next, changes-grow j before (le_of_suc-le-suc h)); ahead = omega (arith, number-next, (apart before).0) }),
  )

  spring-kind : springs d ≡ true → Kind d
  spring-kind s =
      let before = 2 * (d.year - first_year) in
      let is = change-over before (spring-number d there from s ∙ sym (spring-at d.year from before refl)) in
      spring s (omega arith) (is.1 ∙ ap suc (sym is.0))

  fall-kind : falls d ≡ true → Kind d
  fall-kind f =
      let before = 2 * (d.year - first_year) + 1 in
      let is = change-over before (fall-number d there from f ∙ sym (fall-at d.year from before refl)) in
      fall f (omega arith) (is.1 ∙ ap suc (sym is.0))

  -- and on no other day
  change-is : (j : ℕ) → day_number d ≡ change_day j → (springs d ≡ true) ⊎ (falls d ≡ true)
  change-is j is =
      let first = 2 * (d.year - first_year) in
      let next-first = spring-at (suc d.year) (omega arith) (first + 2) (omega arith) in
      ⊎_elim (λ (h : j < first). absurd (omega (arith, earlier d there from j h)))
      (λ (h : first ≤ j).
      ⊎_elim
      (λ (k : j < first + 2).
      ⊎_elim (λ (l : j < first + 1). inl (number-spring d there from (is ∙ spring-at d.year from j (omega arith))))
      (λ (l : first + 1 ≤ j). inr (number-fall d there from (is ∙ fall-at d.year from j (omega arith))))
      (order j (first + 1)))
      (λ (k : first + 2 ≤ j).
      absurd (omega (arith, changes-grow (first + 2) j k, in-year d there from, (turning (suc d.year) (omega arith)).spring-since)))
      (order j (first + 2)))
      (order j first)

  plain-kind : springs d ≡ false → falls d ≡ false → Kind d
  plain-kind s f =
      let b = between d there from in
      let before = changes_before d in
      let quiet : day_number d < change_day before =
      ⊎_elim
      (λ (q : day_number d ≡ change_day before).
      absurd (⊎_elim (λ (t : springs d ≡ true). false≢true (sym s ∙ t)) (λ (t : falls d ≡ true). false≢true (sym f ∙ t)) (change-is before q)))
      (λ (l : day_number d < change_day before). l)
      (eq-or-lt_of_le b.ahead) in
      plain s f
      (only (next d) (next-exists d there) (next-from d from) before
      (record { over = λ j h. omega (arith, number-next, b.over j h); ahead = omega (arith, number-next) }))

  pub kind : Kind d
  kind =
      ⊎_elim spring-kind (λ (s : springs d ≡ false). ⊎_elim fall-kind (λ (f : falls d ≡ false). plain-kind s f) (either (falls d))) (either (springs d))

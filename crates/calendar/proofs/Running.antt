-- The clock that is found runs as the days do. What it is ahead is what daylight time is at the hour, less what it was at the date's midnight; and a
-- change of time is over at an hour exactly when as many hours have passed as the clock says.
use mathlib.Core.Path.{◌≡◌, refl, sym, ap, ◌∙◌}
use mathlib.Core.Logic.{⊎_elim}
use mathlib.Core.Bool.{Bool, true, false, cond}
use Prim.Native.Nat.{ℕ, ◌+◌, ◌-◌, ◌*◌, ◌%◌, ◌<◌, ◌≤◌}
use native.Mathlib.Nat.{add-zero, eq-or-lt_of_le}
use native.Mathlib.Omega.{arith}
use borrow.Author.Tests.{lt-ltb, le-ltb, le-leb, lt-leb, eq-eqb, ne_eqb}
use Rattle.calendar.specs.declared.Date.{Date}
use Rattle.calendar.specs.declared.Clock.{Clock}
use Rattle.calendar.specs.Dates.{next, last_year, day_number, Within}
use Rattle.calendar.specs.Clock.{clock_after, change_day, changes_before, most_passed, turned, shown, clock_from, Follows}
use Rattle.calendar.proofs.Checks.{order}
use Rattle.calendar.proofs.Dates.{next-exists, next-from, next-number, walk, Walked, walked}
use Rattle.calendar.proofs.Changes.{Between, between, only, changes-grow, changes-apart, fourth-far}
use Rattle.calendar.proofs.Days.{At, at, days-few, clock-at, light, hour_by, now_of, day-shows, hours-long}

-- ---- the hour that a clock shows

pub shown-hour : (clock : Clock) (p : ℕ) → shown clock p < 24
shown-hour clock p = by (turned clock p)
  where
    by : (t : Bool) → cond t ((p + clock.ahead) % 24) (p % 24) < 24
    by true = omega arith
    by false = omega arith

module _ (clock : Clock) (p : ℕ) where
  shown-ahead : turned clock p ≡ true → shown clock p ≡ (p + clock.ahead) % 24
  shown-ahead t = ap (λ (t : Bool). cond t ((p + clock.ahead) % 24) (p % 24)) t

  shown-plain : turned clock p ≡ false → shown clock p ≡ p % 24
  shown-plain t = ap (λ (t : Bool). cond t ((p + clock.ahead) % 24) (p % 24)) t

-- ---- at an hour: how many changes are over, and what the clock shows by that

-- the hours passed at a change of time, by those over at the first midnight
abbrev passed_at : ℕ → ℕ → ℕ → ℕ
passed_at number before j = 24 * (change_day j - number) + 2 + before % 2 - j % 2

record Over (d : Date) (passed now : ℕ) : Type 0 where
  hour : clock_after d passed ≡ (passed + 24 + now % 2 - light d) % 24
  since : changes_before d ≤ now
  till : now ≤ changes_before d + 3
  over : (j : ℕ) → changes_before d ≤ j → j < now → passed_at (day_number d) (changes_before d) j ≤ passed
  ahead : (j : ℕ) → changes_before d ≤ j → now ≤ j → passed < passed_at (day_number d) (changes_before d) j

-- in the first two hours of a day as many are over as at its midnight, in the others as many as at the next
module _ (d : Date) (w : Within last_year d) (passed : ℕ) (few : passed < most_passed) (a : At d passed) where
  abbrev day : Date
  day = walk a.days d

  on : Walked d a.days day
  on = walked a.days d w.there w.since

  first : Between d (changes_before d)
  first = between d w.there w.since

  here : Between day (changes_before day)
  here = between day on.there on.since

  there : Between (next day) (changes_before (next day))
  there = between (next day) (next-exists day on.there) (next-from day on.since)

  -- so many hours have passed
  counted : passed + light day ≡ 24 * a.days + light d + a.hour
  counted = omega (arith, a.is, hours-long a.days d w.there w.since)

  -- the clock hour
  hour-is : (now : ℕ) → now_of (light day) (light (next day)) a.hour ≡ now → clock_after d passed ≡ (passed + 24 + now - light d) % 24
  hour-is now is =
      clock-at d passed a
      ∙ (day-shows day on.there on.since).shows a.hour a.within
      ∙ ap (λ (n : ℕ). hour_by (light day) n a.hour) is
      ∙ (let turn : hour_by (light day) now a.hour ≡ (passed + 24 + now - light d) % 24 = omega (arith, counted) in turn)

  -- a change on the day itself
  today : (j : ℕ) → day_number day ≡ change_day j → changes_before day ≡ j
  today j is = only day on.there on.since j (record { over = λ i h. omega (arith, changes-apart i j h); ahead = omega arith })

  to-come : (j : ℕ) → changes_before d ≤ j → day_number d ≤ change_day j
  to-come j h = omega (arith, first.ahead, changes-grow (changes_before d) j h)

  -- as many as are over at a midnight of the horizon: as many as at the first, and three more at most
  some : (now : ℕ) → day_number d ≤ change_day now → changes_before d ≤ now
  some now h =
      ⊎_elim (λ (l : now < changes_before d). absurd (omega (arith, first.over now l))) (λ (l : changes_before d ≤ now). l) (order now (changes_before d))

  three : (now : ℕ) → ((j : ℕ) → j < now → change_day j < day_number d + 474) → now ≤ changes_before d + 3
  three now h =
      let fourth = changes_before d + 3 in
      ⊎_elim (λ (l : fourth < now). absurd (omega (arith, h fourth l, first.ahead, fourth-far (changes_before d)))) (λ (l : now ≤ fourth). l) (order fourth now)

  early : a.hour < 2 → Over d passed (changes_before day)
  early h =
      let now = changes_before day in
      record {
        hour = hour-is (light day) (ap (λ (t : Bool). cond t (light day) (light (next day))) (lt-ltb a.hour 2 h));
        since = some now (omega (arith, here.ahead, on.number));
        till = three now (λ j k. omega (arith, here.over j k, on.number, days-few d passed a));
        over = λ j s k. omega (arith, counted, to-come j s, here.over j k, on.number);
        ahead =
            λ j s k.
            let up : day_number day ≤ change_day j = omega (arith, here.ahead, changes-grow now j k) in
            ⊎_elim (λ (q : day_number day ≡ change_day j). omega (arith, counted, today j q, on.number))
            (λ (l : day_number day < change_day j). omega (arith, counted, on.number))
            (eq-or-lt_of_le up);
      }

  late : 2 ≤ a.hour → Over d passed (changes_before (next day))
  late h =
      let now = changes_before (next day) in
      let one = next-number day on.there on.since in
      record {
        hour = hour-is (light (next day)) (ap (λ (t : Bool). cond t (light day) (light (next day))) (le-ltb a.hour 2 h));
        since = some now (omega (arith, there.ahead, one, on.number));
        till = three now (λ j k. omega (arith, there.over j k, one, on.number, days-few d passed a));
        over =
            λ j s k.
            let down : change_day j ≤ day_number day = omega (arith, there.over j k, one) in
            ⊎_elim (λ (q : change_day j ≡ day_number day). omega (arith, counted, today j (sym q), on.number))
            (λ (l : change_day j < day_number day). omega (arith, counted, to-come j s, on.number))
            (eq-or-lt_of_le down);
        ahead =
            λ j s k.
            omega (arith, counted, a.within, (day-shows day on.there on.since).long, there.ahead, one, on.number, changes-grow now j k);
      }

  moment : (now : ℕ) × Over d passed now
  moment = ⊎_elim (λ (h : a.hour < 2). (changes_before day, early h)) (λ (h : 2 ≤ a.hour). (changes_before (next day), late h)) (order a.hour 2)

-- ---- so the clock shows it

-- whether an odd number of the three is over
module _ (clock : Clock) (p : ℕ) where
  none_over : p < clock.first → turned clock p ≡ false
  none_over a = simp (lt-leb clock.first p a)

  one-over : clock.first ≤ p → p < clock.second → turned clock p ≡ true
  one-over a b = simp (le-leb clock.first p a, lt-ltb p clock.second b)

  two-over : clock.first ≤ p → clock.second ≤ p → p < clock.third → turned clock p ≡ false
  two-over a b c = simp (le-leb clock.first p a, le-ltb p clock.second b, lt-leb clock.third p c)

  three-over : clock.first ≤ p → clock.second ≤ p → clock.third ≤ p → turned clock p ≡ true
  three-over a b c = simp (le-leb clock.first p a, le-ltb p clock.second b, le-leb clock.third p c)

-- a clock by the hours passed at the next three changes
record Timed (d : Date) (clock : Clock) : Type 0 where
  first : clock.first ≡ passed_at (day_number d) (changes_before d) (changes_before d + 0)
  second : clock.second ≡ passed_at (day_number d) (changes_before d) (changes_before d + 1)
  third : clock.third ≡ passed_at (day_number d) (changes_before d) (changes_before d + 2)
  ahead : clock.ahead + 2 * light d ≡ 1 + 24 * light d

timed : (d : Date) → Timed d (clock_from d)
unfolding clock_from
timed d =
    let before = changes_before d in
    let first = ap change_day (add-zero before) in
    ⊎_elim
    (λ (even : before % 2 < 1).
    rw (eq-eqb (before % 2) 0 (omega arith))
    (record { first = omega arith; second = omega arith; third = omega arith; ahead = omega arith }))
    (λ (odd : 1 ≤ before % 2).
    rw (ne_eqb (before % 2) 0 (λ (z : before % 2 ≡ 0). omega arith))
    (record { first = omega arith; second = omega arith; third = omega arith; ahead = omega arith }))
    (order (before % 2) 1)

module _ (d : Date) (passed now : ℕ) (o : Over d passed now) (clock : Clock) (t : Timed d clock) where
  -- which of the three are over
  in-turn : (i at : ℕ) → at ≡ passed_at (day_number d) (changes_before d) (changes_before d + i)
      → (changes_before d + i < now → at ≤ passed) × (now ≤ changes_before d + i → passed < at)
  in-turn i at is =
      (λ h. omega (arith, is, o.over (changes_before d + i) (omega arith) h), λ h. omega (arith, is, o.ahead (changes_before d + i) (omega arith) h))

  even : turned clock passed ≡ false → now % 2 ≡ light d → clock_after d passed ≡ shown clock passed
  even is same = let e : (passed + 24 + now % 2 - light d) % 24 ≡ passed % 24 = omega arith in o.hour ∙ e ∙ sym (shown-plain clock passed is)

  odd : turned clock passed ≡ true → now % 2 + light d ≡ 1 → clock_after d passed ≡ shown clock passed
  odd is other =
      let e : (passed + 24 + now % 2 - light d) % 24 ≡ (passed + clock.ahead) % 24 = omega (arith, t.ahead) in
      o.hour ∙ e ∙ sym (shown-ahead clock passed is)

  same-hour : clock_after d passed ≡ shown clock passed
  same-hour =
      let before = changes_before d in
      let one = in-turn 0 clock.first t.first in
      let two = in-turn 1 clock.second t.second in
      let three = in-turn 2 clock.third t.third in
      ⊎_elim
      (λ (a : before + 0 < now).
      ⊎_elim
      (λ (b : before + 1 < now).
      ⊎_elim (λ (c : before + 2 < now). odd (three-over clock passed (one.0 a) (two.0 b) (three.0 c)) (omega (arith, o.till)))
      (λ (c : now ≤ before + 2). even (two-over clock passed (one.0 a) (two.0 b) (three.1 c)) (omega arith))
      (order (before + 2) now))
      (λ (b : now ≤ before + 1). odd (one-over clock passed (one.0 a) (two.1 b)) (omega arith))
      (order (before + 1) now))
      (λ (a : now ≤ before + 0). even (none_over clock passed (one.1 a)) (omega (arith, o.since)))
      (order (before + 0) now)

pub follows : (d : Date) → Within last_year d → Follows d (clock_from d)
follows d w = record {
  found = refl;
  same = λ p h. let m = moment d w p h (at p d p (omega arith)) in same-hour d p m.0 m.1 (clock_from d) (timed d);
  small = omega (arith, (timed d).ahead);
}

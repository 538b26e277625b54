-- The clock hours of a day: three kinds of day, how many hours each has, and which. Those of days one after the other, and the day and hour when so
-- many hours have passed.
use mathlib.Core.Path.{◌≡◌, refl, sym, ap, ◌∙◌}
use mathlib.Core.Logic.{⊎_elim}
use mathlib.Core.Bool.{Bool, true, false, ◌&&◌, cond}
use mathlib.Core.List.{List, ◌++◌}
use Prim.Native.Nat.{ℕ, zero, suc, ◌+◌, ◌-◌, ◌*◌, ◌/◌, ◌%◌, ◌<◌, ◌≤◌}
use native.Mathlib.Nat.{le_of_suc-le-suc, zero-add}
use native.Mathlib.Omega.{arith}
use lib.Dec.{eqb, leb, ltb}
use lib.ListN.{length, get_or, length-append, get_or-append}
use lib.Seq.{get_or-append-add}
use borrow.Author.Tests.{lt-ltb, le-ltb}
use Rattle.calendar.specs.declared.Date.{Date}
use Rattle.calendar.specs.Dates.{exists, next, first_year, is_sunday}
use Rattle.calendar.specs.Clock.{springs, falls, plain_hours, spring_hours, fall_hours, hours_of, hours_over, clock_after, changes_before}
use Rattle.calendar.proofs.Checks.{alike, either, order}
use Rattle.calendar.proofs.Dates.{next-exists, next-from, walk}
use Rattle.calendar.proofs.Changes.{fall-parts, Kind, plain, spring, fall, kind}

-- ---- a day has 23 hours, 25 or 24

pub spring-hours : (d : Date) → springs d ≡ true → hours_of d ≡ spring_hours
unfolding hours_of
spring-hours d s = ap (λ (t : Bool). cond t spring_hours (cond (falls d) fall_hours plain_hours)) s

fall-not-spring : (d : Date) → falls d ≡ true → springs d ≡ false
fall-not-spring d f = ap (λ (m : ℕ). eqb m 3 && leb 8 d.day && leb d.day 14 && is_sunday d) (fall-parts d f).0

pub fall-hours : (d : Date) → falls d ≡ true → hours_of d ≡ fall_hours
unfolding hours_of
fall-hours d f =
    ap (λ (t : Bool). cond t spring_hours (cond (falls d) fall_hours plain_hours)) (fall-not-spring d f)
    ∙ ap (λ (t : Bool). cond t fall_hours plain_hours) f

pub plain-hours : (d : Date) → springs d ≡ false → falls d ≡ false → hours_of d ≡ plain_hours
unfolding hours_of
plain-hours d s f =
    ap (λ (t : Bool). cond t spring_hours (cond (falls d) fall_hours plain_hours)) s ∙ ap (λ (t : Bool). cond t fall_hours plain_hours) f

spring-long : (d : Date) → springs d ≡ true → length (hours_of d) ≡ 23
spring-long d s = ap length (spring-hours d s)

fall-long : (d : Date) → falls d ≡ true → length (hours_of d) ≡ 25
fall-long d f = ap length (fall-hours d f)

plain-long : (d : Date) → springs d ≡ false → falls d ≡ false → length (hours_of d) ≡ 24
plain-long d s f = ap length (plain-hours d s f)

-- ---- as the clock runs: a day's first two hours as at its midnight, the others as at the next

-- the clock hour of a day's hour, when daylight time is on (1) or off (0) at its midnight and at the hour
abbrev pub hour_by : ℕ → ℕ → ℕ → ℕ
hour_by first now hour = (hour + 24 + now - first) % 24

abbrev pub now_of : ℕ → ℕ → ℕ → ℕ
now_of first last hour = cond (ltb hour 2) first last

pub record Shows (hours : List ℕ) (first last : ℕ) : Type 0 where
  pub long : length hours + last ≡ 24 + first
  pub shows : (hour : ℕ) → hour < length hours → get_or hours hour 0 ≡ hour_by first (now_of first last hour) hour

spring-shows : Shows spring_hours 0 1
spring-shows = record { long = refl; shows = alike (λ h. get_or spring_hours h 0) (λ h. hour_by 0 (now_of 0 1 h) h) 23 refl }

fall-shows : Shows fall_hours 1 0
fall-shows = record { long = refl; shows = alike (λ h. get_or fall_hours h 0) (λ h. hour_by 1 (now_of 1 0 h) h) 25 refl }

plain-shows : (on : ℕ) → Shows plain_hours on on
plain-shows on = record {
  long = refl;
  shows =
      λ hour h.
      let same : now_of on on hour ≡ on =
      ⊎_elim (λ (l : hour < 2). ap (λ (t : Bool). cond t on on) (lt-ltb hour 2 l)) (λ (l : 2 ≤ hour). ap (λ (t : Bool). cond t on on) (le-ltb hour 2 l))
      (order hour 2) in
      alike (λ h. get_or plain_hours h 0) (λ h. h % 24) 24 refl hour h
      ∙ (let back : hour % 24 ≡ hour_by on on hour = omega arith in back)
      ∙ ap (λ (n : ℕ). hour_by on n hour) (sym same);
}

-- whether daylight time is on at a date's midnight
abbrev pub light : Date → ℕ
light d = changes_before d % 2

pub day-shows : (d : Date) → exists d ≡ true → first_year ≤ d.year → Shows (hours_of d) (light d) (light (next d))
day-shows d there from = by (kind d there from)
  where
    by : Kind d → Shows (hours_of d) (light d) (light (next d))
    by (plain s f same) = rw (plain-hours d s f, same) (plain-shows (light d))
    by (spring s even one) =
        let odd : light (next d) ≡ 1 = omega arith in
        rw (spring-hours d s, even, odd) spring-shows
    by (fall f odd one) =
        let even : light (next d) ≡ 0 = omega arith in
        rw (fall-hours d f, odd, even) fall-shows

-- ---- days one after the other: so many days on, daylight time has made up for the hours that are missing or came twice

pub hours-long : (n : ℕ) (d : Date) → exists d ≡ true → first_year ≤ d.year → length (hours_over n d) + light (walk n d) ≡ 24 * n + light d
hours-long zero d there from = refl
hours-long (suc n) d there from =
    let rest = hours-long n (next d) (next-exists d there) (next-from d from) in
    omega (arith, length-append (hours_of d) (hours_over n (next d)), (day-shows d there from).long)

-- ---- the day and its hour when so many hours have passed

pub day-long : (d : Date) → 23 ≤ length (hours_of d)
day-long d =
    ⊎_elim (λ (s : springs d ≡ true). let n = spring-long d s in omega arith)
    (λ (s : springs d ≡ false).
    ⊎_elim (λ (f : falls d ≡ true). let n = fall-long d f in omega arith) (λ (f : falls d ≡ false). let n = plain-long d s f in omega arith)
    (either (falls d)))
    (either (springs d))

days-long : (n : ℕ) (d : Date) → 23 * n ≤ length (hours_over n d)
days-long zero d = omega arith
days-long (suc n) d = omega (arith, length-append (hours_of d) (hours_over n (next d)), day-long d, days-long n (next d))

pub record At (d : Date) (passed : ℕ) : Type 0 where
  pub days : ℕ
  pub hour : ℕ
  pub is : passed ≡ length (hours_over days d) + hour
  pub within : hour < length (hours_of (walk days d))

pub at : (most : ℕ) (d : Date) (passed : ℕ) → passed ≤ most → At d passed
at zero d passed h = record { days = 0; hour = passed; is = omega arith; within = omega (arith, day-long d) }
at (suc most) d passed h =
    let day = length (hours_of d) in
    ⊎_elim (λ (l : passed < day). record { days = 0; hour = passed; is = omega arith; within = l })
    (λ (l : day ≤ passed).
    let rest = at most (next d) (passed - day) (omega (arith, day-long d)) in
    record {
      days = suc rest.days;
      hour = rest.hour;
      is = omega (arith, rest.is, length-append (hours_of d) (hours_over rest.days (next d)));
      within = rest.within;
    })
    (order passed day)

hour-in : (n k : ℕ) (d : Date) (hour : ℕ) → n < k → hour < length (hours_of (walk n d))
    → get_or (hours_over k d) (length (hours_over n d) + hour) 0 ≡ get_or (hours_of (walk n d)) hour 0
hour-in n zero d hour h l = absurd (omega arith)
hour-in zero (suc k) d hour h l =
    ap (λ (i : ℕ). get_or (hours_of d ++ hours_over k (next d)) i 0) (zero-add hour) ∙ get_or-append (hours_of d) (hours_over k (next d)) 0 hour l
hour-in (suc n) (suc k) d hour h l =
    let rest = hours_over n (next d) in
    let at : length (hours_of d ++ rest) + hour ≡ length (hours_of d) + (length rest + hour) = omega (arith, length-append (hours_of d) rest) in
    ap (λ (i : ℕ). get_or (hours_of d ++ hours_over k (next d)) i 0) at
    ∙ get_or-append-add (hours_of d) (hours_over k (next d)) (length rest + hour) 0
    ∙ hour-in n k (next d) hour (le_of_suc-le-suc h) l

module _ (d : Date) (passed : ℕ) (a : At d passed) where
  pub days-few : 23 * a.days ≤ passed
  days-few = omega (arith, a.is, days-long a.days d)

  pub clock-at : clock_after d passed ≡ get_or (hours_of (walk a.days d)) a.hour 0
  unfolding clock_after
  clock-at =
      let k = suc (passed / 23) in
      ap (λ (i : ℕ). get_or (hours_over k d) i 0) a.is ∙ hour-in a.days k d a.hour (omega (arith, days-few)) a.within

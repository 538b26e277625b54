-- A case with months inside it as a machine: what the watch of the months passes is what keeps every month, so the best schedule that does is found step
-- by step.
use Rattle.std.specs.Prelude.{None}
use mathlib.Core.Path.{◌≡◌, refl, sym, ap, ap₂, ◌∙◌, fun_ext}
use mathlib.Core.Bool.{Bool, true, false, cond, ◌&&◌, and-false}
use mathlib.Core.List.{List, [], ◌∷◌, ◌++◌, map}
use Prim.Native.Nat.{ℕ, zero, suc, ◌≤◌, min}
use native.Mathlib.Nat.{zero-add}
use native.Mathlib.Omega.{arith}
use lib.IntN.{ℤ}
use lib.ListN.{length, take, drop, length-take, length-drop, length-map, take-append-drop}
use Rattle.commitment.specs.Types.{Limit}
use Rattle.commitment.specs.declared.Limits.{Limits}
use Rattle.commitment.specs.Types.{BestProfit}
use Rattle.commitment.specs.declared.UnitRecord.{UnitRecord}
use Rattle.commitment.specs.Best.{Plan, nothing, plan, outputs, lists, first_best}
use Rattle.commitment.specs.Keeping.{was_on, opens_in, starts_in, on_intervals, output_sum, keeps_case}
use Rattle.commitment.specs.Months.{Month, on_after, keeps_in, keeps_months, intervals_of, candidate_in, best_in}
use Rattle.commitment.specs.Profit.{profit}
use Rattle.optimality.specs.Machine.{Step, stop, go, allow, Quarter, in_quarter, anywhere, along, after, run, best_from}
use Rattle.optimality.specs.Cells.{quarters_of}
use Rattle.optimality.specs.Watched.{Watch, beside, passes, watched, unwatched}
use Rattle.optimality.specs.Years.{Anew, same, anew, YearQuarter, in_month, month_from, year_quarters, in_year}
use Rattle.optimality.proofs.Machine.{map-append, along-ext, optimal}
use Rattle.optimality.proofs.Quarters.{quarters-length}
use Rattle.optimality.proofs.Watched.{run-watched}
use Rattle.optimality.proofs.Commit.{Status, commit, before, affords, spend, scaled, within-counted, affords-none, affords-sum, affords-one}
use Rattle.optimality.proofs.Commit.{hours-last, candidate-run, lists-ext}

-- ---- the watch: on or off, and what is left of the month's starts, on-intervals and outputs

pub data Spare : Type 0 where
  spare : Bool → Limit → Limit → Limit → Spare

abbrev pub refilled : Anew → Spare → Spare
refilled same v = v
refilled (anew l) (spare on a b c) = spare on (scaled 1 l.starts) (scaled 4 l.hours) (scaled 4 l.mwh)

abbrev pub spares : Spare → ℕ → Bool
spares v zero = true
spares (spare true a b c) (suc m) = affords b 1 && affords c (suc m)
spares (spare false a b c) (suc m) = affords a 1 && affords b 1 && affords c (suc m)

abbrev pub sparing : Spare → ℕ → Spare
sparing (spare on a b c) zero = spare false a b c
sparing (spare true a b c) (suc m) = spare true a (spend b 1) (spend c (suc m))
sparing (spare false a b c) (suc m) = spare true (spend a 1) (spend b 1) (spend c (suc m))

abbrev pub month_watch : Watch Spare YearQuarter
month_watch =
    record {
      allows = λ v q m. spares (refilled q.month v) m;
      sees = λ v q m. sparing (refilled q.month v) m;
    }

abbrev passed : List YearQuarter → Spare → List ℕ → Bool
passed = passes Spare YearQuarter month_watch

-- ---- one month

pull-on : (b c A B C K : Bool) → ((b && c) && ((A && B && C) && K)) ≡ ((A && (b && B) && (c && C)) && K)
pull-on true true A B C K = refl
pull-on true false A B C K = simp and-false
pull-on false c A B C K = simp and-false

pull-start : (a b c A B C K : Bool) → ((a && b && c) && ((A && B && C) && K)) ≡ (((a && A) && (b && B) && (c && C)) && K)
pull-start true b c A B C K = pull-on b c A B C K
pull-start false b c A B C K = refl

-- what is left of it within what the limits afford
abbrev keeps_left : Bool → Limit → Limit → Limit → List ℕ → Bool
keeps_left on a b c s = affords a (starts_in on s) && affords b (on_intervals s) && affords c (output_sum s)

-- where the later quarters pass by the state alone
module _ (later : List YearQuarter) (rest : List ℕ) (after : Bool → Bool)
    (alone : (on : Bool) (a b c : Limit) → passed later (spare on a b c) rest ≡ after on) where
  month-passes : (qs : List Quarter) (s : List ℕ) (on : Bool) (a b c : Limit) → length s ≡ length qs
      → passed (map in_month qs ++ later) (spare on a b c) (s ++ rest) ≡ (keeps_left on a b c s && after (on_after on s))
  month-passes [] [] on a b c e = alone on a b c ∙ simp (affords-none a, affords-none b, affords-none c)
  month-passes [] (m ∷ s) on a b c e = absurd (omega arith)
  month-passes (q ∷ qs) [] on a b c e = absurd (omega arith)
  month-passes (q ∷ qs) (zero ∷ s) on a b c e = rw (zero-add (output_sum s)) (month-passes qs s false a b c (omega arith))
  month-passes (q ∷ qs) (suc m ∷ s) true a b c e =
      ap (λ (t : Bool). (affords b 1 && affords c (suc m)) && t) (month-passes qs s true a (spend b 1) (spend c (suc m)) (omega arith))
      ∙ rw (affords-one b (on_intervals s), affords-sum c (suc m) (output_sum s))
      (pull-on (affords b 1) (affords c (suc m)) (affords a (starts_in true s)) (affords (spend b 1) (on_intervals s))
      (affords (spend c (suc m)) (output_sum s)) (after (on_after true s)))
  month-passes (q ∷ qs) (suc m ∷ s) false a b c e =
      ap (λ (t : Bool). (affords a 1 && affords b 1 && affords c (suc m)) && t)
      (month-passes qs s true (spend a 1) (spend b 1) (spend c (suc m)) (omega arith))
      ∙ rw (affords-one a (starts_in true s), affords-one b (on_intervals s), affords-sum c (suc m) (output_sum s))
      (pull-start (affords a 1) (affords b 1) (affords c (suc m)) (affords (spend a 1) (starts_in true s)) (affords (spend b 1) (on_intervals s))
      (affords (spend c (suc m)) (output_sum s)) (after (on_after true s)))

  -- from its first quarter on the figures stand anew
  from_first : (limits : Limits) (qs : List Quarter) (s : List ℕ) (on : Bool) (a b c : Limit) → length s ≡ length qs
      → passed (month_from limits qs ++ later) (spare on a b c) (s ++ rest) ≡ (keeps_in limits on s && after (on_after on s))
  from_first limits [] [] on a b c e = alone on a b c ∙ simp (within-counted, affords-none)
  from_first limits [] (m ∷ s) on a b c e = absurd (omega arith)
  from_first limits (q ∷ qs) [] on a b c e = absurd (omega arith)
  from_first limits (q ∷ qs) (m ∷ s) on a b c e =
      simp within-counted (month-passes (q ∷ qs) (m ∷ s) on (scaled 1 limits.starts) (scaled 4 limits.hours) (scaled 4 limits.mwh) e)

-- ---- all months

pub months-pass : (ms : List Month) (qs : List Quarter) (s : List ℕ) (on : Bool) (a b c : Limit) → length s ≡ length qs
    → passed (year_quarters ms qs) (spare on a b c) s ≡ keeps_months ms on s
months-pass [] qs s on a b c e = refl
months-pass (m ∷ ms) qs s on a b c e =
    let n = m.long in
    let front : length (take n s) ≡ length (take n qs) = simp length-take (ap (min n) e) in
    let back : length (drop n s) ≡ length (drop n qs) = simp length-drop (omega arith) in
    ap (passed (year_quarters (m ∷ ms) qs) (spare on a b c)) (sym (take-append-drop n s))
    ∙ from_first (year_quarters ms (drop n qs)) (drop n s) (λ on'. keeps_months ms on' (drop n s))
    (λ on' a' b' c'. months-pass ms (drop n qs) (drop n s) on' a' b' c' back)
    m.limits (take n qs) (take n s) on a b c front

-- ---- the quarters of a year are those of the horizon

abbrev plain : YearQuarter → Quarter
plain q = q.quarter

plain-month : (qs : List Quarter) → map plain (map in_month qs) ≡ qs
plain-month [] = refl
plain-month (q ∷ qs) = ap (◌∷◌ q) (plain-month qs)

plain-first : (limits : Limits) (qs : List Quarter) (later : List YearQuarter) → map plain (month_from limits qs ++ later) ≡ qs ++ map plain later
plain-first limits [] later = refl
plain-first limits (q ∷ qs) later = ap (◌∷◌ q) (map-append plain (map in_month qs) later ∙ ap (λ (z : List Quarter). z ++ map plain later) (plain-month qs))

pub year-plain : (ms : List Month) (qs : List Quarter) → length qs ≤ intervals_of ms → map plain (year_quarters ms qs) ≡ qs
year-plain [] [] h = refl
year-plain [] (q ∷ qs) h = absurd (omega arith)
year-plain (m ∷ ms) qs h =
    plain-first m.limits (take m.long qs) (year_quarters ms (drop m.long qs))
    ∙ ap (λ (z : List Quarter). take m.long qs ++ z) (year-plain ms (drop m.long qs) (simp length-drop (omega arith)))
    ∙ take-append-drop m.long qs

module _ {State : Type 0} (step : State → Quarter → ℕ → Step State) (ends : State → BestProfit) where
  run-plain : (is : List YearQuarter) (x : State) (s : List ℕ)
      → run State YearQuarter (in_year step) ends is x s ≡ run State Quarter step ends (map plain is) x s
  run-plain [] x [] = refl
  run-plain [] x (m ∷ s) = refl
  run-plain (i ∷ is) x [] = refl
  run-plain (i ∷ is) x (m ∷ s) =
      along-ext m (step x i.quarter m) (λ y. run State YearQuarter (in_year step) ends is y s) (λ y. run State Quarter step ends (map plain is) y s)
      (λ y. run-plain is y s)

-- ---- the best of all schedules that keep every month

module _ (u : UnitRecord) where
  -- the machine of the year, and where it begins
  abbrev pub year_step : Status × Spare → YearQuarter → ℕ → Step (Status × Spare)
  year_step = watched Status Spare YearQuarter (in_year (in_quarter (commit u))) month_watch

  abbrev pub year_before : Status × Spare
  year_before = (before u, spare (was_on u.opening) None None None)

  module _ (months : List Month) (prices : List ℤ) (whole : length prices ≤ intervals_of months) where
    abbrev quarters : List YearQuarter
    quarters = year_quarters months (quarters_of u prices)

    plains : map plain quarters ≡ quarters_of u prices
    plains = year-plain months (quarters_of u prices) (rw (quarters-length (opens_in u.permit) 0 prices) whole)

    candidate-year : (s : List ℕ) → length s ≡ length prices
        → candidate_in u months prices s ≡ run (Status × Spare) YearQuarter year_step (unwatched anywhere) quarters year_before s
    candidate-year s e =
        let kept = keeps_months months (was_on u.opening) s in
        let runs = run Status Quarter (in_quarter (commit u)) anywhere (quarters_of u prices) (before u) s in
        hours-last (keeps_case u s) kept (plan s (profit u prices s))
        ∙ ap (λ (p : Plan). cond kept p nothing) (candidate-run u prices s e)
        ∙ ap₂ (λ (t : Bool) (p : Plan). cond t p nothing)
        (sym (months-pass months (quarters_of u prices) s (was_on u.opening) None None None (e ∙ sym (quarters-length (opens_in u.permit) 0 prices))))
        (sym (run-plain (in_quarter (commit u)) anywhere quarters (before u) s
        ∙ ap (λ (qs : List Quarter). run Status Quarter (in_quarter (commit u)) anywhere qs (before u) s) plains))
        ∙ sym (run-watched Status Spare YearQuarter (in_year (in_quarter (commit u))) month_watch anywhere quarters (before u)
        (spare (was_on u.opening) None None None) s)

    year-length : length quarters ≡ length prices
    year-length = sym (length-map quarters plain) ∙ ap length plains ∙ quarters-length (opens_in u.permit) 0 prices

    pub best-year : best_in u months prices
        ≡ best_from (Status × Spare) YearQuarter year_step (unwatched anywhere) (outputs u.generator) quarters year_before
    best-year =
        let ms = outputs u.generator in
        let runs = run (Status × Spare) YearQuarter year_step (unwatched anywhere) quarters year_before in
        ap first_best (lists-ext ms (length prices) (candidate_in u months prices) runs candidate-year)
        ∙ ap (λ (n : ℕ). first_best (map runs (lists ms n))) (sym year-length)
        ∙ optimal (Status × Spare) YearQuarter year_step (unwatched anywhere) ms quarters year_before

  -- ---- a watch without figures allows all

  free-along : (m : ℕ) (on : Bool) (r : Step Status) (both : Status × Spare → Plan) (alone : Status → Plan)
      → ((y : Status) (on' : Bool) → both (y, spare on' None None None) ≡ alone y)
      → along m (allow (spares (spare on None None None) m) (beside (sparing (spare on None None None) m) r)) both ≡ along m r alone
  free-along zero on stop both alone h = refl
  free-along zero on (go g y) both alone h = ap (after zero g) (h y false)
  free-along (suc m) true stop both alone h = refl
  free-along (suc m) true (go g y) both alone h = ap (after (suc m) g) (h y true)
  free-along (suc m) false stop both alone h = refl
  free-along (suc m) false (go g y) both alone h = ap (after (suc m) g) (h y true)

  pub free : (ends : Status → BestProfit) (outputs : List ℕ) (qs : List Quarter) (x : Status) (on : Bool)
      → best_from (Status × Spare) YearQuarter year_step (unwatched ends) outputs (map in_month qs) (x, spare on None None None)
      ≡ best_from Status Quarter (in_quarter (commit u)) ends outputs qs x
  free ends outputs [] x on = refl
  free ends outputs (q ∷ qs) x on =
      let both = best_from (Status × Spare) YearQuarter year_step (unwatched ends) outputs (map in_month qs) in
      let alone = best_from Status Quarter (in_quarter (commit u)) ends outputs qs in
      ap (λ (f : ℕ → Plan). first_best (map f outputs))
      (fun_ext (λ m. free-along m on (in_quarter (commit u) x q m) both alone (λ y on'. free ends outputs qs y on')))

-- The clock hours of intervals: what it says that a date and an interval pass, and the hours of intervals one after the other.
use Rattle.std.specs.Prelude.{Ok}
use mathlib.Core.Path.{◌≡◌, refl, sym, ap, ap₂, ◌∙◌}
use mathlib.Core.Bool.{true, ◌&&◌}
use mathlib.Core.List.{List, [], ◌∷◌, ◌++◌}
use Prim.Native.Nat.{ℕ, zero, suc, ◌+◌, ◌-◌, ◌/◌, ◌<◌, ◌≤◌}
use native.Mathlib.Nat.{le_of_suc-le-suc}
use native.Mathlib.Numerals.{add-one}
use native.Mathlib.Omega.{arith}
use borrow.Author.Tests.{leb-true, le-leb}
use lib.Dec.{leb}
use lib.ListN.{length, get_or}
use Rattle.lists.proofs.Conjunctions.{both}
use Rattle.calendar.specs.declared.Date.{Date}
use Rattle.calendar.specs.Dates.{exists, last_year, Within}
use Rattle.calendar.specs.Clock.{clock_after}
use Rattle.commitment.specs.declared.Cause.TheVariants as cause
use Rattle.commitment.specs.Types.{Checked}
use Rattle.commitment.specs.Bounds.{most_horizon}
use Rattle.commitment.specs.Ranges.{date_ranged, horizon_kept}
use Rattle.commitment.proofs.Causes.{unless-passed}
use Rattle.commitment.proofs.Clocks.{date-within}
use Rattle.checking.specs.Clock.{clock_checked, clock_by, clock_hour, each_from, hours_by, hours_left}

pub record ClockKept (d : Date) (interval : ℕ) : Type 0 where
  pub dated : Within last_year d
  pub least : 1 ≤ interval
  pub most : interval ≤ most_horizon

pub clock-kept : (d : Date) (interval : ℕ) → clock_checked d interval ≡ Ok tt → ClockKept d interval
clock-kept d interval e =
    let a = unless-passed (date_ranged d && horizon_kept interval) cause.Range _ e in
    let b = unless-passed (exists d) cause.Date (Ok tt) a.1 in
    let r = both (date_ranged d) (horizon_kept interval) a.0 in
    let h = both (leb 1 interval) (leb interval most_horizon) r.1 in
    record {
      dated = date-within d r.0 b.0;
      least = leb-true 1 interval h.0;
      most = leb-true interval most_horizon h.1;
    }

-- ---- an hour for each of so many intervals

pub each-count : (hour : ℕ → ℕ) (first count : ℕ) → length (each_from hour first count) ≡ count
each-count hour first zero = refl
each-count hour first (suc count) = ap suc (each-count hour (suc first) count)

each_more : (hour : ℕ → ℕ) (first count : ℕ) → each_from hour first (suc count) ≡ each_from hour first count ++ (hour (first + count) ∷ [])
each_more hour first zero = ap (λ (n : ℕ). hour n ∷ []) (let z : first ≡ first + 0 = omega arith in z)
each_more hour first (suc count) =
    ap (λ (l : List ℕ). hour first ∷ l)
    (each_more hour (suc first) count
    ∙ ap (λ (n : ℕ). each_from hour (suc first) count ++ (hour n ∷ [])) (let z : suc first + count ≡ first + suc count = omega arith in z))

pub each_next : (hour : ℕ → ℕ) (count : ℕ) → each_from hour 0 (count + 1) ≡ each_from hour 0 count ++ (hour count ∷ [])
each_next hour count =
    ap (each_from hour 0) (add-one count)
    ∙ each_more hour 0 count
    ∙ ap (λ (n : ℕ). each_from hour 0 count ++ (hour n ∷ [])) (let z : 0 + count ≡ count = omega arith in z)

pub each-alike : (f g : ℕ → ℕ) (first count : ℕ) → ((i : ℕ) → i < first + count → f i ≡ g i) → each_from f first count ≡ each_from g first count
each-alike f g first zero same = refl
each-alike f g first (suc count) same =
    ap₂ (λ (h : ℕ) (l : List ℕ). h ∷ l) (same first (omega arith)) (each-alike f g (suc first) count (λ i h. same i (omega arith)))

each_at : (hour : ℕ → ℕ) (first count i : ℕ) → i < count → get_or (each_from hour first count) i 0 ≡ hour (first + i)
each_at hour first zero i h = absurd (omega arith)
each_at hour first (suc count) zero h = ap hour (let z : first ≡ first + 0 = omega arith in z)
each_at hour first (suc count) (suc i) h =
    each_at hour (suc first) count i (le_of_suc-le-suc h) ∙ ap hour (let z : suc first + i ≡ first + suc i = omega arith in z)

-- ---- an entry of the slice is what the call for its interval answers

pub entry-is : (d : Date) (was : List ℕ) (i : ℕ) → clock_checked d (length was) ≡ Ok tt → i < length was
    → clock_hour d (suc i) ≡ Ok (get_or (hours_left d was) i 0)
unfolding hours_left
entry-is d was i passed h =
    let a = unless-passed (date_ranged d && horizon_kept (length was)) cause.Range _ passed in
    let b = unless-passed (exists d) cause.Date (Ok tt) a.1 in
    let r = both (date_ranged d) (horizon_kept (length was)) a.0 in
    let most = (clock-kept d (length was) passed).most in
    let within : horizon_kept (suc i) ≡ true = simp (le-leb 1 (suc i) (omega arith), le-leb (suc i) most_horizon (omega arith)) in
    let so : clock_checked d (suc i) ≡ Ok tt = simp (r.0, within, b.0) in
    let at : suc i - 1 ≡ 0 + i = omega arith in
    let hour : ℕ → ℕ = λ i. clock_after d (i / 4) in
    ap (λ (k : Checked). clock_by k (hour (suc i - 1))) so
    ∙ ap (λ (n : ℕ). Ok (hour n)) at
    ∙ sym (ap (λ (k : Checked). Ok (get_or (hours_by k d was) i 0)) passed ∙ ap Ok (each_at hour 0 (length was) i h))

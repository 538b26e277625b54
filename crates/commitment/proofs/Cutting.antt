-- The months of a horizon have all its intervals; its cuts grow, they end with it, and the months between them are those of the calendar.
use mathlib.Core.Path.{◌≡◌, refl, sym, ap, ap₂, ◌∙◌}
use mathlib.Core.Logic.{⊎_elim}
use mathlib.Core.List.{List, [], ◌∷◌, map}
use Prim.Native.Nat.{ℕ, zero, suc, ◌+◌, ◌-◌, ◌≤◌, ◌<◌, min}
use native.Mathlib.Nat.{eq-or-lt_of_le, min-eq_left, min-eq_right}
use native.Mathlib.Omega.{arith}
use lib.ListN.{length, drop, get_or}
use Rattle.calendar.specs.declared.Date.{Date}
use Rattle.calendar.specs.Dates.{last_year, Within}
use Rattle.calendar.specs.Months.{year_intervals, most_months, month_of, month_begins}
use Rattle.calendar.proofs.Months.{month-least, has-begun, to-begin, begins-first, begins-grow, months-few}
use Rattle.commitment.specs.declared.Limits.{Limits}
use Rattle.commitment.specs.declared.cuts.Cuts.{Cuts}
use Rattle.commitment.specs.Months.{Month, intervals_of, month_ends, months_from, months_of}
use Rattle.commitment.specs.Cuts.{months_between, CutsOf}

-- ---- months between cuts

module _ (limits : Limits) (cuts : List ℕ) where
  pub between-length : (k count : ℕ) → length (months_between limits cuts k count) ≡ count
  between-length k zero = refl
  between-length k (suc count) = ap suc (between-length (suc k) count)

  -- the first of those that are left, and the rest
  pub between_next : (k count : ℕ) → k < count
      → months_between limits cuts k (count - k)
      ≡ record { long = get_or cuts (k + 1) 0 - get_or cuts k 0; limits = limits } ∷ months_between limits cuts (k + 1) (count - (k + 1))
  between_next k count h =
      let left : count - k ≡ suc (count - (k + 1)) = omega arith in
      let next : suc k ≡ k + 1 = omega arith in
      ap (months_between limits cuts k) left
      ∙ ap (λ (j : ℕ). record { long = get_or cuts j 0 - get_or cuts k 0; limits = limits } ∷ months_between limits cuts j (count - (k + 1))) next

  -- how long month k is
  pub between-long : (from count k : ℕ) → k < count
      → get_or (map (λ (m : Month). m.long) (months_between limits cuts from count)) k 0 ≡ get_or cuts (suc (from + k)) 0 - get_or cuts (from + k) 0
  between-long from zero k h = absurd (omega arith)
  between-long from (suc count) zero h =
      ap (λ (j : ℕ). get_or cuts (suc j) 0 - get_or cuts j 0) (let e : from ≡ from + 0 = omega arith in e)
  between-long from (suc count) (suc k) h =
      between-long (suc from) count k (omega arith)
      ∙ ap (λ (j : ℕ). get_or cuts (suc j) 0 - get_or cuts j 0) (let e : suc from + k ≡ from + suc k = omega arith in e)

-- ---- where the months of a horizon end

module _ (d : Date) (w : Within last_year d) (n : ℕ) (some : 1 ≤ n) where
  abbrev last : ℕ
  last = month_of d (n - 1)

  ends-first : month_ends d n 0 ≡ 0
  ends-first = min-eq_right {n = month_begins d 1} {m = n} (omega (arith, begins-first d)) ∙ begins-first d

  -- but for the last, a month ends where the next begins
  ends-inside : (k : ℕ) → k < last → month_ends d n k ≡ month_begins d (suc k)
  ends-inside k h =
      min-eq_right {n = month_begins d (suc k)} {m = n} (omega (arith, has-begun d w.there w.since (n - 1) (suc k) (omega arith) h))

  ends_last : (k : ℕ) → k ≡ last → month_ends d n k ≡ n
  ends_last k h =
      min-eq_left {n = n} {m = month_begins d (suc k)} (omega (arith, to-begin d w.there w.since (n - 1) (suc k) (omega arith) (omega arith)))

  ends-grow : (k : ℕ) → k < last → month_ends d n k < month_ends d n (suc k)
  ends-grow k h =
      ⊎_elim
      (λ (q : suc k ≡ last).
      omega (arith, ends-inside k h, ends_last (suc k) q, has-begun d w.there w.since (n - 1) (suc k) (omega arith) h))
      (λ (l : suc k < last). omega (arith, ends-inside k h, ends-inside (suc k) l, begins-grow d w.there w.since k))
      (eq-or-lt_of_le h)

  -- the months have all the intervals
  from-whole : (limits : Limits) (k count : ℕ) → k + count ≤ last
      → intervals_of (months_from d limits n (suc k) count) + month_ends d n k ≡ month_ends d n (k + count)
  from-whole limits k zero h = let same = ap (month_ends d n) (let e : k ≡ k + 0 = omega arith in e) in omega arith
  from-whole limits k (suc count) h =
      let same = ap (month_ends d n) (let e : suc k + count ≡ k + suc count = omega arith in e) in
      omega (arith, ends-inside k (omega arith), ends-grow k (omega arith), from-whole limits (suc k) count (omega arith))

  pub months-whole : (limits : Limits) → intervals_of (months_of d limits n) ≡ n
  unfolding months_of
  months-whole limits =
      omega (arith, from-whole limits 0 last (omega arith), ends-first, ends_last (0 + last) (omega arith))

  -- ---- cuts at the ends

  module _ (cuts : List ℕ) (ends : (k : ℕ) → k < suc last → get_or cuts k 0 ≡ month_ends d n k) where
    months-are : (limits : Limits) (k count : ℕ) → k + count ≤ last → months_from d limits n (suc k) count ≡ months_between limits cuts k count
    months-are limits k zero h = refl
    months-are limits k (suc count) h =
        ap₂ (λ (long : ℕ) (later : List Month). record { long = long; limits = limits } ∷ later)
        (ap₂ ◌-◌ (sym (ends (suc k) (omega arith))) (sym (ends k (omega arith) ∙ ends-inside k (omega arith))))
        (months-are limits (suc k) count (omega arith))

    pub cuts_are : (count : ℕ) → count ≡ last → n ≤ year_intervals → CutsOf d n (record { at = cuts; count = count })
    unfolding months_of
    cuts_are count is few =
        record {
          first = ends 0 (omega arith) ∙ ends-first;
          last = ends count (omega arith) ∙ ends_last count is;
          grow = λ k h. omega (arith, ends k (omega arith), ends (suc k) (omega arith), ends-grow k (omega arith));
          some = omega (arith, month-least d w.there w.since (n - 1));
          few = omega (arith, months-few d w.there w.since (n - 1) (omega arith));
          months = λ limits. months-are limits 0 last (omega arith) ∙ ap (months_between limits cuts 0) (sym is);
        }

-- ---- no cut lies behind the last

grown : (at : ℕ → ℕ) (count : ℕ) → ((k : ℕ) → k < count → at k < at (suc k)) → (k j : ℕ) → k ≤ j → j ≤ count → at k ≤ at j
grown at count grow k zero h few = let e = ap at (let z : k ≡ 0 = omega arith in z) in omega arith
grown at count grow k (suc j) h few =
    ⊎_elim (λ (q : k ≡ suc j). let e = ap at q in omega arith)
    (λ (l : k < suc j). omega (arith, grow j few, grown at count grow k j (omega arith) (omega arith)))
    (eq-or-lt_of_le h)

pub cut_inside : (d : Date) (n : ℕ) (cuts : Cuts) → CutsOf d n cuts → (k : ℕ) → k ≤ cuts.count → get_or cuts.at k 0 ≤ n
cut_inside d n cuts c k h =
    omega (arith, c.last, grown (λ (j : ℕ). get_or cuts.at j 0) cuts.count c.grow k cuts.count h (omega arith))

-- Stores into a stretch of a list, one after the other: what the stretch holds, and that nothing else is touched.
use mathlib.Core.Path.{◌≡◌, refl, sym, ◌∙◌}
use mathlib.Core.Bool.{Bool, true, false}
use mathlib.Core.List.{List, ◌++◌}
use mathlib.Core.Logic.{◌⊎◌, ⊎_elim, inl, inr}
use Prim.Native.Nat.{ℕ, ◌+◌, ◌-◌, ◌≤◌, ◌<◌}
use native.Mathlib.Omega.{arith}
use borrow.Author.Tests.{ltb-true, ltb-false}
use lib.Dec.{ltb}
use lib.IntN.{ℤ, pos}
use lib.ListN.{length, get_or, set, take, drop, replicate, length-drop, length-set, length-replicate, get_or-replicate}
use lib.Seq.{get_or-set_same, get_or-set_other, ext_get_or, get_or-drop}
use Rattle.lists.proofs.Fills.{tail-before, part-read, part-after}
use Rattle.intervals.specs.Stretches.{Apart}

pub last-or-before : (j i : ℕ) → j < i + 1 → (j ≡ i) ⊎ (j < i)
last-or-before j i h = by (ltb j i) refl
  where
    by : (t : Bool) → ltb j i ≡ t → (j ≡ i) ⊎ (j < i)
    by true e = inr (ltb-true j i e)
    by false e = let l = ltb-false j i e in inl (omega arith)

-- ---- a stretch made place by place, one store a turn; turn i stores at `place i`, and no two at one place

pub record Made (place : ℕ → ℕ) (was s : List ℤ) (to i : ℕ) (now : ℕ → ℤ) : Type 0 where
  pub inside : (j : ℕ) → j < i → get_or s (to + place j) (pos 0) ≡ now j
  pub apart : (j : ℕ) → ((m : ℕ) → m < i → j ≡ to + place m → ⊥) → get_or s j (pos 0) ≡ get_or was j (pos 0)
  pub same : length s ≡ length was

module _ (place : ℕ → ℕ) (was : List ℤ) (to : ℕ) (now : ℕ → ℤ) where
  pub made_none : Made place was was to 0 now
  made_none = record { inside = λ j h. absurd (omega arith); apart = λ j out. refl; same = refl }

  pub made-next : (s : List ℤ) (i : ℕ) (v : ℤ) → to + place i < length was → ((m : ℕ) → m < i → place m ≡ place i → ⊥)
      → Made place was s to i now → v ≡ now i → Made place was (set s (to + place i) v) to (i + 1) now
  made-next s i v fits once made this =
      record {
        inside = λ j h.
            ⊎_elim (λ (e : j ≡ i). rw e (get_or-set_same s (to + place i) v (pos 0) (omega (arith, made.same)) ∙ this))
            (λ (l : j < i). get_or-set_other s (to + place i) (to + place j) v (pos 0) (λ o. once j l (omega arith)) ∙ made.inside j l)
            (last-or-before j i h);
        apart = λ j out. get_or-set_other s (to + place i) j v (pos 0) (λ o. out i (omega arith) (omega arith)) ∙ made.apart j (λ m l. out m (omega arith));
        same = length-set s (to + place i) v ∙ made.same;
      }

  pub made-apart : (s : List ℤ) (count : ℕ) → ((m : ℕ) → m < count → place m < count) → Made place was s to count now → Apart was s to count
  made-apart s count inside made j out =
      made.apart j (λ m l e. ⊎_elim (λ (h : j < to). omega arith) (λ (h : to + count ≤ j). omega (arith, inside m l)) out)

-- ---- the same number put in each

abbrev pub put_in : List ℤ → ℕ → ℕ → ℤ → List ℤ
put_in s to count v = take to s ++ (replicate count v ++ drop (to + count) s)

module _ (s : List ℤ) (to count : ℕ) (v : ℤ) (fits : to + count ≤ length s) where
  room : length (replicate count v) ≡ to + count - to
  room = omega (arith, length-replicate count v)

  pub put-inside : (i : ℕ) → i < count → get_or (put_in s to count v) (to + i) (pos 0) ≡ v
  put-inside i h =
      part-read to (to + count) s (replicate count v) (omega arith) fits room i (pos 0) (omega arith) ∙ get_or-replicate count i v (pos 0) h

  pub put-apart : Apart s (put_in s to count v) to count
  put-apart j out =
      ⊎_elim (λ (l : j < to). tail-before to s (replicate count v ++ drop (to + count) s) (omega arith) j (pos 0) l)
      (λ (l : to + count ≤ j). part-after to (to + count) s (replicate count v) (omega arith) fits room j (pos 0) l)
      out

-- lists that agree from a place on
pub same_from : (was cells : List ℤ) (m : ℕ) → length cells ≡ length was → ((j : ℕ) → m ≤ j → get_or cells j (pos 0) ≡ get_or was j (pos 0))
    → drop m cells ≡ drop m was
same_from was cells m e h =
    ext_get_or (pos 0) (drop m cells) (drop m was) (omega (arith, length-drop m cells, length-drop m was))
    (λ i l. get_or-drop m cells i (pos 0) ∙ h (m + i) (omega arith) ∙ sym (get_or-drop m was i (pos 0)))

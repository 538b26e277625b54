-- The best of the numbers passed so far, as a pass carries it from place to place: above what every number brings there, one of these, and how
-- large it can be.
use mathlib.Core.Path.{◌≡◌, refl, sym, ap, ◌∙◌}
use mathlib.Core.Bool.{Bool, true, false}
use mathlib.Core.Logic.{⊎_elim}
use Prim.Native.Nat.{ℕ, zero, suc, ◌+◌, ◌-◌, ◌*◌, ◌^◌, ◌≤◌, ◌<◌}
use native.Mathlib.Numerals.{add-one}
use native.Mathlib.Omega.{arith}
use borrow.Author.Tests.{ltb-true, ltb-false}
use lib.Dec.{ltb}
use lib.IntN.{ℤ, ◌+ℤ◌}
use lib.Signed.{◌≤ℤ◌, ≤ℤ_refl}
use Rattle.integers.specs.Maximum.{maxℤ}
use Rattle.integers.proofs.Linear.{up, dn, zarith, zsum}
use Rattle.integers.proofs.Order.{≤ℤ-trans, ≤ℤ-antisym, +ℤ-mono}
use Rattle.integers.proofs.Ranges.{Within, within-weaken, within-sum}
use Rattle.integers.proofs.Maximum.{Max, max-is, max_least}
use Rattle.geometry.specs.Layers.{swing}
use Rattle.intervals.specs.Stretches.{best_so_far, depth, below}

-- ---- below all numbers

below_parts : (up below ≡ 0) × (dn below ≡ depth)
unfolding up dn
below_parts = (refl, refl)

below-size : Within depth below
below-size = omega (arith, below_parts)

max-left : (x y : ℤ) → y ≤ℤ x → maxℤ x y ≡ x
max-left x y h = ≤ℤ-antisym (max_least x y x (≤ℤ_refl x) h) (max-is x y).left

-- ---- the best so far

module _ (number : ℕ → ℤ) (rise : ℤ) where
  best-first : best_so_far number rise 0 ≡ number 0
  unfolding best_so_far
  best-first = refl

  best-next : (i : ℕ) → best_so_far number rise (suc i) ≡ maxℤ (number (suc i)) (best_so_far number rise i +ℤ rise)
  unfolding best_so_far
  best-next i = refl

  -- where what a number brings rises the same from place to place
  module _ (brings : ℕ → ℤ) (gain : ℤ) (first : brings 0 ≡ gain) where
    pub record Source (i : ℕ) (v : ℤ) : Type 0 where
      pub at : ℕ
      pub at≤ : at ≤ i
      pub is : v ≡ number at +ℤ brings (i - at)

    regroup : (x a b c : ℤ) → c ≡ a +ℤ b → x +ℤ c ≡ x +ℤ a +ℤ b
    regroup x a b c e = rw e (omega (zarith, zsum a b, zsum x (a +ℤ b), zsum x a, zsum (x +ℤ a) b))

    swap : (x a b : ℤ) → x +ℤ b +ℤ a ≡ x +ℤ a +ℤ b
    swap x a b = omega (zarith, zsum x b, zsum (x +ℤ b) a, zsum x a, zsum (x +ℤ a) b)

    pub best-source : (i : ℕ) → ((n : ℕ) → n < i → brings (suc n) ≡ brings n +ℤ rise) → Source i (best_so_far number rise i +ℤ gain)
    unfolding best_so_far
    best-source zero h = record { at = 0; at≤ = omega arith; is = rw first }
    best-source (suc i) h =
        ⊎_elim
        (λ (e : maxℤ (number (suc i)) (best_so_far number rise i +ℤ rise) ≡ number (suc i)).
        let n : suc i - suc i ≡ 0 = omega arith in
        record { at = suc i; at≤ = omega arith; is = rw (e, n, first) })
        (λ (e : maxℤ (number (suc i)) (best_so_far number rise i +ℤ rise) ≡ best_so_far number rise i +ℤ rise).
        rw e (later (best-source i (λ n l. h n (omega arith)))))
        (max-is (number (suc i)) (best_so_far number rise i +ℤ rise)).one_of
      where
        later : Source i (best_so_far number rise i +ℤ gain) → Source (suc i) (best_so_far number rise i +ℤ rise +ℤ gain)
        later s =
            let n : suc i - s.at ≡ suc (i - s.at) = omega (arith, s.at≤) in
            record {
              at = s.at;
              at≤ = omega (arith, s.at≤);
              is =
                  rw n
                  (swap (best_so_far number rise i) gain rise ∙ ap (λ (x : ℤ). x +ℤ rise) s.is
                  ∙ sym (regroup (number s.at) (brings (i - s.at)) rise (brings (suc (i - s.at))) (h (i - s.at) (omega arith))));
            }

    pub best-reach : (i j : ℕ) → j ≤ i → ((n : ℕ) → n < i → brings (suc n) ≡ brings n +ℤ rise)
        → (number j +ℤ brings (i - j)) ≤ℤ (best_so_far number rise i +ℤ gain)
    unfolding best_so_far
    best-reach zero j l h = let e : j ≡ 0 = omega arith in rw (e, first) (≤ℤ_refl (number 0 +ℤ gain))
    best-reach (suc i) j l h = by (ltb j (suc i)) refl (λ k. best-reach i j k (λ n b. h n (omega arith)))
      where
        top : Max (number (suc i)) (best_so_far number rise i +ℤ rise) (maxℤ (number (suc i)) (best_so_far number rise i +ℤ rise))
        top = max-is (number (suc i)) (best_so_far number rise i +ℤ rise)

        by : (t : Bool) → ltb j (suc i) ≡ t → (j ≤ i → (number j +ℤ brings (i - j)) ≤ℤ (best_so_far number rise i +ℤ gain))
            → (number j +ℤ brings (suc i - j)) ≤ℤ (maxℤ (number (suc i)) (best_so_far number rise i +ℤ rise) +ℤ gain)
        by true e before =
            let k = ltb-true j (suc i) e in
            let n : suc i - j ≡ suc (i - j) = omega arith in
            rw (n, regroup (number j) (brings (i - j)) rise (brings (suc (i - j))) (h (i - j) (omega arith)))
            (≤ℤ-trans (+ℤ-mono (before (omega arith)) (≤ℤ_refl rise))
            (rw (← swap (best_so_far number rise i) gain rise) (+ℤ-mono top.right (≤ℤ_refl gain))))
        by false e before =
            let k = ltb-false j (suc i) e in
            let q : j ≡ suc i = omega arith in
            let n : suc i - suc i ≡ 0 = omega arith in
            rw (q, n, first) (+ℤ-mono top.left (≤ℤ_refl gain))

-- ---- the best as it is carried to a place, before the number there is passed

pub record Carried (number : ℕ → ℤ) (rise : ℤ) (i : ℕ) (b : ℤ) : Type 0 where
  pub next : maxℤ (number i) (b +ℤ rise) ≡ best_so_far number rise i
  pub size : Within (depth + i * swing) b

module _ (number : ℕ → ℤ) (rise : ℤ) (small : Within swing rise) where
  -- a number below all that can be passed
  pub carried_first : Within (2 ^ 62) (number 0) → Carried number rise 0 below
  carried_first h =
      record {
        next = rw (best-first number rise) (max-left (number 0) (below +ℤ rise) (under (number 0) rise h small));
        size = within-weaken
            (omega arith) below-size;
      }
    where
      under : (x r : ℤ) → Within (2 ^ 62) x → Within swing r → (below +ℤ r) ≤ℤ x
      under x r h k = omega (zarith, zsum below r, below_parts, h, k)

  module _ (i : ℕ) (b : ℤ) (c : Carried number rise i b) (h : Within (2 ^ 62) (number i)) where
    pub carried-next : Carried number rise (i + 1) (best_so_far number rise i)
    carried-next =
        record {
          next = rw (add-one i) (sym (best-next number rise i));
          size =
              rw (← c.next)
              (⊎_elim (λ e. rw e (within-weaken (omega arith) h)) (λ e. rw e (within-weaken (omega arith) (within-sum c.size small)))
              (max-is (number i) (b +ℤ rise)).one_of);
        }

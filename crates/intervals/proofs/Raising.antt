-- The largest of a number and of what several outputs reach: by equal reaches, above each, least of what is above all.
use mathlib.Core.Path.{◌≡◌, refl, ap, ◌∙◌}
use mathlib.Core.Bool.{Bool, true, false, cond}
use Prim.Native.Nat.{ℕ, zero, suc, ◌+◌, ◌≤◌, ◌<◌}
use native.Mathlib.Omega.{arith}
use borrow.Author.Tests.{eqb-true, eqb-false}
use lib.Dec.{eqb}
use lib.IntN.{ℤ}
use lib.Signed.{◌≤ℤ◌, ≤ℤ_refl}
use Rattle.integers.specs.Maximum.{maxℤ}
use Rattle.integers.proofs.Order.{≤ℤ-trans}
use Rattle.integers.proofs.Maximum.{max-is, max_least}
use Rattle.intervals.specs.Turns.{raised}

-- one output of the fold
abbrev step : (ℕ → Bool) → (ℕ → ℤ) → ℤ → ℕ → ℤ
step fits reach base k = cond (fits k) (maxℤ base (reach k)) base

module _ (fits : ℕ → Bool) (reach : ℕ → ℤ) where
  pub raised-none : (base : ℤ) (k : ℕ) → raised fits reach base k 0 ≡ base
  unfolding raised
  raised-none base k = refl

  pub raised-next : (base : ℤ) (k count : ℕ) → raised fits reach base k (suc count) ≡ raised fits reach (step fits reach base k) (suc k) count
  unfolding raised
  raised-next base k count = refl

pub raised-same : (fits : ℕ → Bool) (a b : ℕ → ℤ) (base : ℤ) (k count : ℕ)
    → ((j : ℕ) → k ≤ j → j < k + count → fits j ≡ true → a j ≡ b j) → raised fits a base k count ≡ raised fits b base k count
unfolding raised
raised-same fits a b base k zero h = refl
raised-same fits a b base k (suc count) h =
    ap (λ (x : ℤ). raised fits a x (suc k) count) (once (fits k) refl)
    ∙ raised-same fits a b (step fits b base k) (suc k) count (λ j l u. h j (omega arith) (omega arith))
  where
    once : (t : Bool) → fits k ≡ t → cond t (maxℤ base (a k)) base ≡ cond t (maxℤ base (b k)) base
    once true e = ap (maxℤ base) (h k (omega arith) (omega arith) e)
    once false e = refl

module _ (fits : ℕ → Bool) (reach : ℕ → ℤ) where
  step-above : (base : ℤ) (k : ℕ) → base ≤ℤ step fits reach base k
  step-above base k = by (fits k)
    where
      by : (t : Bool) → base ≤ℤ cond t (maxℤ base (reach k)) base
      by true = (max-is base (reach k)).left
      by false = ≤ℤ_refl base

  pub raised-above : (base : ℤ) (k count : ℕ) → base ≤ℤ raised fits reach base k count
  unfolding raised
  raised-above base k zero = ≤ℤ_refl base
  raised-above base k (suc count) = ≤ℤ-trans (step-above base k) (raised-above (step fits reach base k) (suc k) count)

  pub raised-reach : (base : ℤ) (k count j : ℕ) → k ≤ j → j < k + count → fits j ≡ true → reach j ≤ℤ raised fits reach base k count
  unfolding raised
  raised-reach base k zero j l u e = absurd (omega arith)
  raised-reach base k (suc count) j l u e = by (eqb j k) refl (λ i. raised-reach (step fits reach base k) (suc k) count j i (omega arith) e)
    where
      this : j ≡ k → reach j ≤ℤ step fits reach base k
      this i = rw (← i, e) (max-is base (reach j)).right

      by : (t : Bool) → eqb j k ≡ t → (suc k ≤ j → reach j ≤ℤ raised fits reach (step fits reach base k) (suc k) count)
          → reach j ≤ℤ raised fits reach (step fits reach base k) (suc k) count
      by true i later = ≤ℤ-trans (this (eqb-true j k i)) (raised-above (step fits reach base k) (suc k) count)
      by false i later = let n = eqb-false j k i in later (omega arith)

  pub raised-least : (base : ℤ) (k count : ℕ) (most : ℤ) → base ≤ℤ most → ((j : ℕ) → k ≤ j → j < k + count → fits j ≡ true → reach j ≤ℤ most)
      → raised fits reach base k count ≤ℤ most
  unfolding raised
  raised-least base k zero most b h = b
  raised-least base k (suc count) most b h =
      raised-least (step fits reach base k) (suc k) count most (once (fits k) refl) (λ j l u. h j (omega arith) (omega arith))
    where
      once : (t : Bool) → fits k ≡ t → cond t (maxℤ base (reach k)) base ≤ℤ most
      once true e = max_least base (reach k) most b (h k (omega arith) (omega arith) e)
      once false e = b

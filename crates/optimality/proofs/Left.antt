-- What is left of a limitation beside what a cell has left: a budget counted in units, and no further than the intervals left can use.
-- One law for the starts, the on-intervals (one an interval) and the output blocks (pmax an interval).
use Rattle.std.specs.Prelude.{None, Some}
use mathlib.Core.Path.{◌≡◌, refl, sym, ap, ◌∙◌, subst}
use mathlib.Core.Bool.{Bool, true, false}
use Prim.Native.Nat.{ℕ, suc, ◌+◌, ◌-◌, ◌*◌, ◌/◌, ◌<◌, ◌≤◌, min}
use native.Mathlib.Nat.{le-div_iff_mul-le, div-lt_iff_lt-mul, add-mul-div_right, zero-div, mul-zero, mul-one}
use native.Mathlib.Omega.{arith}
use borrow.Author.Tests.{le-leb, leb-true, leb-false}
use lib.Dec.{leb, leb-zero}
use Rattle.commitment.specs.Types.{Limit}
use Rattle.optimality.proofs.Commit.{affords, spend}

-- a unit is worth so many counts of the limitation, an interval uses at most so many units, n intervals are to go
abbrev pub Left : ℕ → ℕ → ℕ → ℕ → Limit → ℕ → Type 0
Left unit most taken n None x = taken ≡ 0
Left unit most taken n (Some left) x = (taken ≡ 1) × (min (left / unit) (n * most) ≡ min x (n * most))

module _ (unit most : ℕ) (counts : 1 ≤ unit) where
  -- whole units of what is left after k units
  pub units-less : (left k : ℕ) → (left - k * unit) / unit ≡ left / unit - k
  units-less left k = test (leb (k * unit) left) refl
    where
      test : (t : Bool) → leb (k * unit) left ≡ t → (left - k * unit) / unit ≡ left / unit - k
      test true i =
          let h : left - k * unit + k * unit ≡ left = omega (arith, leb-true (k * unit) left i) in
          let e : left / unit ≡ (left - k * unit) / unit + k = ap (λ (z : ℕ). z / unit) (sym h) ∙ add-mul-div_right (left - k * unit) k counts in
          omega arith
      test false i =
          let z : left - k * unit ≡ 0 = omega (arith, leb-false (k * unit) left i) in
          let e : (left - k * unit) / unit ≡ 0 = ap (λ (w : ℕ). w / unit) z ∙ zero-div unit in
          let l : left / unit < k = (div-lt_iff_lt-mul counts).1 (leb-false (k * unit) left i) in
          omega arith

  -- with an interval to go, k units are afforded alike
  pub left-affords : (taken n k : ℕ) (l : Limit) (x : ℕ) → k ≤ most → Left unit most taken (suc n) l x → leb (k * taken) x ≡ affords l (k * unit)
  left-affords taken n k None x h r = rw (r, mul-zero k) (leb-zero x)
  left-affords taken n k (Some left) x h r = rw (r.0, mul-one k) (test (leb k x) refl (leb (k * unit) left) refl)
    where
      far : k ≤ suc n * most
      far = omega (arith, h)

      test : (s : Bool) → leb k x ≡ s → (t : Bool) → leb (k * unit) left ≡ t → leb k x ≡ leb (k * unit) left
      test true i t j = let q : k ≤ left / unit = omega (arith, leb-true k x i, far, r.1) in i ∙ sym (le-leb (k * unit) left ((le-div_iff_mul-le counts).0 q))
      test false i true j =
          let q : k ≤ left / unit = (le-div_iff_mul-le counts).1 (leb-true (k * unit) left j) in
          absurd (omega (arith, leb-false k x i, far, r.1))
      test false i false j = i ∙ sym j

  -- and after them the rest is alike
  pub left-spend : (taken n k : ℕ) (l : Limit) (x : ℕ) → k ≤ most → Left unit most taken (suc n) l x
      → Left unit most taken n (spend l (k * unit)) (x - k * taken)
  left-spend taken n k None x h r = r
  left-spend taken n k (Some left) x h r =
      let all = n * most + most in
      let same : min (left / unit) all ≡ min x all = subst (λ (z : ℕ). min (left / unit) z ≡ min x z) (omega arith) r.1 in
      (r.0, rw (r.0, mul-one k, units-less left k) (less (left / unit) x k (n * most) most h same))
    where
      less : (a b k m p : ℕ) → k ≤ p → min a (m + p) ≡ min b (m + p) → min (a - k) m ≡ min (b - k) m
      less a b k m p h e = omega arith

  -- an interval that uses none
  pub left_less : (taken n : ℕ) (l : Limit) (x : ℕ) → Left unit most taken (suc n) l x → Left unit most taken n l x
  left_less taken n None x r = r
  left_less taken n (Some left) x r = (r.0, less (left / unit) x (n * most) most (subst (λ (z : ℕ). min (left / unit) z ≡ min x z) (omega arith) r.1))
    where
      less : (a b m p : ℕ) → min a (m + p) ≡ min b (m + p) → min a m ≡ min b m
      less a b m p e = omega arith

-- ---- one an interval

pub one-many : (taken : ℕ) → 1 * taken ≡ taken
one-many taken = omega arith

pub one-affords : (taken n : ℕ) (l : Limit) (x : ℕ) → Left 1 1 taken (suc n) l x → leb taken x ≡ affords l 1
one-affords taken n l x r = rw (one-many taken) at (left-affords 1 1 (omega arith) taken n 1 l x (omega arith) r)

pub one-spend : (taken n : ℕ) (l : Limit) (x : ℕ) → Left 1 1 taken (suc n) l x → Left 1 1 taken n (spend l 1) (x - taken)
one-spend taken n l x r = subst (λ (k : ℕ). Left 1 1 taken n (spend l 1) (x - k)) (one-many taken) (left-spend 1 1 (omega arith) taken n 1 l x (omega arith) r)

pub one_less : (taken n : ℕ) (l : Limit) (x : ℕ) → Left 1 1 taken (suc n) l x → Left 1 1 taken n l (x - 0)
one_less taken n l x r = subst (λ (k : ℕ). Left 1 1 taken n l k) (omega arith) (left_less 1 1 (omega arith) taken n l x r)

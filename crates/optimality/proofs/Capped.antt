-- What is left of a limitation within a month, beside what a cell has left: the month's figure caps the year's, and what lies above the cap stays for later
-- months. One law for the starts, the on-intervals and the output blocks; without a month figure it is `Left`.
use Rattle.std.specs.Prelude.{None, Some}
use mathlib.Core.Path.{◌≡◌, refl, ap, subst}
use mathlib.Core.Bool.{Bool, true, false, ◌&&◌}
use Prim.Native.Nat.{ℕ, suc, ◌+◌, ◌-◌, ◌*◌, ◌/◌, ◌≤◌, min}
use native.Mathlib.Nat.{le-div_iff_mul-le, div-lt_iff_lt-mul, mul-one}
use native.Mathlib.Omega.{arith}
use borrow.Author.Tests.{le-leb, lt-leb, leb-true, leb-false}
use lib.Dec.{leb}
use Rattle.commitment.specs.Types.{Limit}
use Rattle.optimality.proofs.Commit.{affords, spend}
use Rattle.optimality.proofs.Left.{Left, units-less, left-affords, left-spend, left_less, one-many}

-- as `Left`, for the year's limitation and the month's: x is left in the cell, and d lies above the cap
abbrev pub Capped : ℕ → ℕ → ℕ → ℕ → Limit → Limit → ℕ → ℕ → Type 0
Capped unit most taken n a None d x = Left unit most taken n a x × (d ≡ 0)
Capped unit most taken n None (Some left) d x = ⊥
Capped unit most taken n (Some all) (Some left) d x = Left unit most taken n (Some all) (x + d) × (x ≡ min (x + d) (left / unit))

module _ (unit most : ℕ) (counts : 1 ≤ unit) where
  -- with an interval to go, k units are afforded alike
  pub capped-affords : (taken n k : ℕ) (a m : Limit) (d x : ℕ) → k ≤ most → Capped unit most taken (suc n) a m d x
      → leb (k * taken) x ≡ (affords m (k * unit) && affords a (k * unit))
  capped-affords taken n k a None d x h r = left-affords unit most counts taken n k a x h r.0
  capped-affords taken n k None (Some left) d x h r = absurd r
  capped-affords taken n k (Some all) (Some left) d x h r =
      let one : k * taken ≡ k = rw r.0.0 (mul-one k) in
      let year : leb (k * taken) (x + d) ≡ affords (Some all) (k * unit) = left-affords unit most counts taken n k (Some all) (x + d) h r.0 in
      rw (one, ← year, one) (test (leb k x) refl (leb (k * unit) left) refl)
    where
      test : (s : Bool) → leb k x ≡ s → (t : Bool) → leb (k * unit) left ≡ t → leb k x ≡ (leb (k * unit) left && leb k (x + d))
      test true i true j = simp (i, j, le-leb k (x + d) (omega (arith, leb-true k x i)))
      test true i false j =
          absurd (omega (arith, leb-true k x i, r.1, (div-lt_iff_lt-mul counts).1 (leb-false (k * unit) left j)))
      test false i true j =
          simp (i, j, lt-leb k (x + d) (omega (arith, leb-false k x i, r.1, (le-div_iff_mul-le counts).1 (leb-true (k * unit) left j))))
      test false i false j = simp (i, j)

  -- and after them the rest is alike
  pub capped-spend : (taken n k : ℕ) (a m : Limit) (d x : ℕ) → k ≤ most → leb (k * taken) x ≡ true → Capped unit most taken (suc n) a m d x
      → Capped unit most taken n (spend a (k * unit)) (spend m (k * unit)) d (x - k * taken)
  capped-spend taken n k a None d x h may r = (left-spend unit most counts taken n k a x h r.0, r.1)
  capped-spend taken n k None (Some left) d x h may r = absurd r
  capped-spend taken n k (Some all) (Some left) d x h may r =
      let has = leb-true (k * taken) x may in
      let one : k * taken ≡ k = rw r.0.0 (mul-one k) in
      let year = left-spend unit most counts taken n k (Some all) (x + d) h r.0 in
      let above : x + d - k * taken ≡ x - k * taken + d = omega arith in (
        subst (λ (y : ℕ). Left unit most taken n (Some (all - k * unit)) y) above year,
        rw (units-less unit most counts left k, one) (omega (arith, r.1, one)),
      )

  -- an interval that uses none
  pub capped-less : (taken n : ℕ) (a m : Limit) (d x : ℕ) → Capped unit most taken (suc n) a m d x → Capped unit most taken n a m d x
  capped-less taken n a None d x r = (left_less unit most counts taken n a x r.0, r.1)
  capped-less taken n None (Some left) d x r = absurd r
  capped-less taken n (Some all) (Some left) d x r = (left_less unit most counts taken n (Some all) (x + d) r.0, r.1)

-- ---- one an interval

pub cap-affords : (taken n : ℕ) (a m : Limit) (d x : ℕ) → Capped 1 1 taken (suc n) a m d x → leb taken x ≡ (affords m 1 && affords a 1)
cap-affords taken n a m d x r = rw (one-many taken) at (capped-affords 1 1 (omega arith) taken n 1 a m d x (omega arith) r)

pub cap-spend : (taken n : ℕ) (a m : Limit) (d x : ℕ) → leb taken x ≡ true → Capped 1 1 taken (suc n) a m d x
    → Capped 1 1 taken n (spend a 1) (spend m 1) d (x - taken)
cap-spend taken n a m d x may r =
    subst (λ (k : ℕ). Capped 1 1 taken n (spend a 1) (spend m 1) d (x - k)) (one-many taken)
    (capped-spend 1 1 (omega arith) taken n 1 a m d x (omega arith) (rw (one-many taken) may) r)

pub cap-less : (taken n : ℕ) (a m : Limit) (d x : ℕ) → Capped 1 1 taken (suc n) a m d x → Capped 1 1 taken n a m d (x - 0)
cap-less taken n a m d x r = subst (λ (k : ℕ). Capped 1 1 taken n a m d k) (omega arith) (capped-less 1 1 (omega arith) taken n a m d x r)

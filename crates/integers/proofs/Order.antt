-- The order of ℤ: its laws, and what the tests `lt_z` and `le_z` say, both ways.
use mathlib.Core.Path.{◌≡◌, refl, sym, subst}
use mathlib.Core.Bool.{Bool, true, false, not}
use mathlib.Core.Logic.{◌⊎◌, ⊎_elim, inl, inr}
use lib.Dec.{T}
use lib.IntN.{ℤ, ◌+ℤ◌}
use lib.Signed.{◌≤ℤ◌, ◌<ℤ◌, le_z, lt_z, lt_z_yes, lt_z_no, le_z_yes, clash_ℤ}
use Rattle.integers.proofs.Linear.{zarith, zsum}

-- ---- the order

pub ≤ℤ-trans : {x y z : ℤ} → x ≤ℤ y → y ≤ℤ z → x ≤ℤ z
≤ℤ-trans h k = omega zarith

pub ≤ℤ-antisym : {x y : ℤ} → x ≤ℤ y → y ≤ℤ x → x ≡ y
≤ℤ-antisym h k = omega zarith

pub +ℤ-mono : {x y a b : ℤ} → x ≤ℤ y → a ≤ℤ b → (x +ℤ a) ≤ℤ (y +ℤ b)
+ℤ-mono {x} {y} {a} {b} h k = omega (zarith, zsum x a, zsum y b)

-- ---- the test `lt_z`

pub lt_z-true : (x y : ℤ) → lt_z x y ≡ true → x <ℤ y
lt_z-true x y e = lt_z_yes (subst T (sym e) tt)

pub lt_z-false : (x y : ℤ) → lt_z x y ≡ false → y ≤ℤ x
lt_z-false x y e = lt_z_no (subst (λ (t : Bool). T (not t)) (sym e) tt)

-- the test with what it says
pub lt_z-dec : (x y : ℤ) → ((lt_z x y ≡ true) × (x <ℤ y)) ⊎ ((lt_z x y ≡ false) × (y ≤ℤ x))
lt_z-dec x y = go (lt_z x y) refl
  where
    go : (t : Bool) → lt_z x y ≡ t → ((lt_z x y ≡ true) × (x <ℤ y)) ⊎ ((lt_z x y ≡ false) × (y ≤ℤ x))
    go true e = inl (e, lt_z-true x y e)
    go false e = inr (e, lt_z-false x y e)

pub lt-lt_z : (x y : ℤ) → x <ℤ y → lt_z x y ≡ true
lt-lt_z x y h = ⊎_elim (λ w. w.0) (λ w. clash_ℤ h w.1) (lt_z-dec x y)

pub le-lt_z : (x y : ℤ) → y ≤ℤ x → lt_z x y ≡ false
le-lt_z x y h = ⊎_elim (λ w. clash_ℤ w.1 h) (λ w. w.0) (lt_z-dec x y)

pub ≤ℤ-total : (x y : ℤ) → (x ≤ℤ y) ⊎ (y ≤ℤ x)
≤ℤ-total x y = ⊎_elim (λ w. inl (omega zarith)) (λ w. inr (omega zarith)) (lt_z-dec x y)

-- ---- the test `le_z`

pub le_z-true : (x y : ℤ) → le_z x y ≡ true → x ≤ℤ y
le_z-true x y e = le_z_yes (subst T (sym e) tt)

pub le-le_z : (x y : ℤ) → x ≤ℤ y → le_z x y ≡ true
le-le_z x y h = is_true (le_z x y) h.le
  where
    is_true : (t : Bool) → T t → t ≡ true
    is_true true e = refl
    is_true false e = absurd e

pub lt-le_z : (x y : ℤ) → y <ℤ x → le_z x y ≡ false
lt-le_z x y h = go (le_z x y) refl
  where
    go : (t : Bool) → le_z x y ≡ t → le_z x y ≡ false
    go true e = clash_ℤ h (le_z-true x y e)
    go false e = e

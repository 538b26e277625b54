-- Ranges of ℤ: |x| ≤ n, how a range goes through the operations, and that a number in range fits an i64 and reads back.
use mathlib.Core.Path.{◌≡◌, refl}
use mathlib.Core.Bool.{Bool}
use Prim.Native.Nat.{ℕ, zero, suc, ◌+◌, ◌*◌, ◌^◌, ◌≤◌, ◌<◌}
use native.Mathlib.Nat.{mul-le-mul}
use native.Mathlib.Omega.{arith}
use lib.IntN.{ℤ, pos, negsuc, neg_ℤ, nat_abs, ◌+ℤ◌, ◌-ℤ◌, ◌*ℤ◌}
use lib.Signed.{◌≤ℤ◌, lt_z}
use mir.Syntax.{w64}
use mir.Val.{to_z, of_z, SFits}
use mir.ValLaws.{to_z-of_z}
use Rattle.integers.proofs.Linear.{up, dn, zarith, zsum, zdiff}

-- |x| ≤ n
pub record Within (n : ℕ) (x : ℤ) : Type 0 where
  pub over : up x ≤ n
  pub under : dn x ≤ n

-- ---- where a range comes from

pub within-at : (n : ℕ) → Within n (pos n)
unfolding up dn
within-at n = omega arith

-- at its own magnitude
pub within-abs : (x : ℤ) → Within (nat_abs x) x
unfolding up dn
within-abs (pos a) = omega arith
within-abs (negsuc a) = omega arith

pub abs-within : {n : ℕ} {x : ℤ} → Within n x → nat_abs x ≤ n
unfolding up dn
abs-within {n} {x} h = go x h
  where
    go : (x : ℤ) → Within n x → nat_abs x ≤ n
    go (pos a) h = h.over
    go (negsuc a) h = h.under

pub within_signed : {n : ℕ} {x : ℤ} → negsuc n ≤ℤ x → x ≤ℤ pos (suc n) → Within (suc n) x
unfolding up dn
within_signed {n} {x} h k = go x h k
  where
    go : (x : ℤ) → negsuc n ≤ℤ x → x ≤ℤ pos (suc n) → Within (suc n) x
    go (pos a) h k = omega zarith
    go (negsuc a) h k = omega zarith

pub within-weaken : {n m : ℕ} {x : ℤ} → n ≤ m → Within n x → Within m x
within-weaken l h = omega arith

-- ---- through the operations

pub within-sum : {a b : ℕ} {x y : ℤ} → Within a x → Within b y → Within (a + b) (x +ℤ y)
within-sum {a} {b} {x} {y} h k = omega (arith, zsum x y)

pub within-diff : {a b : ℕ} {x y : ℤ} → Within a x → Within b y → Within (a + b) (x -ℤ y)
within-diff {a} {b} {x} {y} h k = omega (arith, zdiff x y)

pub abs_neg : (n : ℕ) → nat_abs (neg_ℤ (pos n)) ≡ n
abs_neg zero = refl
abs_neg (suc n) = refl

abs-mul : (x y : ℤ) → nat_abs (x *ℤ y) ≡ nat_abs x * nat_abs y
abs-mul (pos a) (pos b) = refl
abs-mul (pos a) (negsuc b) = abs_neg (a * suc b)
abs-mul (negsuc a) (pos b) = abs_neg (suc a * b)
abs-mul (negsuc a) (negsuc b) = refl

pub within-mul : {a b : ℕ} {x y : ℤ} → Within a x → Within b y → Within (a * b) (x *ℤ y)
within-mul {a} {b} {x} {y} h k = omega (arith, within-abs (x *ℤ y), abs-mul x y, mul-le-mul (abs-within h) (abs-within k))

-- ---- what an i64 holds

pub within-fits : {a : ℕ} {x : ℤ} → Within a x → a < 2 ^ 63 → SFits w64 x
unfolding up dn
within-fits {a} {x} h k = go x h
  where
    go : (x : ℤ) → Within a x → SFits w64 x
    go (pos n) h = record { sfits = omega (arith, h.over, k) }
    go (negsuc n) h = record { sfits = omega (arith, h.under, k) }

-- of a parameter or a result, whose range is SFits
pub fits-within : {x : ℤ} → SFits w64 x → Within (2 ^ 63) x
unfolding up dn
fits-within {x} f = go x f
  where
    go : (x : ℤ) → SFits w64 x → Within (2 ^ 63) x
    go (pos n) f = omega (arith, f.sfits)
    go (negsuc n) f = omega (arith, f.sfits)

-- a number in range, stored and read, is the number
pub plain_fits : {x : ℤ} → SFits w64 x → to_z w64 (of_z w64 x) ≡ x
plain_fits {x} f = to_z-of_z w64 x f

pub plain : {a : ℕ} {x : ℤ} → Within a x → a < 2 ^ 63 → to_z w64 (of_z w64 x) ≡ x
plain h k = plain_fits (within-fits h k)

-- a test of two numbers as the machine makes it, as a test of the numbers
pub lt-plain : {x y : ℤ} {t : Bool} → SFits w64 x → SFits w64 y → lt_z (to_z w64 (of_z w64 x)) (to_z w64 (of_z w64 y)) ≡ t → lt_z x y ≡ t
lt-plain {x} {y} f g e = rw (plain_fits f, plain_fits g) at e

-- Linear facts about ℤ by `omega`. An integer x is up x − dn x, and one of the two is 0; `omega zarith` reads and proves
-- orders and equations of ℤ through these parts, given the law of each operation that occurs (`zsum`, `zdiff`, ..).
use mathlib.Core.Path.{◌≡◌, refl, ap, subst}
use mathlib.Core.Bool.{Bool, true, false}
use Prim.Native.Nat.{ℕ, zero, suc, ◌+◌, ◌-◌, ◌*◌, ◌≤◌, ◌<◌}
use native.Mathlib.Omega.{arith}
use lib.Dec.{T, ltb, ltb→lt, leb→le, le→leb, lt→ltb}
use lib.IntN.{ℤ, pos, negsuc, neg_ℤ, sub_ℕ, ◌+ℤ◌, ◌-ℤ◌, ◌*ℤ◌}
use lib.Signed.{◌≤ℤ◌, ◌<ℤ◌, le_z, lt_z}
use borrow.Author.Tests.{ltb-true, ltb-false}

-- how far x is above 0
unfoldable pub up : ℤ → ℕ
up (pos n) = n
up (negsuc n) = 0

-- how far x is below 0
unfoldable pub dn : ℤ → ℕ
dn (pos n) = 0
dn (negsuc n) = suc n

-- ---- the parts of a number

pub up_pos : (n : ℕ) → up (pos n) ≡ n
unfolding up
up_pos n = refl

pub dn-pos : (n : ℕ) → dn (pos n) ≡ 0
unfolding dn
dn-pos n = refl

pub up_neg : (x : ℤ) → up (neg_ℤ x) ≡ dn x
unfolding up dn
up_neg (pos zero) = refl
up_neg (pos (suc n)) = refl
up_neg (negsuc n) = refl

pub dn-neg : (x : ℤ) → dn (neg_ℤ x) ≡ up x
unfolding up dn
dn-neg (pos zero) = refl
dn-neg (pos (suc n)) = refl
dn-neg (negsuc n) = refl

-- ---- order and equality, both ways

le_parts : (x y : ℤ) → T (le_z x y) → up x + dn y ≤ up y + dn x
unfolding up dn
le_parts (pos a) (pos b) t = omega (arith, leb→le a b t)
le_parts (pos a) (negsuc b) t = absurd t
le_parts (negsuc a) (pos b) t = omega arith
le_parts (negsuc a) (negsuc b) t = omega (arith, leb→le b a t)

parts-le : (x y : ℤ) → up x + dn y ≤ up y + dn x → T (le_z x y)
unfolding up dn
parts-le (pos a) (pos b) h = le→leb a b (omega arith)
parts-le (pos a) (negsuc b) h = absurd (omega arith)
parts-le (negsuc a) (pos b) h = tt
parts-le (negsuc a) (negsuc b) h = le→leb b a (omega arith)

lt-parts : (x y : ℤ) → T (lt_z x y) → up x + dn y < up y + dn x
unfolding up dn
lt-parts (pos a) (pos b) t = omega (arith, ltb→lt a b t)
lt-parts (pos a) (negsuc b) t = absurd t
lt-parts (negsuc a) (pos b) t = omega arith
lt-parts (negsuc a) (negsuc b) t = omega (arith, ltb→lt b a t)

parts-lt : (x y : ℤ) → up x + dn y < up y + dn x → T (lt_z x y)
unfolding up dn
parts-lt (pos a) (pos b) h = lt→ltb a b (omega arith)
parts-lt (pos a) (negsuc b) h = absurd (omega arith)
parts-lt (negsuc a) (pos b) h = tt
parts-lt (negsuc a) (negsuc b) h = lt→ltb b a (omega arith)

pub zle : {x y : ℤ} → x ≤ℤ y → up x + dn y ≤ up y + dn x
zle {x} {y} h = le_parts x y h.le

pub lez : {x y : ℤ} → up x + dn y ≤ up y + dn x → x ≤ℤ y
lez {x} {y} h = record { le = parts-le x y h }

pub zlt : {x y : ℤ} → x <ℤ y → up x + dn y < up y + dn x
zlt {x} {y} h = lt-parts x y h.lt

pub ltz : {x y : ℤ} → up x + dn y < up y + dn x → x <ℤ y
ltz {x} {y} h = record { lt = parts-lt x y h }

pub zeq : {x y : ℤ} → x ≡ y → up x + dn y ≡ up y + dn x
zeq {x} {y} h = subst (λ (z : ℤ). up x + dn z ≡ up z + dn x) h refl

pub eqz : (x y : ℤ) → up x + dn y ≡ up y + dn x → x ≡ y
unfolding up dn
eqz (pos a) (pos b) h = ap pos (omega arith)
eqz (pos a) (negsuc b) h = absurd (omega arith)
eqz (negsuc a) (pos b) h = absurd (omega arith)
eqz (negsuc a) (negsuc b) h = ap negsuc (omega arith)

-- what `omega` needs to read and to prove an order or an equation of ℤ
pub ruleset zarith = (zle, lez, zlt, ltz, zeq, eqz, arith)

-- ---- the operations: z is x + y, x − y, x times a natural number, x times y

pub record Sum (x y z : ℤ) : Type 0 where
  pub is : up z + dn x + dn y ≡ dn z + up x + up y
  pub up≤ : up z ≤ up x + up y
  pub dn≤ : dn z ≤ dn x + dn y

pub record Diff (x y z : ℤ) : Type 0 where
  pub is : up z + dn x + up y ≡ dn z + up x + dn y
  pub up≤ : up z ≤ up x + dn y
  pub dn≤ : dn z ≤ dn x + up y

pub record Times (l : ℤ) (m : ℕ) (z : ℤ) : Type 0 where
  pub up≡ : up z ≡ up l * m
  pub dn≡ : dn z ≡ dn l * m

pub record Product (x y z : ℤ) : Type 0 where
  pub up≡ : up z ≡ up x * up y + dn x * dn y
  pub dn≡ : dn z ≡ up x * dn y + dn x * up y

sub_parts : (a b : ℕ) → (up (sub_ℕ a b) ≡ a - b) × (dn (sub_ℕ a b) ≡ b - a)
unfolding up dn
sub_parts a b = go (ltb a b) refl
  where
    go : (t : Bool) → ltb a b ≡ t → (up (sub_ℕ a b) ≡ a - b) × (dn (sub_ℕ a b) ≡ b - a)
    go true e = rw e (let h = ltb-true a b e in (omega arith, omega arith))
    go false e = rw e (let h = ltb-false a b e in (omega arith, omega arith))

pub zsum : (x y : ℤ) → Sum x y (x +ℤ y)
unfolding up dn
zsum (pos a) (pos b) = omega arith
zsum (pos a) (negsuc b) = omega (arith, sub_parts a (suc b))
zsum (negsuc a) (pos b) = omega (arith, sub_parts b (suc a))
zsum (negsuc a) (negsuc b) = omega arith

pub zdiff : (x y : ℤ) → Diff x y (x -ℤ y)
zdiff x y = omega (arith, zsum x (neg_ℤ y), up_neg y, dn-neg y)

pub ztimes : (l : ℤ) (m : ℕ) → Times l m (l *ℤ pos m)
unfolding up dn
ztimes (pos a) m = omega arith
ztimes (negsuc a) m = omega (arith, up_neg (pos (suc a * m)), dn-neg (pos (suc a * m)))

pub zmul : (x y : ℤ) → Product x y (x *ℤ y)
unfolding up dn
zmul (pos a) (pos b) = omega arith
zmul (pos a) (negsuc b) = omega (arith, up_neg (pos (a * suc b)), dn-neg (pos (a * suc b)))
zmul (negsuc a) (pos b) = omega (arith, up_neg (pos (suc a * b)), dn-neg (pos (suc a * b)))
zmul (negsuc a) (negsuc b) = omega arith

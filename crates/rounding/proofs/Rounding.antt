-- Rounding: to a whole number within a half, at a half to the even one; and equal fractions round alike.
use mathlib.Core.Path.{◌≡◌, refl, sym, ap, ap₂, subst, ◌∙◌}
use mathlib.Core.Bool.{Bool, true, false, cond, not, ◌&&◌, ◌||◌, true≢false, false≢true}
use mathlib.Core.Logic.{◌⊎◌, ⊎_elim, inl, inr}
use Prim.Native.Nat.{ℕ, ◌+◌, ◌-◌, ◌*◌, ◌/◌, ◌%◌, ◌≤◌, ◌<◌}
use native.Mathlib.Nat.{mul-div-mul_right, div-add-mod'}
use native.Mathlib.Nat.{mul-lt-mul_of_pos_right, le_of_mul-le-mul_right, lt_of_mul-lt-mul_right}
use native.Mathlib.Omega.{arith}
use borrow.Author.Tests.{ltb-true, ltb-false, lt-ltb, eqb-true, eq-eqb}
use lib.Dec.{ltb, eqb}
use lib.IntN.{ℤ, pos, neg_ℤ, nat_abs, ◌+ℤ◌, ◌-ℤ◌, ◌*ℤ◌}
use Rattle.integers.proofs.Linear.{up, dn, zarith, zsum, zdiff, ztimes, up_neg, dn-neg}
use Rattle.integers.proofs.Ranges.{abs_neg}
use Rattle.rounding.specs.Fractions.{Fraction, ◌over◌, SignedFraction, ◌overℤ◌, signed}
use Rattle.rounding.specs.Rounding.{even, goes_up, rounded, floor_of, rest_of, roundedℤ, HalfEven}
use Rattle.rounding.proofs.Fractions.{Worth}
use Rattle.rounding.proofs.Division.{rest_below, parts}
use Rattle.rounding.proofs.Parity.{next-turn}

-- ---- what a half does

neither : (a b e : Bool) → a || (b && not e) ≡ false → (a ≡ false) × (b ≡ true → e ≡ true)
neither true b e h = absurd (true≢false h)
neither false true true h = (refl, λ k. refl)
neither false true false h = absurd (true≢false h)
neither false false e h = (refl, λ k. absurd (false≢true k))

either : (a b e : Bool) → a || (b && not e) ≡ true → (a ≡ true) ⊎ ((b ≡ true) × (e ≡ false))
either true b e h = inl refl
either false true true h = absurd (false≢true h)
either false true false h = inr (refl, refl)
either false false e h = absurd (false≢true h)

module _ (quotient rest den : ℕ) where
  pub stays : goes_up quotient rest den ≡ false → (2 * rest ≤ den) × (2 * rest ≡ den → even quotient ≡ true)
  stays h =
      let n = neither (ltb den (2 * rest)) (eqb den (2 * rest)) (even quotient) h in
      (ltb-false den (2 * rest) n.0, λ d. n.1 (eq-eqb den (2 * rest) (sym d)))

  pub goes : goes_up quotient rest den ≡ true → (den ≤ 2 * rest) × (2 * rest ≡ den → even quotient ≡ false)
  goes h =
      ⊎_elim
      (λ l. let more = ltb-true den (2 * rest) l in (omega arith, λ d. absurd (omega arith)))
      (λ w. let same = eqb-true den (2 * rest) w.0 in (omega arith, λ d. w.1))
      (either (ltb den (2 * rest)) (eqb den (2 * rest)) (even quotient) h)

-- ---- within a half, and even at a half

-- how far a number y is from another, so much below or above it
below : (y num : ℤ) (n : ℕ) → num ≡ y +ℤ pos n → nat_abs (y -ℤ num) ≡ n
unfolding up dn
below y num n is =
    let minus : y -ℤ num ≡ neg_ℤ (pos n) = omega (zarith, zdiff y num, zsum y (pos n), up_neg (pos n), dn-neg (pos n)) in
    ap nat_abs minus ∙ abs_neg n

above : (y num : ℤ) (n : ℕ) → y ≡ num +ℤ pos n → nat_abs (y -ℤ num) ≡ n
unfolding up dn
above y num n is = let plus : y -ℤ num ≡ pos n = omega (zarith, zdiff y num, zsum num (pos n)) in ap nat_abs plus

-- so many more, times the divisor
pub raised : (q : ℤ) (n den : ℕ) → (q +ℤ pos n) *ℤ pos den ≡ q *ℤ pos den +ℤ pos (n * den)
unfolding up dn
raised q n den =
    omega (zarith, ztimes (q +ℤ pos n) den, ztimes q den, ap (λ (x : ℕ). x * den) (zsum q (pos n)).is, zsum (q *ℤ pos den) (pos (n * den)))

short : (num x y : ℤ) (r den : ℕ) → num ≡ x +ℤ pos r → y ≡ x +ℤ pos (1 * den) → r < den → y ≡ num +ℤ pos (den - r)
unfolding up dn
short num x y r den is next h = omega (zarith, zsum x (pos r), zsum x (pos (1 * den)), zsum num (pos (den - r)))

nearest :
    (num : ℤ) (den : ℕ) → 0 < den → (t : Bool) → goes_up (nat_abs (floor_of num den)) (rest_of num den) den ≡ t →
    HalfEven (cond t (floor_of num den +ℤ pos 1) (floor_of num den)) (num overℤ den)
nearest num den some true e =
    let q = floor_of num den in
    let r = rest_of num den in
    let g = goes (nat_abs q) r den e in
    let h = rest_below den some num in
    let d = above ((q +ℤ pos 1) *ℤ pos den) num (den - r) (short num (q *ℤ pos den) ((q +ℤ pos 1) *ℤ pos den) r den (parts den some num) (raised q 1 den) h) in
    record { some = some; near = omega (arith, d, g.0); even-at-half = λ half. next-turn q ∙ ap not (g.1 (omega (arith, d, half, h))) }
nearest num den some false e =
    let q = floor_of num den in
    let s = stays (nat_abs q) (rest_of num den) den e in
    let d = below (q *ℤ pos den) num (rest_of num den) (parts den some num) in
    record { some = some; near = omega (arith, d, s.0); even-at-half = λ half. s.1 (omega (arith, d, half)) }

pub rounded-half-evenℤ : (f : SignedFraction) → 0 < f.den → HalfEven (roundedℤ f) f
unfolding roundedℤ
rounded-half-evenℤ f h =
    nearest f.num f.den h (goes_up (nat_abs (floor_of f.num f.den)) (rest_of f.num f.den) f.den) refl

-- a natural fraction rounds as a signed one
rounded-signed : (f : Fraction) → roundedℤ (signed f) ≡ pos (rounded f)
unfolding rounded roundedℤ
rounded-signed f = go (goes_up (f.num / f.den) (f.num % f.den) f.den)
  where
    go : (t : Bool) → cond t (pos (f.num / f.den) +ℤ pos 1) (pos (f.num / f.den)) ≡ pos (cond t (f.num / f.den + 1) (f.num / f.den))
    go true = refl
    go false = refl

pub rounded-half-even : (f : Fraction) → 0 < f.den → HalfEven (pos (rounded f)) (signed f)
rounded-half-even f h = subst (λ (x : ℤ). HalfEven x (signed f)) (rounded-signed f) (rounded-half-evenℤ (signed f) h)

-- ---- equal fractions round alike

same : (p q : Bool) → (p ≡ true → q ≡ true) → (q ≡ true → p ≡ true) → p ≡ q
same true q f g = sym (f refl)
same false true f g = g refl
same false false f g = refl

-- a rest r of a and a rest s of b that are as large a part
module _ (r a s b : ℕ) (a-some : 0 < a) (b-some : 0 < b) (part : r * b ≡ s * a) where
  over-half : a < 2 * r → b < 2 * s
  over-half h = lt_of_mul-lt-mul_right a (omega (arith, part, mul-lt-mul_of_pos_right h b-some))

  at-half : a ≡ 2 * r → b ≡ 2 * s
  at-half h =
      let product : b * a ≡ 2 * s * a = omega (arith, part, ap (λ (x : ℕ). x * b) h) in
      let least : b ≤ 2 * s = le_of_mul-le-mul_right (omega (arith, product)) a-some in
      let most : 2 * s ≤ b = le_of_mul-le-mul_right (omega (arith, product)) a-some in
      omega arith

alike : (quotient r a s b : ℕ) → 0 < a → 0 < b → r * b ≡ s * a → goes_up quotient r a ≡ goes_up quotient s b
alike quotient r a s b h k part =
    ap₂ (λ (o t : Bool). o || (t && not (even quotient)))
    (same (ltb a (2 * r)) (ltb b (2 * s))
    (λ l. lt-ltb b (2 * s) (over-half r a s b h k part (ltb-true a (2 * r) l)))
    (λ l. lt-ltb a (2 * r) (over-half s b r a k h (sym part) (ltb-true b (2 * s) l))))
    (same (eqb a (2 * r)) (eqb b (2 * s))
    (λ l. eq-eqb b (2 * s) (at-half r a s b h k part (eqb-true a (2 * r) l)))
    (λ l. eq-eqb a (2 * r) (at-half s b r a k h (sym part) (eqb-true b (2 * s) l))))

module _ {d n : ℕ} {f : Fraction} (positive : 0 < d) (w : Worth d n f) where
  same-quotient : f.num / f.den ≡ n / d
  same-quotient =
      sym (mul-div-mul_right f.num f.den positive) ∙ ap₂ ◌/◌ w.is (omega arith) ∙ mul-div-mul_right n d w.positive

  same_rest : f.num % f.den * d ≡ n % d * f.den
  same_rest =
      rests (f.num / f.den) (f.num % f.den) (n % d) (div-add-mod' f.num f.den) (rw (sym same-quotient) at (div-add-mod' n d))
    where
      rests : (q r s : ℕ) → q * f.den + r ≡ f.num → q * d + s ≡ n → r * d ≡ s * f.den
      rests q r s a b = omega (arith, w.is, ap (λ (x : ℕ). x * d) a, ap (λ (x : ℕ). x * f.den) b)

  same_way : goes_up (n / d) (f.num % f.den) f.den ≡ goes_up (n / d) (n % d) d
  same_way = alike (n / d) (f.num % f.den) f.den (n % d) d w.positive positive same_rest

  pub rounded-same : rounded f ≡ rounded (n over d)
  unfolding rounded
  rounded-same = rw (same-quotient, same_way)

-- Rounding to the nearest whole number by quotient and rest, of natural and of signed fractions (specification 10, 21). What a half does is said in
-- `goes_up` alone.
use Rattle.std.specs.Prelude.{◌≡◌, Bool, true, cond, not, ◌&&◌, ◌||◌, ℕ, suc, ◌+◌, ◌-◌, ◌*◌, ◌/◌, ◌%◌, ◌≤◌, ◌<◌, ltb, eqb, ℤ, pos, negsuc, nat_abs, ◌+ℤ◌, ◌-ℤ◌, ◌*ℤ◌}
use Rattle.rounding.specs.Fractions.{Fraction, SignedFraction}

-- below zero by how large a number is: −2 is even, as 2 is
abbrev pub even : ℕ → Bool
even size = eqb (size % 2) 0

-- whether the rest of a division takes its quotient to the next whole number: over a half it does, and at a half where the quotient is not even
abbrev pub goes_up : ℕ → ℕ → ℕ → Bool
goes_up quotient rest den = ltb den (2 * rest) || (eqb den (2 * rest) && not (even quotient))

unfoldable pub rounded : Fraction → ℕ
rounded a = cond (goes_up (a.num / a.den) (a.num % a.den) a.den) (a.num / a.den + 1) (a.num / a.den)

-- ---- signed: the quotient is rounded down, so that the rest is not below 0: −1 over 2 is −1 and a rest of 1

abbrev pub floor_of : ℤ → ℕ → ℤ
floor_of (pos n) den = pos (n / den)
floor_of (negsuc n) den = negsuc (n / den)

abbrev pub rest_of : ℤ → ℕ → ℕ
rest_of (pos n) den = n % den
rest_of (negsuc n) den = den - suc (n % den)

unfoldable pub roundedℤ : SignedFraction → ℤ
roundedℤ a =
    cond (goes_up (nat_abs (floor_of a.num a.den)) (rest_of a.num a.den) a.den) (floor_of a.num a.den +ℤ pos 1)
    (floor_of a.num a.den)

-- ---- the same said without dividing

-- how far a whole number is from a fraction, in parts of the fraction's denominator
abbrev pub distance : ℤ → SignedFraction → ℕ
distance whole f = nat_abs (whole *ℤ pos f.den -ℤ f.num)

-- the whole number is a half from the fraction at most, and where it is a half from it, it is even
pub record HalfEven (whole : ℤ) (f : SignedFraction) : Type 0 where
  pub some : 0 < f.den
  pub near : 2 * distance whole f ≤ f.den
  pub even-at-half : 2 * distance whole f ≡ f.den → even (nat_abs whole) ≡ true

-- the fraction is as far from a whole number as from the next one
abbrev pub HalfWay : ℤ → SignedFraction → Type 0
HalfWay below f = distance below f ≡ distance (below +ℤ pos 1) f

-- of a whole number and the next one, the even one
abbrev pub even_of : ℤ → ℤ
even_of below = cond (even (nat_abs below)) below (below +ℤ pos 1)

-- Exact fractions: of natural numbers, and with a signed numerator.
use Rattle.std.specs.Prelude.{ℕ, ◌+◌, ◌*◌, ℤ, pos, ◌+ℤ◌, ◌*ℤ◌}

pub record Fraction : Type 0 where
  pub num : ℕ
  pub den : ℕ

infix 8 ◌over◌
infixl 7 ◌times◌
infixl 6 ◌plus◌
abbrev pub ◌over◌ : ℕ → ℕ → Fraction
n over d = record { num = n; den = d }

abbrev pub whole : ℕ → Fraction
whole n = n over 1

abbrev pub ◌plus◌ : Fraction → Fraction → Fraction
a plus b = (a.num * b.den + b.num * a.den) over (a.den * b.den)

abbrev pub ◌times◌ : Fraction → Fraction → Fraction
a times b = (a.num * b.num) over (a.den * b.den)

-- ---- with a signed numerator

pub record SignedFraction : Type 0 where
  pub num : ℤ
  pub den : ℕ

infix 8 ◌overℤ◌
infixl 7 ◌timesℤ◌
infixl 6 ◌plusℤ◌
abbrev pub ◌overℤ◌ : ℤ → ℕ → SignedFraction
n overℤ d = record { num = n; den = d }

abbrev pub signed : Fraction → SignedFraction
signed a = pos a.num overℤ a.den

abbrev pub ◌plusℤ◌ : SignedFraction → SignedFraction → SignedFraction
a plusℤ b = (a.num *ℤ pos b.den +ℤ b.num *ℤ pos a.den) overℤ (a.den * b.den)

abbrev pub ◌timesℤ◌ : SignedFraction → SignedFraction → SignedFraction
a timesℤ b = (a.num *ℤ b.num) overℤ (a.den * b.den)

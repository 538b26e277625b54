-- Fractions by their worth: sums and products over a denominator of one's own.
use mathlib.Core.Path.{◌≡◌, refl, ap, ◌∙◌}
use Prim.Native.Nat.{ℕ, ◌+◌, ◌*◌, ◌<◌}
use native.Mathlib.Nat.{mul-pos}
use native.Mathlib.Omega.{arith}
use Rattle.rounding.specs.Fractions.{Fraction, ◌over◌, whole, ◌plus◌, ◌times◌}

-- the fraction is n d-ths
pub record Worth (d n : ℕ) (f : Fraction) : Type 0 where
  pub positive : 0 < f.den
  pub is : f.num * d ≡ n * f.den

-- ---- the operations

pub worth-over : {n d : ℕ} → 0 < d → Worth d n (n over d)
worth-over h = record { positive = h; is = refl }

pub worth-whole : (d n : ℕ) → Worth d (n * d) (whole n)
worth-whole d n = record { positive = omega arith; is = omega arith }

pub worth-plus : {d n m : ℕ} {f g : Fraction} → Worth d n f → Worth d m g → Worth d (n + m) (f plus g)
worth-plus {d} {n} {m} {f} {g} v w =
    record {
      positive = mul-pos v.positive w.positive;
      is = omega (arith, ap (λ (x : ℕ). x * g.den) v.is, ap (λ (x : ℕ). x * f.den) w.is);
    }

pub worth-times : {d e n m : ℕ} {f g : Fraction} → Worth d n f → Worth e m g → Worth (d * e) (n * m) (f times g)
worth-times {d} {e} {n} {m} {f} {g} v w =
    record {
      positive = mul-pos v.positive w.positive;
      is = omega (arith, ap (λ (x : ℕ). x * (g.num * e)) v.is, ap (λ (x : ℕ). n * f.den * x) w.is);
    }

-- the same number, written another way
pub worth-as : {d n m : ℕ} {f : Fraction} → Worth d n f → n ≡ m → Worth d m f
worth-as {d} {n} {m} {f} w e = record { positive = w.positive; is = w.is ∙ ap (λ (x : ℕ). x * f.den) e }

-- over a denominator e times as large
pub worth-scaled : (e : ℕ) {d n : ℕ} {f : Fraction} → Worth d n f → Worth (d * e) (n * e) f
worth-scaled e {d} {n} {f} w = record { positive = w.positive; is = omega (arith, ap (λ (x : ℕ). x * e) w.is) }

-- Of a fraction one whole number alone is within a half, and even at a half: half way between two it is the even one.
use mathlib.Core.Path.{◌≡◌, refl, sym, ap, ◌∙◌}
use mathlib.Core.Bool.{Bool, true, false, cond, not, true≢false}
use mathlib.Core.Logic.{⊎_elim}
use Prim.Native.Nat.{ℕ, suc, ◌+◌, ◌-◌, ◌*◌, ◌≤◌, ◌<◌}
use native.Mathlib.Nat.{le-mul_of_pos_right}
use native.Mathlib.Omega.{arith}
use lib.IntN.{ℤ, pos, negsuc, nat_abs, ◌+ℤ◌, ◌-ℤ◌, ◌*ℤ◌}
use lib.Signed.{◌<ℤ◌}
use Rattle.integers.proofs.Linear.{up, dn, zarith, zsum, zdiff}
use Rattle.integers.proofs.Order.{lt_z-dec, ≤ℤ-antisym}
use Rattle.integers.proofs.Ranges.{within-abs}
use Rattle.rounding.specs.Fractions.{SignedFraction}
use Rattle.rounding.specs.Rounding.{even, distance, HalfEven, HalfWay, even_of}
use Rattle.rounding.proofs.Parity.{next-turn}
use Rattle.rounding.proofs.Rounding.{raised}

-- from one number to another it is no further than over a third
around : (num x y : ℤ) (n : ℕ) → y ≡ x +ℤ pos n → n ≤ nat_abs (x -ℤ num) + nat_abs (y -ℤ num)
unfolding up dn
around num x y n is = omega (zarith, zdiff x num, zdiff y num, zsum x (pos n), within-abs (x -ℤ num), within-abs (y -ℤ num))

further : (x y : ℤ) → x <ℤ y → (n : ℕ) × (y ≡ x +ℤ pos (suc n))
unfolding up dn
further x y h = let n = up y + dn x - (up x + dn y) - 1 in (n, omega (zarith, zsum x (pos (suc n))))

module _ (f : SignedFraction) where
  two : (x y : ℤ) → x <ℤ y → HalfEven x f → HalfEven y f → ⊥
  two x y h a b =
      let g = further x y h in
      let is : y *ℤ pos f.den ≡ x *ℤ pos f.den +ℤ pos (suc g.0 * f.den) =
      ap (λ (z : ℤ). z *ℤ pos f.den) g.1 ∙ raised x (suc g.0) f.den
      in
      let far = around f.num (x *ℤ pos f.den) (y *ℤ pos f.den) (suc g.0 * f.den) is in
      let one : g.0 ≡ 0 = omega (arith, far, le-mul_of_pos_right g.0 a.some, a.near, b.near) in
      let next : y ≡ x +ℤ pos 1 = g.1 ∙ ap (λ (n : ℕ). x +ℤ pos (suc n)) one in
      let x-even : even (nat_abs x) ≡ true = a.even-at-half (omega (arith, far, a.near, b.near)) in
      let y-even : even (nat_abs y) ≡ true = b.even-at-half (omega (arith, far, a.near, b.near)) in
      true≢false (sym y-even ∙ ap (λ (z : ℤ). even (nat_abs z)) next ∙ next-turn x ∙ ap not x-even)

  pub alone : (x y : ℤ) → HalfEven x f → HalfEven y f → x ≡ y
  alone x y a b =
      ⊎_elim
      (λ w. absurd (two x y w.1 a b))
      (λ w. ⊎_elim (λ v. absurd (two y x v.1 b a)) (λ v. ≤ℤ-antisym v.1 w.1) (lt_z-dec y x))
      (lt_z-dec x y)

-- ---- half way

-- numbers of one size, so far from each other
opposite : (z w : ℤ) (den : ℕ) → 0 < den → w ≡ z +ℤ pos den → nat_abs z ≡ nat_abs w → 2 * nat_abs z ≡ den
unfolding up dn
opposite (pos a) (pos b) den some is same = omega (zarith, zsum (pos a) (pos den))
opposite (pos a) (negsuc b) den some is same = omega (zarith, zsum (pos a) (pos den))
opposite (negsuc a) (pos b) den some is same = omega (zarith, zsum (negsuc a) (pos den))
opposite (negsuc a) (negsuc b) den some is same = omega (zarith, zsum (negsuc a) (pos den))

less : (num x y : ℤ) (den : ℕ) → y ≡ x +ℤ pos (1 * den) → y -ℤ num ≡ (x -ℤ num) +ℤ pos den
unfolding up dn
less num x y den is = omega (zarith, zsum x (pos (1 * den)), zdiff x num, zdiff y num, zsum (x -ℤ num) (pos den))

module _ (f : SignedFraction) (some : 0 < f.den) (below : ℤ) (half : HalfWay below f) where
  far : 2 * distance below f ≡ f.den
  far =
      opposite (below *ℤ pos f.den -ℤ f.num) ((below +ℤ pos 1) *ℤ pos f.den -ℤ f.num) f.den some
      (less f.num (below *ℤ pos f.den) ((below +ℤ pos 1) *ℤ pos f.den) f.den (raised below 1 f.den)) half

  even-one : HalfEven (even_of below) f
  even-one = go (even (nat_abs below)) refl
    where
      go : (t : Bool) → even (nat_abs below) ≡ t → HalfEven (cond t below (below +ℤ pos 1)) f
      go true e = record { some = some; near = omega (arith, far); even-at-half = λ h. e }
      go false e = record { some = some; near = omega (arith, far, half); even-at-half = λ h. next-turn below ∙ ap not e }

pub half-way : (f : SignedFraction) (below : ℤ) → HalfWay below f → (whole : ℤ) → HalfEven whole f → whole ≡ even_of below
half-way f below half whole h = alone f whole (even_of below) h (even-one f h.some below half)

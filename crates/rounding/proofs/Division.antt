-- Signed division: rounded down, and as the language has it, toward zero.
use mathlib.Core.Path.{◌≡◌, refl, sym, ap, ◌∙◌}
use mathlib.Core.Bool.{Bool, true, false, true≢false}
use mathlib.Core.Logic.{◌⊎◌, ⊎_elim, inl, inr}
use Prim.Native.Nat.{ℕ, suc, ◌/◌, ◌%◌, ◌≤◌, ◌<◌}
use native.Mathlib.Nat.{mod-lt, div-add-mod', div-eq_of_lt-le, div-le_self, mod-le}
use native.Mathlib.Omega.{arith}
use borrow.Author.Tests.{ltb-true, ltb-false, le-ltb}
use lib.Dec.{ltb}
use lib.IntN.{ℤ, pos, negsuc, neg_ℤ, nat_abs, ◌+ℤ◌, ◌-ℤ◌, ◌*ℤ◌}
use lib.Signed.{lt_z, quot_z, rem_z}
use Rattle.integers.proofs.Linear.{up, dn, zarith, zsum, zdiff, ztimes, up_neg, dn-neg}
use Rattle.integers.proofs.Ranges.{abs_neg}
use Rattle.rounding.specs.Rounding.{floor_of, rest_of}

module _ (den : ℕ) (some : 0 < den) where
  -- ---- rounded down: the quotient times the divisor, and a rest below the divisor

  pub rest_below : (num : ℤ) → rest_of num den < den
  rest_below (pos n) = mod-lt n some
  rest_below (negsuc n) = omega arith

  pub parts : (num : ℤ) → num ≡ floor_of num den *ℤ pos den +ℤ pos (rest_of num den)
  unfolding up dn
  parts (pos n) = omega (zarith, div-add-mod' n den)
  parts (negsuc n) =
      omega (
        zarith,
        div-add-mod' n den,
        mod-lt n some,
        ztimes (negsuc (n / den)) den,
        zsum (negsuc (n / den) *ℤ pos den) (pos (rest_of (negsuc n) den)),
      )

  -- ---- toward zero: below zero a rest counts as one less

  -- what one more does: the rest grows by one, or it is full
  abbrev Grown : ℕ → Type 0
  Grown n = (suc n / den ≡ n / den) × (suc n % den ≡ suc (n % den))

  abbrev Full : ℕ → Type 0
  Full n = (suc n / den ≡ suc (n / den)) × (suc n % den ≡ 0) × (suc (n % den) ≡ den)

  next : (n : ℕ) → Grown n ⊎ Full n
  next n = go (ltb (suc (n % den)) den) refl
    where
      go : (t : Bool) → ltb (suc (n % den)) den ≡ t → Grown n ⊎ Full n
      go true e =
          let h = ltb-true (suc (n % den)) den e in
          let q : suc n / den ≡ n / den =
          div-eq_of_lt-le den (omega (arith, div-add-mod' n den)) (omega (arith, div-add-mod' n den))
          in
          inl (q, omega (arith, div-add-mod' n den, rw q at (div-add-mod' (suc n) den)))
      go false e =
          let h = ltb-false (suc (n % den)) den e in
          let full : suc (n % den) ≡ den = omega (arith, mod-lt n some) in
          let q : suc n / den ≡ suc (n / den) =
          div-eq_of_lt-le den (omega (arith, div-add-mod' n den)) (omega (arith, div-add-mod' n den))
          in
          inr (q, omega (arith, div-add-mod' n den, rw q at (div-add-mod' (suc n) den)), full)

  pub record Exact (num : ℤ) : Type 0 where
    pub quotient : quot_z num (pos den) ≡ floor_of num den
    pub rest : rem_z num (pos den) ≡ pos (rest_of num den)

  pub record Short (num : ℤ) : Type 0 where
    pub quotient : quot_z num (pos den) -ℤ pos 1 ≡ floor_of num den
    pub rest : rem_z num (pos den) +ℤ pos den ≡ pos (rest_of num den)

  divided : (num : ℤ) → ((lt_z (rem_z num (pos den)) (pos 0) ≡ false) × Exact num) ⊎ ((lt_z (rem_z num (pos den)) (pos 0) ≡ true) × Short num)
  unfolding up dn
  divided (pos n) = inl (le-ltb (n % den) 0 (omega arith), record { quotient = refl; rest = refl })
  divided (negsuc n) =
      ⊎_elim
      (λ w.
      inr (
        rw w.1,
        record {
          quotient = rw w.0 (omega (zarith, zdiff (neg_ℤ (pos (n / den))) (pos 1), up_neg (pos (n / den)), dn-neg (pos (n / den))));
          rest = rw w.1 (omega (zarith, zsum (negsuc (n % den)) (pos den), mod-lt n some));
        },
      ))
      (λ w. inl (rw w.1, record { quotient = rw w.0; rest = rw w.1 (ap pos (omega (arith, w.2))) }))
      (next n)

  pub exact : (num : ℤ) → lt_z (rem_z num (pos den)) (pos 0) ≡ false → Exact num
  exact num e = ⊎_elim (λ w. w.1) (λ w. absurd (true≢false (sym w.0 ∙ e))) (divided num)

  pub short : (num : ℤ) → lt_z (rem_z num (pos den)) (pos 0) ≡ true → Short num
  short num e = ⊎_elim (λ w. absurd (true≢false (sym e ∙ w.0))) (λ w. w.1) (divided num)

  -- ---- no part is larger than the number

  pub quotient-most : (num : ℤ) → nat_abs (quot_z num (pos den)) ≤ nat_abs num
  quotient-most (pos n) = div-le_self n den
  quotient-most (negsuc n) = rw (abs_neg (suc n / den)) (div-le_self (suc n) den)

  pub left-most : (num : ℤ) → nat_abs (rem_z num (pos den)) ≤ nat_abs num
  left-most (pos n) = mod-le n den
  left-most (negsuc n) = rw (abs_neg (suc n % den)) (mod-le (suc n) den)

  pub floor-most : (num : ℤ) → nat_abs (floor_of num den) ≤ nat_abs num
  floor-most (pos n) = div-le_self n den
  floor-most (negsuc n) = omega (arith, div-le_self n den)

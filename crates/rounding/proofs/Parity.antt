-- Even and odd take turns, below zero too.
use mathlib.Core.Path.{◌≡◌, refl, sym, ap, ◌∙◌}
use mathlib.Core.Bool.{Bool, true, false, not}
use mathlib.Core.Logic.{◌⊎◌, ⊎_elim, inl, inr}
use Prim.Native.Nat.{ℕ, zero, suc, ◌+◌, ◌%◌}
use native.Mathlib.Omega.{arith}
use borrow.Author.Tests.{eqb-true, eqb-false}
use lib.IntN.{ℤ, pos, negsuc, nat_abs, ◌+ℤ◌}
use Rattle.integers.proofs.Linear.{up, dn, zarith, zsum}
use Rattle.rounding.specs.Rounding.{even}

left_over : (n : ℕ) → (n % 2 ≡ 0) ⊎ (n % 2 ≡ 1)
left_over n = go (even n) refl
  where
    go : (t : Bool) → even n ≡ t → (n % 2 ≡ 0) ⊎ (n % 2 ≡ 1)
    go true e = inl (eqb-true (n % 2) 0 e)
    go false e = let h = eqb-false (n % 2) 0 e in inr (omega arith)

turn : (n : ℕ) → even (suc n) ≡ not (even n)
turn n =
    ⊎_elim
    (λ (e : n % 2 ≡ 0). let f : suc n % 2 ≡ 1 = omega arith in rw (e, f))
    (λ (e : n % 2 ≡ 1). let f : suc n % 2 ≡ 0 = omega arith in rw (e, f))
    (left_over n)

back : (a b : Bool) → a ≡ not b → b ≡ not a
back a true e = ap not (sym e)
back a false e = ap not (sym e)

nearer : (n : ℕ) → negsuc (suc n) +ℤ pos 1 ≡ negsuc n
unfolding up dn
nearer n = omega (zarith, zsum (negsuc (suc n)) (pos 1))

pub next-turn : (x : ℤ) → even (nat_abs (x +ℤ pos 1)) ≡ not (even (nat_abs x))
next-turn (pos n) = let more : n + 1 ≡ suc n = omega arith in ap even more ∙ turn n
next-turn (negsuc n) = below n
  where
    below : (n : ℕ) → even (nat_abs (negsuc n +ℤ pos 1)) ≡ not (even (suc n))
    below zero = refl
    below (suc n) = ap (λ (x : ℤ). even (nat_abs x)) (nearer n) ∙ back (even (suc (suc n))) (even (suc n)) (turn (suc n))

-- Two cases, of a test and of an order; a test that is computed for every number below a bound.
use mathlib.Core.Path.{◌≡◌, refl, subst, sym}
use mathlib.Core.Logic.{◌⊎◌, inl, inr, ⊎_elim}
use mathlib.Core.Bool.{Bool, true, false, ◌&&◌}
use Prim.Native.Nat.{ℕ, zero, suc, ◌<◌, ◌≤◌}
use native.Mathlib.Omega.{arith}
use native.Mathlib.Nat.{eq-or-lt_of_le, le_of_suc-le-suc}
use lib.Dec.{eqb, ltb}
use borrow.Author.Tests.{eqb-true, ltb-true, ltb-false}
use Rattle.lists.proofs.Conjunctions.{both}

pub either : (t : Bool) → (t ≡ true) ⊎ (t ≡ false)
either true = inl refl
either false = inr refl

pub order : (a b : ℕ) → (a < b) ⊎ (b ≤ a)
order a b = ⊎_elim (λ (e : ltb a b ≡ true). inl (ltb-true a b e)) (λ (e : ltb a b ≡ false). inr (ltb-false a b e)) (either (ltb a b))

abbrev pub up_to : (ℕ → Bool) → ℕ → Bool
up_to test zero = true
up_to test (suc n) = test n && up_to test n

pub checked : (test : ℕ → Bool) (n : ℕ) → up_to test n ≡ true → (k : ℕ) → k < n → test k ≡ true
checked test zero e k h = absurd (omega arith)
checked test (suc n) e k h =
    let parts = both (test n) (up_to test n) e in
    ⊎_elim (λ (q : k ≡ n). subst (λ (j : ℕ). test j ≡ true) (sym q) parts.0) (λ (l : k < n). checked test n parts.1 k l)
    (eq-or-lt_of_le (le_of_suc-le-suc h))

pub alike : (f g : ℕ → ℕ) (n : ℕ) → up_to (λ k. eqb (f k) (g k)) n ≡ true → (k : ℕ) → k < n → f k ≡ g k
alike f g n e k h = eqb-true (f k) (g k) (checked (λ (k : ℕ). eqb (f k) (g k)) n e k h)

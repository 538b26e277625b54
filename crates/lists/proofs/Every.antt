-- A test of every element, one element at a time: what a loop over a slice needs.
use mathlib.Core.Path.{◌≡◌, refl, ap, sym, ◌∙◌}
use mathlib.Core.Bool.{Bool, true, false, ◌&&◌, not}
use mathlib.Core.List.{List, [], ◌∷◌}
use Prim.Native.Nat.{ℕ, zero, suc, ◌+◌, ◌<◌, ◌≤◌}
use native.Mathlib.Numerals.{add-one}
use native.Mathlib.Omega.{arith}
use lib.ListN.{length, drop, get_or, drop_of_length-le}
use lib.Seq.{drop-cons}
use borrow.Author.Tests.{not-true, not-false}
use Rattle.lists.specs.Every.{every}
use Rattle.lists.proofs.Conjunctions.{both}

module _ {A : Type 0} (test : A → Bool) (otherwise : A) (xs : List A) (i : ℕ) where
  next : i < length xs → every test (drop i xs) ≡ (test (get_or xs i otherwise) && every test (drop (i + 1) xs))
  next h = rw (add-one, drop-cons xs i otherwise)

  -- an element that passes leaves the rest to decide
  pub every-pass : i < length xs → test (get_or xs i otherwise) ≡ true → every test (drop (i + 1) xs) ≡ every test (drop i xs)
  every-pass h e = sym (next h ∙ ap (λ (b : Bool). b && every test (drop (i + 1) xs)) e)

  -- one that fails decides
  pub every-fail : i < length xs → test (get_or xs i otherwise) ≡ false → every test (drop i xs) ≡ false
  every-fail h e = next h ∙ ap (λ (b : Bool). b && every test (drop (i + 1) xs)) e

  pub every-end : length xs ≤ i → every test (drop i xs) ≡ true
  every-end h = ap (every test) (drop_of_length-le xs {i = i} h)

-- what a loop keeps that says `if !test { return false; }`: those from here on decide. Its start, a turn, its way out and its end,
-- for the answer t of the test at place i
pub record EachTested {A : Type 0} (test : A → Bool) (xs : List A) (i : ℕ) : Type 0 where
  pub within : i ≤ length xs
  pub left : every test (drop i xs) ≡ every test xs

pub each_start : {A : Type 0} (test : A → Bool) (xs : List A) → EachTested test xs 0
each_start test xs = record { within = omega arith; left = refl }

module _ {A : Type 0} {test : A → Bool} {xs : List A} {i : ℕ} (w : EachTested test xs i) (otherwise : A) where
  module _ (h : i < length xs) {t : Bool} (is : t ≡ test (get_or xs i otherwise)) where
    pub each_on : not t ≡ false → EachTested test xs (i + 1)
    each_on e = record { within = omega arith; left = every-pass test otherwise xs i h (sym is ∙ not-false t e) ∙ w.left }

    pub each-fails : not t ≡ true → false ≡ every test xs
    each-fails e = sym (every-fail test otherwise xs i h (sym is ∙ not-true t e)) ∙ w.left

  pub each-end : length xs ≤ i → true ≡ every test xs
  each-end h = sym (every-end test otherwise xs i h) ∙ w.left

-- each element of a list that passes
pub every-at : {A : Type 0} (test : A → Bool) (otherwise : A) (xs : List A) (i : ℕ)
    → every test xs ≡ true → i < length xs → test (get_or xs i otherwise) ≡ true
every-at test otherwise [] i e h = absurd (omega arith)
every-at test otherwise (x ∷ xs) zero e h = (both (test x) (every test xs) e).0
every-at test otherwise (x ∷ xs) (suc i) e h = every-at test otherwise xs i (both (test x) (every test xs) e).1 (omega arith)

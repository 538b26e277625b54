-- A number's text, digit by digit.
use mathlib.Core.Path.{◌≡◌, refl, sym, ap, ◌∙◌}
use mathlib.Core.Bool.{Bool, true, false, cond}
use mathlib.Core.List.{List, [], ◌∷◌, ◌++◌}
use Prim.Native.Nat.{ℕ, zero, suc, ◌+◌, ◌/◌, ◌%◌, ◌^◌, ◌≤◌, ◌<◌}
use native.Mathlib.Nat.{pow-suc}
use native.Mathlib.Omega.{arith}
use borrow.Author.Tests.{lt-ltb, le-ltb, ltb-true, ltb-false}
use lib.Dec.{ltb}
use lib.ListN.{length, length-append}
use Rattle.listing.specs.Numbers.{digit, decimal, number}

-- ---- one digit at a time

decimal-small : (k n : ℕ) → n < 10 → decimal (suc k) n ≡ digit n ∷ []
unfolding decimal
decimal-small k n h = simp (lt-ltb n 10 h)

decimal-large : (k n : ℕ) → 10 ≤ n → decimal (suc k) n ≡ decimal k (n / 10) ++ (digit (n % 10) ∷ [])
unfolding decimal
decimal-large k n h = simp (le-ltb n 10 h)

-- places to spare change nothing
spare : (k n : ℕ) → n < 10 ^ suc k → decimal (suc (suc k)) n ≡ decimal (suc k) n
spare zero n h =
    let s : n < 10 = omega (arith, h) in
    decimal-small 1 n s ∙ sym (decimal-small 0 n s)
spare (suc k) n h = go (ltb n 10) refl (λ d. spare k (n / 10) (omega (arith, h, pow-suc 10 (suc k))))
  where
    go : (t : Bool) → ltb n 10 ≡ t → (10 ≤ n → decimal (suc (suc k)) (n / 10) ≡ decimal (suc k) (n / 10))
        → decimal (suc (suc (suc k))) n ≡ decimal (suc (suc k)) n
    go true e i = let s = ltb-true n 10 e in decimal-small (suc (suc k)) n s ∙ sym (decimal-small (suc k) n s)
    go false e i =
        let s = ltb-false n 10 e in
        decimal-large (suc (suc k)) n s ∙ ap (λ (l : List ℕ). l ++ (digit (n % 10) ∷ [])) (i s) ∙ sym (decimal-large (suc k) n s)

pub number_small : (n : ℕ) → n < 10 → number n ≡ digit n ∷ []
unfolding number
number_small n h = decimal-small 19 n h

pub number-large : (n : ℕ) → 10 ≤ n → n < 2 ^ 64 → number n ≡ number (n / 10) ++ (digit (n % 10) ∷ [])
unfolding number
number-large n h k =
    decimal-large 19 n h ∙ ap (λ (l : List ℕ). l ++ (digit (n % 10) ∷ [])) (sym (spare 18 (n / 10) (omega arith)))

-- ---- lengths

pub length-small : (n : ℕ) → n < 10 → length (number n) ≡ 1
length-small n h = ap length (number_small n h)

pub length-large : (n : ℕ) → 10 ≤ n → n < 2 ^ 64 → length (number n) ≡ length (number (n / 10)) + 1
length-large n h k = ap length (number-large n h k) ∙ simp length-append

-- a number below a power of ten has no more digits
pub number_digits : (k n : ℕ) → n < 10 ^ suc k → n < 2 ^ 64 → length (number n) ≤ suc k
number_digits zero n h small = omega (arith, length-small n (omega (arith, h)))
number_digits (suc k) n h small = go (ltb n 10) refl (number_digits k (n / 10) (omega (arith, h, pow-suc 10 (suc k))) (omega (arith, small)))
  where
    go : (t : Bool) → ltb n 10 ≡ t → length (number (n / 10)) ≤ suc k → length (number n) ≤ suc (suc k)
    go true e i = omega (arith, length-small n (ltb-true n 10 e))
    go false e i = omega (arith, i, length-large n (ltb-false n 10 e) small)

decimal-short : (k n : ℕ) → length (decimal k n) ≤ k
unfolding decimal
decimal-short zero n = omega arith
decimal-short (suc k) n = go (ltb n 10) (decimal-short k (n / 10))
  where
    go : (t : Bool) → length (decimal k (n / 10)) ≤ k → length (cond t (digit n ∷ []) (decimal k (n / 10) ++ (digit (n % 10) ∷ []))) ≤ suc k
    go true i = omega arith
    go false i = simp length-append (omega arith)

pub number_short : (n : ℕ) → length (number n) ≤ 20
unfolding number
number_short n = decimal-short 20 n

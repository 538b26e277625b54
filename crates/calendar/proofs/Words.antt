-- The ones of a word's binary digits are the hours that it allows.
use mathlib.Core.Path.{◌≡◌, refl, sym, ap, ap₂, ◌∙◌}
use mathlib.Core.Bool.{cond}
use Prim.Native.Nat.{ℕ, zero, suc, ◌+◌, ◌/◌, ◌%◌, ◌^◌, ◌<◌}
use native.Mathlib.Nat.{add_assoc, div-one, div-eq_of_lt, mod-lt, add-zero, zero-add}
use native.Mathlib.Numerals.{add-one}
use native.Mathlib.Omega.{arith}
use lib.Count.{ones, ones_step}
use lib.Dec.{eqb}
use lib.Pow.{shr-shr}
use Rattle.calendar.specs.Words.{allows, allowed_before, hours_allowed, past_words}
use Rattle.calendar.proofs.Checks.{alike}

-- a digit counts 1 where it is 1
digit : (n : ℕ) → cond (eqb (n % 2) 1) 1 0 ≡ n % 2
digit n = alike (λ k. cond (eqb k 1) 1 0) (λ k. k) 2 refl (n % 2) (mod-lt n (omega arith))

-- the hours that are allowed so far, and the ones of the digits that are left
so_far : (word hour : ℕ) → ones word ≡ allowed_before word hour + ones (word / 2 ^ hour)
so_far word zero = sym (zero-add (ones (word / 1)) ∙ ap ones (div-one word))
so_far word (suc hour) =
    let rest = word / 2 ^ hour in
    let halved : rest / 2 ≡ word / 2 ^ suc hour = shr-shr word hour 1 ∙ ap (λ (k : ℕ). word / 2 ^ k) (add-one hour) in
    so_far word hour
    ∙ ap (λ (n : ℕ). allowed_before word hour + n) (ones_step rest ∙ ap₂ (λ (a b : ℕ). a + ones b) (sym (digit rest)) halved)
    ∙ sym (add_assoc (allowed_before word hour) (cond (allows word hour) 1 0) (ones (word / 2 ^ suc hour)))

pub ones-allowed : (word : ℕ) → word < past_words → ones word ≡ hours_allowed word
unfolding hours_allowed ones
ones-allowed word h =
    so_far word 24 ∙ ap (λ (n : ℕ). allowed_before word 24 + ones n) (div-eq_of_lt {m = 2 ^ 24} h) ∙ add-zero (allowed_before word 24)

-- As many as there is space for.
use Rattle.std.proofs.Common.{◌≡◌, ℕ, zero, suc, ◌*◌, ◌<◌, ◌≤◌, Bool, true, false, cond, ltb, leb, refl, arith, ltb-false, ltb-true, leb-false, leb-true}
use Rattle.enumeration.specs.Lengths.{fitting}

-- k fit, and no more of them
pub record Most (space size n k : ℕ) : Type 0 where
  pub within : k ≤ n
  pub fits : k * size ≤ space
  pub more : (j : ℕ) → k < j → j ≤ n → space < j * size

-- with one more to choose from, k is all of them, or as many as before
last : (space size n k fewer : ℕ) → Most space size (suc n) k → (k ≤ n → fewer ≡ k)
    → (t : Bool) → leb (suc n * size) space ≡ t → (b : Bool) → ltb k (suc n) ≡ b → cond t (suc n) fewer ≡ k
last space size n k fewer m before true e true g =
    let l = leb-true (suc n * size) space e in
    let h = ltb-true k (suc n) g in
    absurd (omega (arith, m.more (suc n) h (omega arith)))
last space size n k fewer m before true e false g = let h = ltb-false k (suc n) g in omega (arith, m.within)
last space size n k fewer m before false e true g = let h = ltb-true k (suc n) g in before (omega arith)
last space size n k fewer m before false e false g =
    let h = ltb-false k (suc n) g in
    let all : k ≡ suc n = omega (arith, m.within) in
    let l = leb-false (suc n * size) space e in
    absurd (omega (arith, rw all at m.fits))

pub fitting-is : (space size n k : ℕ) → Most space size n k → fitting space size n ≡ k
unfolding fitting
fitting-is space size zero k m = omega (arith, m.within)
fitting-is space size (suc n) k m =
    last space size n k (fitting space size n) m
    (λ h. fitting-is space size n k (record { within = h; fits = m.fits; more = λ j a b. m.more j a (omega arith) }))
    (leb (suc n * size) space) refl (ltb k (suc n)) refl

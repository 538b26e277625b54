-- The quarters of a list of prices: as many as there are prices, each with its price and whether it opens.
use mathlib.Core.Path.{◌≡◌, refl, ap, ap₂, ◌∙◌}
use mathlib.Core.Bool.{Bool, true}
use mathlib.Core.List.{List, [], ◌∷◌, map}
use Prim.Native.Nat.{ℕ, zero, suc, ◌+◌, ◌<◌}
use native.Mathlib.Nat.{add-zero}
use native.Mathlib.Omega.{arith}
use lib.IntN.{ℤ, pos}
use lib.ListN.{length, get_or}
use Rattle.optimality.specs.Machine.{Quarter, quarter, quarters_from}

pub quarters-length : (opens : ℕ → Bool) (i : ℕ) (prices : List ℤ) → length (quarters_from opens i prices) ≡ length prices
quarters-length opens i [] = refl
quarters-length opens i (price ∷ prices) = ap suc (quarters-length opens (suc i) prices)

pub quarters-priced : (opens : ℕ → Bool) (i : ℕ) (prices : List ℤ) → map (λ (q : Quarter). q.price) (quarters_from opens i prices) ≡ prices
quarters-priced opens i [] = refl
quarters-priced opens i (price ∷ prices) = ap (◌∷◌ price) (quarters-priced opens (suc i) prices)

-- past the end of a list
abbrev pub no_quarter : Quarter
no_quarter = quarter (pos 0) true

pub quarter-at : (opens : ℕ → Bool) (i : ℕ) (prices : List ℤ) (t : ℕ) → t < length prices
    → get_or (quarters_from opens i prices) t no_quarter ≡ quarter (get_or prices t (pos 0)) (opens (i + t))
quarter-at opens i [] t h = absurd (omega arith)
quarter-at opens i (price ∷ prices) zero h = ap (λ (j : ℕ). quarter price (opens j)) (omega arith)
quarter-at opens i (price ∷ prices) (suc t) h =
    quarter-at opens (suc i) prices t (omega arith) ∙ ap (λ (j : ℕ). quarter (get_or prices t (pos 0)) (opens j)) (omega arith)

-- openings that agree over the prices give the same quarters
pub quarters-same : (a b : ℕ → Bool) (i : ℕ) (prices : List ℤ) → ((t : ℕ) → t < length prices → a (i + t) ≡ b (i + t))
    → quarters_from a i prices ≡ quarters_from b i prices
quarters-same a b i [] h = refl
quarters-same a b i (price ∷ prices) h =
    let first : a i ≡ b i = rw (add-zero i) at (h 0 (omega arith)) in
    ap₂ ◌∷◌ (ap (quarter price) first)
    (quarters-same a b (suc i) prices (λ t k. let e : suc i + t ≡ i + suc t = omega arith in rw e (h (suc t) (omega arith))))

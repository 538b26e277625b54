-- Laws on cells by their places.
use Rattle.std.proofs.Common.{◌≡◌, ℕ, zero, suc, ◌+◌, ◌<◌, List, [], ◌∷◌, length, get_or, ℤ, pos, refl, ap, ap₂, ◌∙◌, arith}
use Rattle.enumeration.specs.Fillings.{cells_from}

module _ (cell : ℕ → ℤ) where
  cells_at : (place n i : ℕ) (d : ℤ) → i < n → get_or (cells_from cell place n) i d ≡ cell (place + i)
  cells_at place zero i d h = absurd (omega arith)
  cells_at place (suc n) zero d h = let e : place ≡ place + 0 = omega arith in ap cell e
  cells_at place (suc n) (suc i) d h = let e : suc place + i ≡ place + suc i = omega arith in cells_at (suc place) n i d (omega arith) ∙ ap cell e

  -- a list is the cells that each of its places has
  cells_by_place : (place : ℕ) (s : List ℤ) → ((k : ℕ) → k < length s → get_or s k (pos 0) ≡ cell (place + k))
      → s ≡ cells_from cell place (length s)
  cells_by_place place [] h = refl
  cells_by_place place (x ∷ xs) h =
      let first : place + 0 ≡ place = omega arith in
      ap₂ (λ (y : ℤ) (l : List ℤ). y ∷ l) (h 0 (omega arith) ∙ ap cell first)
      (cells_by_place (suc place) xs (λ k b. let e : place + suc k ≡ suc place + k = omega arith in h (suc k) (omega arith) ∙ ap cell e))

  -- the same, by the index
  pub cell_at : (n i : ℕ) → i < n → get_or (cells_from cell 0 n) i (pos 0) ≡ cell i
  cell_at n i h = let e : 0 + i ≡ i = omega arith in cells_at 0 n i (pos 0) h ∙ ap cell e

  pub cells_by_index : (s : List ℤ) → ((k : ℕ) → k < length s → get_or s k (pos 0) ≡ cell k) → s ≡ cells_from cell 0 (length s)
  cells_by_index s h = cells_by_place 0 s (λ k b. let e : k ≡ 0 + k = omega arith in h k b ∙ ap cell e)

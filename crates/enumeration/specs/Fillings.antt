-- What the cells of a scratch hold on entry, and what is to be left in them.
use Rattle.std.specs.Prelude.{ℕ, zero, suc, ◌+◌, ◌%◌, cond, List, [], ◌∷◌, ℤ, pos, ◌-ℤ◌, nat_lt}

-- a number that is not 0, by the cell's place
abbrev pub filling : ℕ → ℤ
filling place = pos 0 -ℤ pos (7777 + place % 1000)

-- the cells used are 0, and those beyond as they were
abbrev pub left_at : ℕ → ℕ → ℤ
left_at used place = cond (nat_lt place used) (pos 0) (filling place)

-- n cells from a place on
abbrev pub cells_from : (ℕ → ℤ) → ℕ → ℕ → List ℤ
cells_from cell place zero = []
cells_from cell place (suc n) = cell place ∷ cells_from cell (suc place) n

-- The draws of a generated case: x goes to 48271 × x modulo 2^31 − 1.
use Rattle.std.specs.Prelude.{ℕ, zero, suc, ◌*◌, ◌%◌, List, [], ◌∷◌}

abbrev pub next : ℕ → ℕ
next x = x * 48271 % 2147483647

unfoldable pub draws_after : ℕ → ℕ → List ℕ
draws_after zero x = []
draws_after (suc n) x = next x ∷ draws_after n (next x)

unfoldable pub draws_from : ℕ → List ℕ
draws_from seed = draws_after 32 seed

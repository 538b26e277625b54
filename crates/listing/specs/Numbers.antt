-- Numbers as decimal text (specification 12).
use Rattle.std.specs.Prelude.{cond, List, [], ◌∷◌, ◌++◌, ℕ, zero, suc, ◌+◌, ◌/◌, ◌%◌, ltb, ℤ, pos, negsuc}

abbrev pub digit : ℕ → ℕ
digit d = 48 + d

-- a number of at most so many digits, without needless leading zeros
unfoldable pub decimal : ℕ → ℕ → List ℕ
decimal zero n = []
decimal (suc places) n = cond (ltb n 10) (digit n ∷ []) (decimal places (n / 10) ++ (digit (n % 10) ∷ []))

-- 20 digits hold any number of 64 bits
unfoldable pub number : ℕ → List ℕ
number n = decimal 20 n

-- a minus before the magnitude of a number below zero
abbrev pub signed_number : ℤ → List ℕ
signed_number (pos n) = number n
signed_number (negsuc n) = 45 ∷ number (suc n)

-- A size that is given up beyond a most, as no one can lend so much.
use Rattle.std.specs.Prelude.{cond, ℕ, leb}

-- 2^64 - 1, which stands for it
abbrev pub largest : ℕ
largest = 18446744073709551615

-- the size where it is at most so many, else the largest number
unfoldable pub capped : ℕ → ℕ → ℕ
capped most size = cond (leb size most) size largest

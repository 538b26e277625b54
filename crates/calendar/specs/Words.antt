-- A word of permitted hours (specification 22): bit h allows clock hour h.
use Rattle.std.specs.Prelude.{Bool, cond, ℕ, zero, suc, ◌+◌, ◌/◌, ◌%◌, ◌^◌, eqb}

abbrev pub allows : ℕ → ℕ → Bool
allows word hour = eqb (word / 2 ^ hour % 2) 1

-- how many of the hours before this one it allows
abbrev pub allowed_before : ℕ → ℕ → ℕ
allowed_before word zero = 0
allowed_before word (suc hour) = allowed_before word hour + cond (allows word hour) 1 0

-- words of 24 bits are below this
abbrev pub past_words : ℕ
past_words = 16777216

-- of the 24 hours of the clock
unfoldable pub hours_allowed : ℕ → ℕ
hours_allowed word = allowed_before word 24

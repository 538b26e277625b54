-- The hour word of a case, where it has one; the answer of writing; and whether a text fits a buffer.
use Rattle.std.specs.Prelude.{ℕ, Option, Result}
use Rattle.commitment.specs.declared.Cause.{Cause}

abbrev pub HourWord : Type 0
HourWord = Option ℕ

-- so many bytes
abbrev pub Written : Type 0
Written = Result ℕ Cause

-- its length, where it fits
abbrev pub Fit : Type 0
Fit = Option ℕ

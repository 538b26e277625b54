-- What was read is in the slice that was lent; what the bytes are, the system alone knows.
use Rattle.std.specs.Prelude.{ℕ, ◌≤◌, Result, IfOk}

-- So many bytes, where no read failed.
abbrev pub Within : {E : Type 0} → Result ℕ E → ℕ → Type 0
Within answer room = IfOk answer (λ count. count ≤ room)

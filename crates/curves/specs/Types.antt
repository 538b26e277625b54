-- The answer of a bid curve: how many segments it has.
use Rattle.std.specs.Prelude.{ℕ, Result}
use Rattle.commitment.specs.declared.Cause.{Cause}

abbrev pub Curved : Type 0
Curved = Result ℕ Cause

-- The answer to a question for a clock hour.
use Rattle.std.specs.Prelude.{ℕ, Result}
use Rattle.commitment.specs.declared.Cause.{Cause}

abbrev pub ClockRead : Type 0
ClockRead = Result ℕ Cause

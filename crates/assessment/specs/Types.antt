-- The answer to a schedule that is handed in, its profit; and where a walk over it ends, if it is not broken off.
use Rattle.std.specs.Prelude.{ℤ, Option, Result}
use Rattle.commitment.specs.declared.Cause.{Cause}
use Rattle.assessment.specs.declared.Walk.{Walk}

abbrev pub Assessed : Type 0
Assessed = Result ℤ Cause

abbrev pub Walked : Type 0
Walked = Option Walk

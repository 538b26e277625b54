-- The answer of the cost figures.
use Rattle.std.specs.Prelude.{Result}
use Rattle.commitment.specs.declared.Cause.{Cause}
use Rattle.costs.specs.declared.CostFigures.{CostFigures}

abbrev pub Costed : Type 0
Costed = Result CostFigures Cause

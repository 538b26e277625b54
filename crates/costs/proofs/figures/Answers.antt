use Rattle.std.proofs.Common.{rules}
use Rattle.costs.specs.Answers.{costed}
use Rattle.costs.proofs.figures.Goals as goal

pub returns-in_err-check_inputs : goal.returns-in_err-check_inputs
unfolding costed
returns-in_err-check_inputs c = search rules

pub returns : goal.returns
unfolding costed
returns c = search rules

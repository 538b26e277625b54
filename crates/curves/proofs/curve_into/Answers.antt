-- In the room that all three lists have.
use Rattle.std.proofs.Common.{rules, refl, sym, ap, ◌∙◌}
use Rattle.curves.specs.Answers.{curved, curve_left}
use Rattle.curves.proofs.curve_into.Goals as goal

pub returns-in_err-check_curve-clause-value : goal.returns-in_err-check_curve-clause-value
unfolding curved curve_left
returns-in_err-check_curve-clause-value c = search rules

pub returns-in_err-check_curve-clause-froms_after : goal.returns-in_err-check_curve-clause-froms_after
unfolding curved curve_left
returns-in_err-check_curve-clause-froms_after c = search rules

pub returns-in_err-check_curve-clause-tos_after : goal.returns-in_err-check_curve-clause-tos_after
unfolding curved curve_left
returns-in_err-check_curve-clause-tos_after c = search rules

pub returns-in_err-check_curve-clause-prices_after : goal.returns-in_err-check_curve-clause-prices_after
unfolding curved curve_left
returns-in_err-check_curve-clause-prices_after c = search rules

pub returns-clause-value : goal.returns-clause-value
unfolding curved curve_left
returns-clause-value c = search rules

pub returns-clause-froms_after : goal.returns-clause-froms_after
unfolding curved curve_left
returns-clause-froms_after c = search rules

pub returns-clause-tos_after : goal.returns-clause-tos_after
unfolding curved curve_left
returns-clause-tos_after c = search rules

pub returns-clause-prices_after : goal.returns-clause-prices_after
unfolding curved curve_left
returns-clause-prices_after c = search rules

-- The number of a change of time is small.
use Rattle.std.proofs.Common.{arith}
use Rattle.calendar.proofs.Changes.{change-small}
use Rattle.calendar.proofs.hours_to.Goals as goal

pub overflow_mul-result : goal.overflow_mul-result
overflow_mul-result c = omega (arith, c.change_day.ensures, change-small c.args.before c.requires.0)

pub overflow_add-result : goal.overflow_add-result
overflow_add-result c = omega (arith, c.change_day.ensures, change-small c.args.before c.requires.0)

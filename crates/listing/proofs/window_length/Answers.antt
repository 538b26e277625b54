use Rattle.std.proofs.Common.{arith}
use Rattle.listing.proofs.Numbers.{number_short}
use Rattle.listing.proofs.window_length.Goals as goal

pub overflow_add-result : goal.overflow_add-result
overflow_add-result c = omega (arith, number_short c.hours_allowed.result)

-- A case that passed is in order.
use Rattle.std.proofs.Common.{true, sym, ap, ◌∙◌}
use Rattle.commitment.proofs.Passing.{passing}
use Rattle.exports.proofs.ralwinga_cells.Goals as goal

pub cells_needed-requires : goal.cells_needed-requires
cells_needed-requires c = (passing c.from-record.result true c.args.intervals (sym c.check_case.ensures ∙ c.in-Ok.is)).order

pub cells_long-requires : goal.cells_long-requires
cells_long-requires c = (passing c.from-record.result true c.args.intervals (sym c.check_case.ensures ∙ c.in-Ok.is)).order

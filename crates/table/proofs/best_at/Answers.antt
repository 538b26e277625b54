-- The cell stands in the layer.
use Rattle.std.proofs.Common.{arith}
use Rattle.geometry.proofs.Places.{index-lt}
use Rattle.table.proofs.best_at.Goals as goal

pub offset_bounds-scratch-i : goal.offset_bounds-scratch-i
offset_bounds-scratch-i c = omega (arith, c.index-i.ensures, index-lt c.args.f c.args.at c.requires.1, c.requires.2)

pub bounds-scratch-i : goal.bounds-scratch-i
bounds-scratch-i c = omega (arith, c.index-i.ensures, index-lt c.args.f c.args.at c.requires.1, c.requires.2)

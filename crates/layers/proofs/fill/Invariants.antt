-- Whatever the last layer says, the layers from t on are filled by it.
use mathlib.Core.List.{[]}
use Rattle.std.proofs.Common.{◌*◌, length}
use Rattle.commitment.specs.Types.{BestProfit}
use Rattle.optimality.specs.declared.Cell.{Cell}
use Rattle.geometry.specs.Geometry.{width}
use Rattle.geometry.specs.Layers.{stored_at, Layer}
use Rattle.layers.specs.Filling.{quarters_on}
use Rattle.layers.proofs.Filling.{FilledFrom}
use Rattle.layers.proofs.fill.Given as goal

abbrev pub invariant-loop-t : goal.invariant-loop-t
invariant-loop-t l =
    (ends : Cell → BestProfit) → Layer l.f ends [] (stored_at l.f l.fn.scratch (length (quarters_on l.hours l.first l.prices) * width l.f))
    → FilledFrom l.f ends (quarters_on l.hours l.first l.prices) l.fn.scratch l.scratch l.t

-- Whatever the layer after the last interval said, the layer of interval t stands behind, and beyond the two layers all is as it was.
use mathlib.Core.List.{[]}
use Rattle.std.proofs.Common.{ℕ, ◌+◌, ◌-◌, ◌≤◌, ◌<◌}
use Rattle.commitment.specs.Types.{BestProfit}
use Rattle.commitment.specs.Bounds.{most_intervals}
use Rattle.optimality.specs.declared.Cell.{Cell}
use Rattle.geometry.specs.Geometry.{width}
use Rattle.geometry.specs.Layers.{LayerBefore, stored_at}
use Rattle.layers.specs.Filling.{quarters_in, between, Beyond}
use Rattle.pair.proofs.roll.Given as goal

abbrev pub invariant-loop-t : goal.invariant-loop-t
invariant-loop-t l =
    (l.from < l.t)
    × ((ends : Cell → BestProfit) (n : ℕ) → n + (l.to - l.from) ≤ most_intervals → LayerBefore n l.f ends [] (stored_at l.f l.fn.scratch (width l.f))
    → LayerBefore n l.f ends (between (quarters_in l.hours l.prices) l.t l.to) (stored_at l.f l.scratch (width l.f)))
    × Beyond (width l.f + width l.f) l.fn.scratch l.scratch

use Rattle.std.proofs.Common.{◌≡◌, true, ◌+◌, length}
use Rattle.lists.specs.Every.{every}
use Rattle.commitment.specs.Bounds.{most_mw}
use Rattle.costs.specs.Ranges.{one_to}
use Rattle.costs.specs.Numerators.{weighted_units}
use Rattle.costs.proofs.weighted_units.Given as goal

-- the sum so far and the sum over the segments left make the whole
abbrev pub invariant-loop-mw : goal.invariant-loop-mw
invariant-loop-mw l =
    let mws = l.mw-iterator.a.rest.now in
    let heats = l.mw-iterator.b.rest.now in
    (l.sum + weighted_units l.price l.om mws heats ≡ weighted_units l.price l.om l.mws l.heats)
    × (every (one_to most_mw) mws ≡ true)
    × (length mws ≡ length heats)

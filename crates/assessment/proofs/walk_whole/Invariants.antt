use Rattle.std.proofs.Common.{◌≡◌, ◌≤◌, ◌-◌, true, length}
use Rattle.lists.specs.Every.{every}
use Rattle.commitment.specs.Ranges.{price_kept}
use Rattle.assessment.specs.Walking.{opening_walk, walk_from}
use Rattle.assessment.proofs.Bounds.{Bounded}
use Rattle.assessment.proofs.walk_whole.Given as goal

-- the walk over what is left, from where it stands, is the whole walk; its prices are kept, and the totals are small
abbrev pub invariant-loop-price : goal.invariant-loop-price
invariant-loop-price l =
    let prices = l.price-iterator.a.rest.now in
    let schedule = l.price-iterator.b.rest.now in
    (walk_from l.unit l.at prices schedule ≡ walk_from l.unit (opening_walk l.unit.opening) l.prices l.schedule)
    × (length prices ≤ length l.prices)
    × (length schedule ≡ length prices)
    × (every price_kept prices ≡ true)
    × Bounded (length l.prices - length prices) l.at

-- The ends of the ranges that bid curves alone have (specification 21). Levels end as MW do, rates, gas, om and gmc as in the cost figures.
use Rattle.std.specs.Prelude.{ℕ}

-- the points of a curve
abbrev pub fewest_points : ℕ
fewest_points = 2

abbrev pub most_points : ℕ
most_points = 11

-- the adder of a bid, cents
abbrev pub most_bid_adder : ℕ
most_bid_adder = 1000000

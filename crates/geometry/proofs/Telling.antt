-- A cell's number tells whether there is a schedule, and its profit.
use Rattle.std.specs.Prelude.{None, Some}
use mathlib.Core.Path.{◌≡◌, refl, ap}
use Prim.Native.Nat.{ℕ, ◌^◌, ◌≤◌}
use native.Mathlib.Nat.{zero-mul, zero-add}
use native.Mathlib.Omega.{arith}
use mathlib.Core.List.{List}
use lib.IntN.{ℤ}
use lib.ListN.{length}
use Rattle.integers.proofs.Linear.{up, dn, zarith}
use Rattle.integers.proofs.Order.{lt-lt_z, le-lt_z}
use Rattle.integers.proofs.Ranges.{within-abs}
use Rattle.commitment.specs.Types.{BestProfit}
use Rattle.commitment.specs.Bounds.{most_intervals}
use Rattle.optimality.specs.declared.Figures.{Figures}
use Rattle.optimality.specs.declared.Cell.{Cell}
use Rattle.optimality.specs.Machine.{Quarter}
use Rattle.optimality.specs.Cells.{InTable, value_at}
use Rattle.geometry.specs.Geometry.{width, index}
use Rattle.geometry.specs.Layers.{halfway, told, Holds, in_front, Layer, Filled}
use Rattle.geometry.proofs.Holding.{above-infeasible}

up-halfway : up halfway ≡ 0
unfolding up
up-halfway = refl

dn-halfway : dn halfway ≡ 2 ^ 61
unfolding dn
dn-halfway = refl

pub told_is : (n : ℕ) (v : BestProfit) (a : ℤ) → n ≤ most_intervals → Holds n v a → told a ≡ v
told_is n None a short h = rw (lt-lt_z a halfway (omega (zarith, above-infeasible n short, h.1, up-halfway, dn-halfway)))
told_is n (Some p) a short h =
    rw (le-lt_z a halfway (omega (zarith, within-abs p, h.0, h.1, up-halfway, dn-halfway))) (ap Some h.0)

-- a cell of a layer at the front tells its best profit
pub front-told : (f : Figures) (ends : Cell → BestProfit) (quarters : List Quarter) (cells : List ℤ) (c : Cell)
    → Layer f ends quarters (in_front f cells) → length quarters ≤ most_intervals
    → InTable f c
    → told (in_front f cells c) ≡ value_at f ends quarters c
front-told f ends quarters cells c layer short inside =
    told_is (length quarters) (value_at f ends quarters c) (in_front f cells c) short (layer.holds c inside)

-- as the first layer of a filled table is
pub first-layer : (f : Figures) (ends : Cell → BestProfit) (quarters : List Quarter) (cells : List ℤ)
    → Filled f ends quarters cells → Layer f ends quarters (in_front f cells)
first-layer f ends quarters cells filled =
    record { holds = λ c inside. rw (zero-mul (width f), zero-add (index f c)) at ((filled.layers 0 (omega arith)).holds c inside) }

-- Two layers of scratch, for one interval: its own at the front, and the one behind it.
use Rattle.std.specs.Prelude.{◌≡◌, List, [], ℕ, ◌+◌, ◌-◌, ◌≤◌, ◌<◌, ℤ, length, drop}
use Rattle.commitment.specs.Types.{BestProfit}
use Rattle.commitment.specs.Types.{Hours}
use Rattle.commitment.specs.Bounds.{most_intervals}
use Rattle.commitment.specs.Ranges.{Priced}
use Rattle.commitment.specs.Windows.{Clocked}
use Rattle.optimality.specs.declared.Cell.{Cell}
use Rattle.optimality.specs.declared.Figures.{Figures}
use Rattle.optimality.specs.Machine.{Quarter}
use Rattle.optimality.specs.Cells.{Sound, InTable}
use Rattle.geometry.specs.Geometry.{width}
use Rattle.geometry.specs.Layers.{Room, LayerBefore, stored_at, in_front}
use Rattle.intervals.specs.Turns.{quarter_stored}

-- what is lent: room for one interval, whatever the number of prices, and the hours in which the unit may run
pub record Lent (f : Figures) (w : ℕ) (prices cells : List ℤ) (hours : Hours) : Type 0 where
  pub room : Room f 1 (length cells)
  pub wide : w ≡ width f
  pub short : length prices ≤ most_intervals
  pub priced : Priced prices
  pub clocked : Clocked hours

-- so many intervals to roll through; the layer after the last of them stands behind, with `ahead` intervals more after it
pub record RollAsked (f : Figures) (w : ℕ) (prices cells : List ℤ) (hours : Hours) (from to : ℕ) : Type 0 where
  pub sound : Sound f
  pub wide : w ≡ width f
  pub fits : w + w ≤ length cells
  pub priced : Priced prices
  pub clocked : Clocked hours
  pub short : length prices ≤ most_intervals
  pub some : from < to
  pub inside : to ≤ length prices
  pub ends : Cell → BestProfit
  pub ahead : ℕ
  pub few : ahead + (to - from) ≤ most_intervals
  pub last : LayerBefore ahead f ends [] (stored_at f cells (width f))

-- whatever that layer said, the front is the layer before these quarters
abbrev pub RolledBy : Figures → List Quarter → List ℤ → List ℤ → Type 0
RolledBy f quarters was cells =
    (ends : Cell → BestProfit) (n : ℕ) → n + length quarters ≤ most_intervals → LayerBefore n f ends [] (stored_at f was (width f))
    → LayerBefore n f ends quarters (in_front f cells)

-- every cell of the layer behind is made from what stood there, and nothing beyond the two is touched
pub record Earlier (f : Figures) (q : Quarter) (was cells : List ℤ) : Type 0 where
  pub inside : (c : Cell) → InTable f c → stored_at f cells (width f) c ≡ quarter_stored f (stored_at f was (width f)) c q
  pub beyond : drop (width f + width f) cells ≡ drop (width f + width f) was

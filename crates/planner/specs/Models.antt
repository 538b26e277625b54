-- What a case is worked out with, and what the first layer and the cells behind it have to be.
use Rattle.std.specs.Prelude.{◌≡◌, Bool, true, false, List, ℕ, ◌≤◌, leb, ℤ, length}
use Rattle.commitment.specs.declared.UnitRecord.{UnitRecord}
use Rattle.commitment.specs.Cells.{cells_needed, cells_long}
use Rattle.commitment.specs.Ranges.{InOrder, Priced}
use Rattle.commitment.specs.Windows.{HoursOf}
use Rattle.optimality.specs.Machine.{anywhere}
use Rattle.optimality.specs.Cells.{figures_of}
use Rattle.geometry.specs.Geometry.{width}
use Rattle.geometry.specs.Layers.{Filled, Layer, in_front}
use Rattle.layers.specs.Filling.{quarters_in}
use Rattle.halving.specs.Tasks.{FirstPass}
use Rattle.planner.specs.declared.models.Model.{Model}

-- the model of a case in order, to which so many cells are lent
pub record ModelOf (u : UnitRecord) (prices : List ℤ) (lent : ℕ) (m : Model) : Type 0 where
  pub order : InOrder u (length prices)
  pub some : 1 ≤ length prices
  pub priced : Priced prices
  pub needed : cells_needed u (length prices) ≤ lent
  pub figures : m.figures ≡ figures_of u (length prices)
  pub wide : m.width ≡ width m.figures
  pub opened : HoursOf u.permit m.hours
  pub long : m.long ≡ leb (cells_long u (length prices)) lent

-- the first layer stands in front; the long table is filled, and for a plan from two layers the first pass is done
pub record Begun (m : Model) (prices : List ℤ) (planning : Bool) (cells : List ℤ) : Type 0 where
  pub layer : Layer m.figures anywhere (quarters_in m.hours prices) (in_front m.figures cells)
  pub filled : m.long ≡ true → Filled m.figures anywhere (quarters_in m.hours prices) cells
  pub passed : m.long ≡ false → planning ≡ true → FirstPass m.figures prices m.hours m.width cells

-- ready for a plan
pub record Ready (u : UnitRecord) (prices : List ℤ) (m : Model) (cells : List ℤ) : Type 0 where
  pub model : ModelOf u prices (length cells) m
  pub begun : Begun m prices true cells

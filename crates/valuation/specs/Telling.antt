-- What the functions that look up a run ask: a first layer that tells the best profit of every cell.
use Rattle.std.specs.Prelude.{◌≡◌, List, ℕ, ◌^◌, ◌≤◌, ◌<◌, ℤ, pos, nat_abs, length, Some, None}
use Rattle.commitment.specs.Types.{BestProfit}
use Rattle.commitment.specs.declared.UnitRecord.{UnitRecord}
use Rattle.commitment.specs.Ranges.{InOrder}
use Rattle.optimality.specs.declared.Cell.{Cell}
use Rattle.optimality.specs.declared.Figures.{Figures}
use Rattle.optimality.specs.Machine.{anywhere}
use Rattle.optimality.specs.Cells.{figures_of, quarters_of, InTable, value_at}
use Rattle.geometry.specs.Geometry.{width}
use Rattle.geometry.specs.Layers.{told, in_front}

-- a profit, 0 where there is none, and the most that the difference of two leaves room for
abbrev pub amount : BestProfit → ℤ
amount None = pos 0
amount (Some p) = p

abbrev pub most_amount : ℕ
most_amount = 2 ^ 61

-- a case in order, of whose table the first layer tells the best profit of every cell
pub record Told (u : UnitRecord) (prices cells : List ℤ) : Type 0 where
  pub order : InOrder u (length prices)
  pub wide : width (figures_of u (length prices)) ≤ length cells
  pub first : (c : Cell) → InTable (figures_of u (length prices)) c
      → told (in_front (figures_of u (length prices)) cells c) ≡ value_at (figures_of u (length prices)) anywhere (quarters_of u prices) c
  pub small : (c : Cell) → InTable (figures_of u (length prices)) c
      → nat_abs (amount (value_at (figures_of u (length prices)) anywhere (quarters_of u prices) c)) < most_amount

-- to one who has the figures of the case
abbrev pub ToldBy : Figures → UnitRecord → List ℤ → List ℤ → Type 0
ToldBy f u prices cells = Told u prices cells × (f ≡ figures_of u (length prices))

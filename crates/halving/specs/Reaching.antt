-- A plan up to a layer that stands in front of the scratch and says what every cell is worth where the prices end.
use Rattle.std.specs.Prelude.{◌≡◌, List, ◌++◌, ℕ, ◌+◌, ◌-◌, ◌*◌, ◌≤◌, ℤ, ◌+ℤ◌, length, take, drop, Some, None}
use Rattle.commitment.specs.Types.{BestProfit}
use Rattle.commitment.specs.Best.{plan}
use Rattle.commitment.specs.Bounds.{most_blocks, most_intervals}
use Rattle.commitment.specs.Ranges.{Priced}
use Rattle.commitment.specs.Tries.{tries_over}
use Rattle.commitment.specs.Windows.{Clocked}
use Rattle.optimality.specs.declared.Cell.{Cell}
use Rattle.optimality.specs.Machine.{Quarter, go, in_quarter, walk}
use Rattle.optimality.specs.Cells.{Sound, InTable, cell_step, plan_at, value_at}
use Rattle.geometry.specs.Geometry.{width}
use Rattle.geometry.specs.Layers.{LayerAt}
use Rattle.layers.specs.Filling.{quarters_in, between}
use Rattle.marks.specs.Lines.{value_of}
use Rattle.marks.specs.declared.Frame.{Frame}
use Rattle.halving.specs.declared.ahead.Leg.{Leg}
use Rattle.halving.specs.declared.ahead.Reached.{Reached}

abbrev pub quarters_over : Frame → List ℤ → Leg → List Quarter
quarters_over g prices l = between (quarters_in g.hours prices) l.from l.to

-- a cell that has a plan, a place in a schedule for it, and room for two layers
pub record LegAsked (g : Frame) (cells prices : List ℤ) (room : ℕ) (l : Leg) (schedule : ℕ) : Type 0 where
  pub sound : Sound g.figures
  pub wide : g.width ≡ width g.figures
  pub two : g.width + g.width ≤ room
  pub fits : room ≤ length cells
  pub priced : Priced prices
  pub clocked : Clocked g.hours
  pub ordered : l.from ≤ l.to
  pub inside : l.to ≤ length prices
  pub short : length prices ≤ most_intervals
  pub long : l.to ≤ schedule
  pub here : InTable g.figures l.cell
  pub worth : Cell → BestProfit
  pub ahead : ℕ
  pub few : ahead + (l.to - l.from) ≤ most_intervals
  pub layer : LayerAt g.figures ahead worth (value_of g.figures g.width cells)
  pub some : value_at g.figures worth (quarters_over g prices l) l.cell ≡ None → ⊥

-- the best plan stands in its place of the schedule and leads to the cell given, and the rest is as it was; so many outputs were tried
pub record ReachedBy (g : Frame) (prices : List ℤ) (l : Leg) (worth : Cell → BestProfit) (was now : List ℕ) (r : Reached) : Type 0 where
  pub inside : InTable g.figures r.cell
  pub outputs : List ℕ
  pub earned : ℤ
  pub leads : walk Cell Quarter (in_quarter (cell_step g.figures)) (quarters_over g prices l) l.cell outputs ≡ go earned r.cell
  pub profit : ℤ
  pub later : worth r.cell ≡ Some profit
  pub best : plan_at g.figures worth (quarters_over g prices l) l.cell ≡ plan outputs (earned +ℤ profit)
  pub written : now ≡ take l.from was ++ (outputs ++ drop l.to was)
  pub tried : r.tries ≡ tries_over g.figures.block g.figures.pmin outputs
  pub few : r.tries ≤ (l.to - l.from) * (most_blocks + 1)

-- whatever the layer said that stood in front
abbrev pub RunsTo : Frame → List ℤ → Leg → List ℤ → List ℕ → List ℕ → Reached → Type 0
RunsTo g prices l cells was now r =
    (worth : Cell → BestProfit) (n : ℕ) → n + (l.to - l.from) ≤ most_intervals → LayerAt g.figures n worth (value_of g.figures g.width cells)
    → (value_at g.figures worth (quarters_over g prices l) l.cell ≡ None → ⊥) → ReachedBy g prices l worth was now r

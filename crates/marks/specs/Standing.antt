-- The cell where a plan stands after its first intervals, and a layer whose marks go with that cell.
use Rattle.std.specs.Prelude.{◌≡◌, List, ◌++◌, ℕ, ◌+◌, ◌-◌, ◌≤◌, cond, ◌&&◌, eqb, ℤ, pos, ◌+ℤ◌, length, get_or, Some, None}
use Rattle.commitment.specs.Windows.{Clocked}
use Rattle.commitment.specs.Ranges.{Priced}
use Rattle.commitment.specs.Bounds.{most_intervals}
use Rattle.commitment.specs.Types.{BestProfit}
use Rattle.commitment.specs.Best.{plan}
use Rattle.optimality.specs.declared.Cell.{Cell}
use Rattle.optimality.specs.declared.Figures.{Figures}
use Rattle.optimality.specs.Machine.{Quarter, go, in_quarter, walk}
use Rattle.optimality.specs.Cells.{Sound, InTable, less, cell_step, plan_at, value_at}
use Rattle.geometry.specs.Geometry.{width, index}
use Rattle.geometry.specs.Layers.{LayerAt}
use Rattle.marks.specs.declared.Frame.{Frame}
use Rattle.marks.specs.Lines.{value_of, mark_of}

-- its outputs over the quarters in front lead from c to `at`, and from there it goes on as the plan of the later ones
pub record Stands (f : Figures) (ends : Cell → BestProfit) (front later : List Quarter) (c at : Cell) : Type 0 where
  pub inside : InTable f at
  pub outputs : List ℕ
  pub earned : ℤ
  pub leads : walk Cell Quarter (in_quarter (cell_step f)) front c outputs ≡ go earned at
  pub rest : List ℕ
  pub profit : ℤ
  pub goes_on : plan_at f ends later at ≡ plan rest profit
  pub whole : plan_at f ends (front ++ later) c ≡ plan (outputs ++ rest) (earned +ℤ profit)

-- the mark of a cell is what was given to the cell where its plan stands
pub record MarkedBy (f : Figures) (ends : Cell → BestProfit) (front later : List Quarter) (given : Cell → ℤ) (c : Cell) (mark : ℤ) : Type 0 where
  pub at : Cell
  pub stands : Stands f ends front later c at
  pub is : mark ≡ given at

-- values, n intervals before the end, and marks of all cells that have a plan
pub record MarkedAt (f : Figures) (n : ℕ) (ends : Cell → BestProfit) (front later : List Quarter) (given stored marked : Cell → ℤ) : Type 0 where
  pub layer : LayerAt f n (value_at f ends (front ++ later)) stored
  pub marks : (c : Cell) → InTable f c → (value_at f ends (front ++ later) c ≡ None → ⊥) → MarkedBy f ends front later given c (marked c)

abbrev pub MarkedLayer : Figures → (Cell → BestProfit) → List Quarter → List Quarter → (Cell → ℤ) → (Cell → ℤ) → (Cell → ℤ) → Type 0
MarkedLayer f ends front later given stored marked = MarkedAt f (length (front ++ later)) ends front later given stored marked

-- ---- several intervals

-- a layer stands in front, and so many intervals are to go before it
pub record SweepAsked (g : Frame) (cells prices : List ℤ) (from to : ℕ) : Type 0 where
  pub sound : Sound g.figures
  pub wide : g.width ≡ width g.figures
  pub marks : g.width + g.width ≤ length cells
  pub priced : Priced prices
  pub clocked : Clocked g.hours
  pub ordered : from ≤ to
  pub inside : to ≤ length prices
  pub short : length prices ≤ most_intervals
  pub ends : Cell → BestProfit
  pub later : List Quarter
  pub ahead : ℕ
  pub layer : LayerAt g.figures ahead (value_at g.figures ends later) (value_of g.figures g.width cells)
  pub few : ahead + (to - from) ≤ most_intervals

-- whatever the layer said, the layer before these quarters stands there, each cell marked as the cell was where its plan stands after them
pub record Swept (f : Figures) (w : ℕ) (was now : List ℤ) (quarters : List Quarter) : Type 0 where
  pub same : length now ≡ length was
  pub beyond : (j : ℕ) → w + w ≤ j → get_or now j (pos 0) ≡ get_or was j (pos 0)
  pub marked : (ends : Cell → BestProfit) (later : List Quarter) (n : ℕ) → LayerAt f n (value_at f ends later) (value_of f w was)
      → n + length quarters ≤ most_intervals → MarkedAt f (n + length quarters) ends quarters later (mark_of f w was) (value_of f w now) (mark_of f w now)

-- the same where each cell of the layer was given its own number
pub record Numbered (f : Figures) (w : ℕ) (was now : List ℤ) (quarters : List Quarter) : Type 0 where
  pub same : length now ≡ length was
  pub beyond : (j : ℕ) → w + w ≤ j → get_or now j (pos 0) ≡ get_or was j (pos 0)
  pub marked : (ends : Cell → BestProfit) (later : List Quarter) (n : ℕ) → LayerAt f n (value_at f ends later) (value_of f w was)
      → n + length quarters ≤ most_intervals → MarkedAt f (n + length quarters) ends quarters later (λ c. pos (index f c)) (value_of f w now) (mark_of f w now)

-- ---- the intervals before the cell, as a case of their own

-- plans end in a state with nothing left
abbrev pub ends_in : ℕ → Cell → BestProfit
ends_in s c = cond (eqb c.state s && eqb c.left.starts 0 && eqb c.left.ons 0 && eqb c.left.blocks 0) (Some (pos 0)) None

-- what a plan from c spends on the way to `at`
abbrev pub spent : Cell → Cell → Cell
spent c at = record { state = c.state; left = less c.left at.left }

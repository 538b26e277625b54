-- A task: the prices from one interval on to another, a cell to start from, and an end. Its plan, and what solving it asks and gives.
use Rattle.std.specs.Prelude.{◌≡◌, List, ◌++◌, ℕ, ◌+◌, ◌-◌, ◌*◌, ◌/◌, ◌≤◌, ◌<◌, ℤ, pos, length, get_or, take, drop, Some, None}
use Rattle.commitment.specs.Types.{BestProfit}
use Rattle.commitment.specs.Types.{Hours}
use Rattle.commitment.specs.Best.{Plan, schedule_of}
use Rattle.commitment.specs.Bounds.{most_blocks, most_intervals}
use Rattle.commitment.specs.Ranges.{Priced}
use Rattle.commitment.specs.Tries.{tries_over}
use Rattle.commitment.specs.Windows.{Clocked}
use Rattle.optimality.specs.declared.Cell.{Cell}
use Rattle.optimality.specs.declared.Figures.{Figures}
use Rattle.optimality.specs.Machine.{Quarter, anywhere}
use Rattle.optimality.specs.Cells.{Sound, InTable, with_most, states, plan_at, value_at}
use Rattle.geometry.specs.Geometry.{width, index}
use Rattle.geometry.specs.Layers.{Layer, in_front}
use Rattle.layers.specs.Filling.{quarters_in, between}
use Rattle.marks.specs.Lines.{value_of, mark_of}
use Rattle.marks.specs.declared.Frame.{Frame}
use Rattle.marks.specs.Standing.{MarkedLayer, ends_in, spent}
use Rattle.halving.specs.declared.Task.{Task}
use Rattle.halving.specs.Types.{End}

-- the figures with a cell's own budgets
abbrev pub boxed : Figures → Cell → Figures
boxed f c = with_most f c.left

-- where plans end, and that some cell of the table is there
abbrev pub ends_by : End → Cell → BestProfit
ends_by None = anywhere
ends_by (Some s) = ends_in s

abbrev pub Reachable : Figures → End → Type 0
Reachable f None = Unit
Reachable f (Some s) = s < states f

-- the cells of a table that is filled aside
abbrev pub near : ℕ
near = 2048

-- all cells but the first n are as they were
abbrev pub Untouched : ℕ → List ℤ → List ℤ → Type 0
Untouched n was cells = (j : ℕ) → n ≤ j → get_or cells j (pos 0) ≡ get_or was j (pos 0)

-- the interval in the middle
abbrev pub midway : ℕ → ℕ → ℕ
midway from to = from + (to - from) / 2

-- its halves, where the plan stands in a cell at the middle: before it from what the plan spends there, to end in that state with nothing left; behind it
-- from that cell to the task's own end
abbrev pub early_half : Task → ℕ → Cell → Task
early_half t mid at = record { from = t.from; to = mid; cell = spent t.cell at; end = Some at.state }

abbrev pub late_half : Task → ℕ → Cell → Task
late_half t mid at = record { from = mid; to = t.to; cell = at; end = t.end }

module _ (f : Figures) (prices : List ℤ) (hours : Hours) where
  abbrev pub quarters_here : ℕ → ℕ → List Quarter
  quarters_here from to = between (quarters_in hours prices) from to

  -- the best plan of a task, and whether there is one
  abbrev pub plan_of : Task → Plan
  plan_of t = plan_at f (ends_by t.end) (quarters_here t.from t.to) t.cell

  abbrev pub HasPlan : Task → Type 0
  HasPlan t = value_at f (ends_by t.end) (quarters_here t.from t.to) t.cell ≡ None → ⊥

  -- prices, and an end that can be
  pub record Asked (from to : ℕ) (end : End) : Type 0 where
    pub sound : Sound f
    pub priced : Priced prices
    pub clocked : Clocked hours
    pub ordered : from ≤ to
    pub inside : to ≤ length prices
    pub short : length prices ≤ most_intervals
    pub ends : Reachable f end

  -- a task that has a plan, and a place in a schedule for it
  pub record Given (t : Task) (schedule : ℕ) : Type 0 where
    pub asked : Asked t.from t.to t.end
    pub here : InTable f t.cell
    pub some : HasPlan t
    pub long : t.to ≤ schedule

  -- with room for two layers of its own
  pub record TaskAsked (room : ℕ) (t : Task) (cells schedule : ℕ) : Type 0 where
    pub given : Given t schedule
    pub two : width (boxed f t.cell) + width (boxed f t.cell) ≤ room
    pub fits : room ≤ cells

  -- the plan stands in its place of the schedule, and the rest is as it was; so many outputs were tried
  pub record Solved (t : Task) (was schedule : List ℕ) (tries : ℕ) : Type 0 where
    pub written : schedule ≡ take t.from was ++ (schedule_of (plan_of t) ++ drop t.to was)
    pub tried : tries ≡ tries_over f.block f.pmin (schedule_of (plan_of t))
    pub few : tries ≤ (t.to - t.from) * (most_blocks + 1)

-- a task whose whole table fits
pub record Leaf (g : Frame) (prices : List ℤ) (t : Task) (cells schedule : ℕ) : Type 0 where
  pub given : Given g.figures prices g.hours t schedule
  pub wide : g.width ≡ width g.figures
  pub fits : (t.to - t.from + 1) * g.width ≤ cells

-- ---- the pass over both halves

module _ (g : Frame) (prices : List ℤ) where
  pub record PassAsked (from to : ℕ) (end : End) (cells : ℕ) : Type 0 where
    pub asked : Asked g.figures prices g.hours from to end
    pub some : from < to
    pub wide : g.width ≡ width g.figures
    pub fits : g.width + g.width ≤ cells

  -- the first layer stands in front, and each cell that has a plan is marked with the number of the cell where it stands at the middle
  abbrev pub Marked : ℕ → ℕ → End → List ℤ → Type 0
  Marked from to end cells =
      let quarters = quarters_in g.hours prices in
      MarkedLayer g.figures (ends_by end) (between quarters from (midway from to)) (between quarters (midway from to) to)
      (λ c. pos (index g.figures c)) (value_of g.figures g.width cells) (mark_of g.figures g.width cells)

  pub record Halved (from to : ℕ) (end : End) (was cells : List ℤ) : Type 0 where
    pub marked : Marked from to end cells
    pub beyond : Untouched (g.width + g.width) was cells

  -- a task after its pass
  pub record Halves (room : ℕ) (t : Task) (cells : List ℤ) (schedule : ℕ) : Type 0 where
    pub given : Given g.figures prices g.hours t schedule
    pub apart : t.from + 2 ≤ t.to
    pub wide : g.width ≡ width g.figures
    pub two : g.width + g.width ≤ room
    pub fits : room ≤ length cells
    pub marked : Marked t.from t.to t.end cells

-- ---- a mark

-- it is the number of a cell, and that cell
pub record MarkKept (f : Figures) (w : ℕ) (cells : List ℤ) (c : Cell) : Type 0 where
  pub at : Cell
  pub inside : InTable f at
  pub is : mark_of f w cells c ≡ pos (index f at)

abbrev pub MarkedWith : Figures → ℕ → List ℤ → Cell → Cell → Type 0
MarkedWith f w cells c r = (at : Cell) → InTable f at → mark_of f w cells c ≡ pos (index f at) → r ≡ at

-- ---- a whole case

abbrev pub frame : Figures → ℕ → Hours → Frame
frame f w hours = record { figures = f; width = w; hours = hours }

-- after its first pass: the first layer in front, and the marks behind it
pub record FirstPass (f : Figures) (prices : List ℤ) (hours : Hours) (w : ℕ) (cells : List ℤ) : Type 0 where
  pub layer : Layer f anywhere (quarters_in hours prices) (in_front f cells)
  pub marked : Marked (frame f w hours) prices 0 (length prices) None cells

abbrev pub CaseAsked : Figures → List ℤ → Hours → ℕ → ℕ → Type 0
CaseAsked f prices hours w cells = PassAsked (frame f w hours) prices 0 (length prices) None cells

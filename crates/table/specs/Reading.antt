-- The output that is read off a cell, by the numbers that the cells of the next layer hold, and the schedule of a plan.
use Rattle.std.specs.Prelude.{◌≡◌, Bool, true, cond, not, ◌&&◌, List, ◌++◌, map, ℕ, zero, suc, ◌+◌, ◌-◌, ◌*◌, ◌≤◌, leb, ℤ, pos, ◌+ℤ◌, length, get_or, drop, None}
use Rattle.std.specs.Int.Signed.{lt_z}
use Rattle.commitment.specs.Types.{BestProfit}
use Rattle.commitment.specs.Best.{schedule_of}
use Rattle.commitment.specs.Tries.{tries_over}
use Rattle.geometry.specs.Layers.{Filled}
use Rattle.table.specs.declared.reading.Row.{Row}
use Rattle.optimality.specs.declared.Figures.{Figures}
use Rattle.optimality.specs.declared.Cell.{Cell}
use Rattle.optimality.specs.Machine.{Quarter}
use Rattle.optimality.specs.Cells.{may_run, off_cell, on_cell, rungs, plan_at, value_at}
use Rattle.intervals.specs.Turns.{Affords, net, off_stored, room_for, on_stored}

module _ (f : Figures) (stored : Cell → ℤ) (c : Cell) where
  -- whether the blocks left allow k, and it reaches the best
  abbrev pub reaches_on : ℤ → ℤ → ℕ → Bool
  reaches_on price best k = room_for f stored c k && not (lt_z (on_stored f stored c price k) best)

  -- the first of so many outputs from k on that reaches the best
  unfoldable pub first_on : ℤ → ℤ → ℕ → ℕ → ℕ
  first_on price best k zero = k
  first_on price best k (suc count) = cond (reaches_on price best k) k (first_on price best (suc k) count)

  -- some output reaches it, with the unit on
  pub record OnReaches (price best : ℤ) : Type 0 where
    pub may : may_run f c ≡ true
    pub at : ℕ
    pub low : f.pmin ≤ at
    pub high : at ≤ f.pmax
    pub meets : reaches_on price best at ≡ true

  -- so many blocks, 0 for off
  unfoldable pub chosen : ℤ → ℤ → ℕ
  chosen price best = cond (lt_z (off_stored f stored c) best) (first_on price best f.pmin (rungs f)) 0

-- whether the blocks left allow k, and it reaches the best, by the row that an interval on leads to
abbrev pub reaches_best : Figures → List ℤ → Row → ℤ → ℕ → ℤ → ℕ → Bool
reaches_best f cells row price pays best k =
    leb (k * f.takes.blocks) row.blocks
    && not (lt_z (get_or cells (row.at + (row.blocks - k * f.takes.blocks)) (pos 0) +ℤ net f price pays k) best)

-- what an interval with so many blocks takes is left, none where it is off
abbrev pub Allowed : Figures → Cell → ℕ → Type 0
Allowed f c k = (k ≡ 0 → ⊥) → Affords f c k

-- where so many blocks lead
abbrev pub next_cell : Figures → Cell → ℕ → Cell
next_cell f c zero = off_cell f c
next_cell f c (suc k) = on_cell f c (suc k)

-- a table that is filled for quarters of these prices, whichever of them are open, for plans that end as `ends` says, and a cell that has a plan
pub record PlanFrom (f : Figures) (ends : Cell → BestProfit) (prices cells : List ℤ) (from : Cell) (quarters : List Quarter) : Type 0 where
  pub priced : map (λ (q : Quarter). q.price) quarters ≡ prices
  pub filled : Filled f ends quarters cells
  pub some : value_at f ends quarters from ≡ None → ⊥

-- the best plan from a cell stands in the schedule's front, and the rest is as it was; so many outputs were tried in all
abbrev pub ReadOff : Figures → List ℤ → List ℤ → Cell → List ℕ → List ℕ → ℕ → Type 0
ReadOff f prices cells from was schedule tries =
    (ends : Cell → BestProfit) (quarters : List Quarter) → PlanFrom f ends prices cells from quarters
    → (schedule ≡ schedule_of (plan_at f ends quarters from) ++ drop (length quarters) was)
    × (tries ≡ tries_over f.block f.pmin (schedule_of (plan_at f ends quarters from)))

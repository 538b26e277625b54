-- A month's box: the cells of a month have what is left of the year, no more than the month's cap. `above` is what lies above it.
use Rattle.std.specs.Prelude.{◌≡◌, Bool, cond, ◌&&◌, List, ◌⊎◌, ℕ, ◌+◌, ◌≤◌, min, eqb, ℤ, pos, get_or, set}
use Rattle.optimality.specs.declared.Budgets.{Budgets}
use Rattle.optimality.specs.declared.Cell.{Cell}
use Rattle.optimality.specs.declared.Figures.{Figures}
use Rattle.optimality.specs.Cells.{Sound, Within, InTable, budgets, less, with_most}
use Rattle.optimality.specs.Years.{raised}
use Rattle.geometry.specs.Geometry.{width, index, cell_of}
use Rattle.geometry.specs.Layers.{stored_at}
use Rattle.intervals.specs.Stretches.{Apart}

abbrev pub plus : Budgets → Budgets → Budgets
plus a b = budgets (a.starts + b.starts) (a.ons + b.ons) (a.blocks + b.blocks)

abbrev pub smaller : Budgets → Budgets → Budgets
smaller a b = budgets (min a.starts b.starts) (min a.ons b.ons) (min a.blocks b.blocks)

-- the box and what lies above it are within the year's budgets
pub record Above (f : Figures) (cap above : Budgets) : Type 0 where
  pub sound : Sound f
  pub within : Within (plus cap above) f.most

-- the year's cell above the i-th cell of the box
abbrev pub high_cell : Figures → Budgets → Budgets → ℕ → Cell
high_cell f cap above i = raised above (cell_of (with_most f cap) i)

-- ---- the year's layer at `from`, as the box at `to` sees it

pub record EnterAsked (f : Figures) (cap above : Budgets) (cells from to : ℕ) : Type 0 where
  pub fits : Above f cap above
  pub apart : (to + width (with_most f cap) ≤ from) ⊎ (from + width f ≤ to)
  pub year : from + width f ≤ cells
  pub box : to + width (with_most f cap) ≤ cells

pub record Entered (f : Figures) (cap above : Budgets) (was now : List ℤ) (from to : ℕ) : Type 0 where
  pub inside : (x : Cell) → InTable (with_most f cap) x → stored_at (with_most f cap) now to x ≡ stored_at f was from (raised above x)
  pub apart : Apart was now to (width (with_most f cap))

-- ---- the box at `from`, stored in the year's layer at `to`

-- a cell of the year in the box, and what lies above it
abbrev pub box_of : Budgets → Cell → Cell
box_of cap z = record { state = z.state; left = smaller z.left cap }

abbrev pub over_of : Budgets → Cell → Budgets
over_of cap z = less z.left (smaller z.left cap)

abbrev pub same_budgets : Budgets → Budgets → Bool
same_budgets a b = eqb a.starts b.starts && eqb a.ons b.ons && eqb a.blocks b.blocks

pub record StoreAsked (f : Figures) (cap above : Budgets) (cells from to : ℕ) : Type 0 where
  pub fits : Above f cap above
  pub apart : (to + width f ≤ from) ⊎ (from + width (with_most f cap) ≤ to)
  pub year : to + width f ≤ cells
  pub box : from + width (with_most f cap) ≤ cells

-- one cell of the box, where it is that of the year's cell above it
abbrev pub stored_one : Figures → Budgets → Budgets → List ℤ → ℕ → ℕ → ℕ → List ℤ
stored_one f cap above cells from to i =
    cond (same_budgets (over_of cap (high_cell f cap above i)) above) (set cells (to + index f (high_cell f cap above i)) (get_or cells (from + i) (pos 0))) cells

-- every cell of the year that has so much above its box has the number of its cell in the box, and all else is as it was
pub record Stored (f : Figures) (cap above : Budgets) (was now : List ℤ) (from to : ℕ) : Type 0 where
  pub inside : (z : Cell) → InTable f z → over_of cap z ≡ above → stored_at f now to z ≡ stored_at (with_most f cap) was from (box_of cap z)
  pub others : (z : Cell) → InTable f z → (over_of cap z ≡ above → ⊥) → stored_at f now to z ≡ stored_at f was to z
  pub apart : Apart was now to (width f)

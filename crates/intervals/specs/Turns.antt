-- One interval from a cell, by the numbers that the cells of the next layer hold: the number that the cell gets.
use Rattle.std.specs.Prelude.{Bool, cond, ℕ, zero, suc, ◌*◌, ◌≤◌, leb, ltb, ℤ, pos, nat_abs, ◌+ℤ◌, ◌-ℤ◌}
use Rattle.integers.specs.Maximum.{maxℤ}
use Rattle.commitment.specs.Bounds.{most_price}
use Rattle.commitment.specs.Profit.{margin}
use Rattle.optimality.specs.declared.Figures.{Figures}
use Rattle.optimality.specs.declared.Cell.{Cell}
use Rattle.optimality.specs.Machine.{Quarter}
use Rattle.optimality.specs.Cells.{Sound, states, after_off, start_takes, start_pays, gain, may_run, off_cell, on_cell, rungs}
use Rattle.geometry.specs.Layers.{infeasible}

-- a unit in its ranges, and a price in its range
pub record Interval (f : Figures) (price : ℤ) : Type 0 where
  pub sound : Sound f
  pub priced : nat_abs price ≤ most_price

-- a cell has what an interval on with so many blocks takes
abbrev pub Affords : Figures → Cell → ℕ → Type 0
Affords f c k = (start_takes f c.state ≤ c.left.starts) × (f.takes.ons ≤ c.left.ons) × (k * f.takes.blocks ≤ c.left.blocks)

-- what an on-interval with k blocks adds, less what a start costs
abbrev pub net : Figures → ℤ → ℕ → ℕ → ℤ
net f price pays k = gain f price k -ℤ pos pays

-- what one block more adds
abbrev pub slope : Figures → ℤ → ℤ
slope f price = margin price f.block f.vec 0 0

-- the largest of a number and of `reach` at so many outputs from k on, where they fit
unfoldable pub raised : (ℕ → Bool) → (ℕ → ℤ) → ℤ → ℕ → ℕ → ℤ
raised fits reach base k zero = base
raised fits reach base k (suc count) = raised fits reach (cond (fits k) (maxℤ base (reach k)) base) (suc k) count

module _ (f : Figures) (stored : Cell → ℤ) (c : Cell) where
  unfoldable pub off_stored : ℤ
  off_stored = cond (ltb (after_off f c.state) (states f)) (stored (off_cell f c)) infeasible

  abbrev pub room_for : ℕ → Bool
  room_for k = leb (k * f.takes.blocks) c.left.blocks

  abbrev pub on_stored : ℤ → ℕ → ℤ
  on_stored price k = stored (on_cell f c k) +ℤ net f price (start_pays f c.state) k

  unfoldable pub cell_stored : ℤ → ℤ
  cell_stored price = cond (may_run f c) (raised room_for (on_stored price) off_stored f.pmin (rungs f)) off_stored

  -- in a quarter that is shut, off alone
  abbrev pub quarter_stored : Quarter → ℤ
  quarter_stored q = cond q.opens (cell_stored q.price) off_stored

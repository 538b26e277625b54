-- The machine whose state is a cell of the table: time in state counted to mot or mdt, and what is left of the starts, of the on-intervals
-- and of the output blocks. The budgets' tops are not read by any step, so a smaller limitation is the same machine at another cell.
use Rattle.std.specs.Prelude.{Bool, cond, ◌&&◌, List, ◌∷◌, ℕ, zero, suc, ◌+◌, ◌-◌, ◌*◌, ◌/◌, ◌≤◌, ◌<◌, min, leb, ltb, eqb, ℤ, pos, ◌-ℤ◌, Some, None}
use Rattle.commitment.specs.Types.{Limit}
use Rattle.commitment.specs.declared.Limitation.TheVariants.{Starts, Hours, Mwh}
use Rattle.commitment.specs.Types.{BestProfit}
use Rattle.commitment.specs.declared.UnitRecord.{UnitRecord}
use Rattle.commitment.specs.Bounds.{most_mw, most_blocks, most_time, most_vec, most_mlc, most_suc, most_intervals}
use Rattle.commitment.specs.Keeping.{was_on, opens_in}
use Rattle.commitment.specs.Profit.{margin}
use Rattle.commitment.specs.Best.{Plan, ladder}
use Rattle.commitment.specs.Cells.{count_for}
use Rattle.optimality.specs.declared.Budgets.{Budgets}
use Rattle.optimality.specs.declared.Figures.{Figures}
use Rattle.optimality.specs.declared.Cell.{Cell}
use Rattle.optimality.specs.Machine.{Step, Quarter, quarters_from, in_quarter, allow, go, best_from, more, value_along, value_from}

-- ---- budgets

abbrev pub budgets : ℕ → ℕ → ℕ → Budgets
budgets starts ons blocks = record { starts = starts; ons = ons; blocks = blocks }

abbrev pub cell : ℕ → ℕ → ℕ → ℕ → Cell
cell state starts ons blocks = record { state = state; left = budgets starts ons blocks }

-- each at most the other's
pub record Within (a b : Budgets) : Type 0 where
  pub starts : a.starts ≤ b.starts
  pub ons : a.ons ≤ b.ons
  pub blocks : a.blocks ≤ b.blocks

-- what is left of the first after the second
abbrev pub less : Budgets → Budgets → Budgets
less a b = budgets (a.starts - b.starts) (a.ons - b.ons) (a.blocks - b.blocks)

-- ---- the figures of a unit, for n intervals

-- what one start, on-interval or block takes of its budget: nothing where it is not limited
abbrev pub taken_of : Limit → ℕ
taken_of None = 0
taken_of (Some limit) = 1

-- with the most that a cell can have left of each
abbrev pub figures_with : UnitRecord → Budgets → Figures
figures_with u most =
    record {
      block = u.generator.block;
      pmin = u.generator.pmin;
      pmax = u.generator.pmax;
      mot = u.generator.mot;
      mdt = u.generator.mdt;
      vec = u.costs.vec;
      mlc = u.costs.mlc;
      suc = u.costs.suc;
      takes = budgets (taken_of u.limits.starts) (taken_of u.limits.hours) (taken_of u.limits.mwh);
      most = most;
    }

-- the same with other budgets
abbrev pub with_most : Figures → Budgets → Figures
with_most f most =
    record {
      block = f.block;
      pmin = f.pmin;
      pmax = f.pmax;
      mot = f.mot;
      mdt = f.mdt;
      vec = f.vec;
      mlc = f.mlc;
      suc = f.suc;
      takes = f.takes;
      most = most;
    }

-- a, b and c of the specification
abbrev pub counts_of : UnitRecord → ℕ → Budgets
counts_of u n = budgets (count_for u n Starts) (count_for u n Hours) (count_for u n Mwh)

unfoldable pub figures_of : UnitRecord → ℕ → Figures
figures_of u n = figures_with u (counts_of u n)

-- the ranges of the figures
pub record Sound (f : Figures) : Type 0 where
  pub block : 1 ≤ f.block
  pub pmin : 1 ≤ f.pmin
  pub pmax : f.pmin ≤ f.pmax
  pub top : f.pmax * f.block ≤ most_mw
  pub mot : 1 ≤ f.mot
  pub mot-most : f.mot ≤ most_time
  pub mdt : 1 ≤ f.mdt
  pub mdt-most : f.mdt ≤ most_time
  pub vec : f.vec ≤ most_vec
  pub mlc : f.mlc ≤ most_mlc
  pub suc : f.suc ≤ most_suc
  pub takes : Within f.takes (budgets 1 1 1)
  pub most : Within f.most (budgets most_intervals most_intervals (most_intervals * most_blocks))

-- ---- state numbers: below mot on for s + 1 intervals (mot or more at the last), from mot on off for s - mot + 1 (mdt or more at the last)

abbrev pub states : Figures → ℕ
states f = f.mot + f.mdt

-- the state after an interval that is off; past the last where the run is too short to end
abbrev pub after_off : Figures → ℕ → ℕ
after_off f s = cond (ltb s f.mot) (cond (eqb (s + 1) f.mot) f.mot (states f)) (min (s + 1) (states f - 1))

-- the state after an interval that is on; past the last where the spell is too short for a start
abbrev pub after_on : Figures → ℕ → ℕ
after_on f s = cond (ltb s f.mot) (min (s + 1) (f.mot - 1)) (cond (eqb (s + 1) (states f)) 0 (states f))

-- ---- the step

-- what going on takes of the starts, and what it costs
abbrev pub start_takes : Figures → ℕ → ℕ
start_takes f s = cond (ltb s f.mot) 0 f.takes.starts

abbrev pub start_pays : Figures → ℕ → ℕ
start_pays f s = cond (ltb s f.mot) 0 (4 * f.suc)

-- what an on-interval with k blocks adds
abbrev pub gain : Figures → ℤ → ℕ → ℤ
gain f price k = margin price (k * f.block) f.vec (f.pmin * f.block) f.mlc

-- whether the unit may be on, but for the blocks
abbrev pub may_run : Figures → Cell → Bool
may_run f c = ltb (after_on f c.state) (states f) && leb (start_takes f c.state) c.left.starts && leb f.takes.ons c.left.ons

-- what an interval on with k blocks takes
abbrev pub taking : Figures → ℕ → ℕ → Budgets
taking f s k = budgets (start_takes f s) f.takes.ons (k * f.takes.blocks)

-- the cell that an interval off, or on with k blocks, leads to
abbrev pub off_cell : Figures → Cell → Cell
off_cell f c = record { state = after_off f c.state; left = c.left }

abbrev pub on_cell : Figures → Cell → ℕ → Cell
on_cell f c k = record { state = after_on f c.state; left = less c.left (taking f c.state k) }

abbrev pub off_step : Figures → Cell → Step Cell
off_step f c = allow (ltb (after_off f c.state) (states f)) (go (pos 0) (off_cell f c))

abbrev pub on_step : Figures → Cell → ℤ → ℕ → Step Cell
on_step f c price k =
    allow (may_run f c && leb (k * f.takes.blocks) c.left.blocks) (go (gain f price k -ℤ pos (start_pays f c.state)) (on_cell f c k))

-- an output in MW: 0 is off, another so many blocks
abbrev pub cell_step : Figures → Cell → ℤ → ℕ → Step Cell
cell_step f c price m = cond (eqb m 0) (off_step f c) (on_step f c price (m / f.block))

-- the outputs but 0 number so many; all outputs, ascending
abbrev pub rungs : Figures → ℕ
rungs f = suc f.pmax - f.pmin

abbrev pub choices : Figures → List ℕ
choices f = 0 ∷ ladder f.block (f.pmin * f.block) (rungs f)

-- ---- the best plan from a cell over the quarters to come, and its profit alone

module _ (f : Figures) (ends : Cell → BestProfit) where
  unfoldable pub plan_at : List Quarter → Cell → Plan
  plan_at quarters c = best_from Cell Quarter (in_quarter (cell_step f)) ends (choices f) quarters c

  unfoldable pub value_at : List Quarter → Cell → BestProfit
  value_at quarters c = value_from Cell Quarter (in_quarter (cell_step f)) ends (choices f) quarters c

-- the quarters of a case
abbrev pub quarters_of : UnitRecord → List ℤ → List Quarter
quarters_of u prices = quarters_from (opens_in u.permit) 0 prices

-- ---- a cell by the cells after it: what the rest of the intervals is worth from each cell being `rest`

abbrev pub off_value : Figures → (Cell → BestProfit) → Cell → BestProfit
off_value f rest c = value_along (off_step f c) rest

abbrev pub on_value : Figures → (Cell → BestProfit) → Cell → ℤ → ℕ → BestProfit
on_value f rest c price k = value_along (on_step f c price k) rest

-- the best of so many outputs from k blocks on
abbrev pub on_best : Figures → (Cell → BestProfit) → Cell → ℤ → ℕ → ℕ → BestProfit
on_best f rest c price k zero = None
on_best f rest c price k (suc count) = more (on_value f rest c price k) (on_best f rest c price (suc k) count)

-- ---- the cell before interval 1, for n intervals

abbrev pub opening_state : UnitRecord → ℕ
opening_state u =
    cond (was_on u.opening) (min u.opening.held u.generator.mot - 1) (u.generator.mot + min u.opening.held u.generator.mdt - 1)

unfoldable pub opening_cell : UnitRecord → ℕ → Cell
opening_cell u n = record { state = opening_state u; left = counts_of u n }

-- a cell of the table has no more left than the tops
pub record InTable (f : Figures) (c : Cell) : Type 0 where
  pub state : c.state < states f
  pub left : Within c.left f.most

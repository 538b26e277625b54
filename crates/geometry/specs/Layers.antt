-- What a cell's number says, and when a table is filled.
use Rattle.std.specs.Prelude.{cond, List, ℕ, ◌+◌, ◌*◌, ◌^◌, ◌≤◌, ℤ, pos, neg_ℤ, nat_abs, ◌+ℤ◌, length, get_or, drop, ◌≤ℤ◌, ◌≡◌, Some, None}
use Rattle.std.specs.Int.Signed.{lt_z}
use Rattle.commitment.specs.Types.{BestProfit}
use Rattle.commitment.specs.Bounds.{most_mw, most_vec, most_mlc, most_suc, most_price, most_intervals}
use Rattle.optimality.specs.declared.Figures.{Figures}
use Rattle.optimality.specs.declared.Cell.{Cell}
use Rattle.optimality.specs.Machine.{Quarter}
use Rattle.optimality.specs.Cells.{Sound, InTable, value_at}
use Rattle.geometry.specs.Geometry.{width, index}

-- ---- numbers

-- where there is no schedule: this or a little above
abbrev pub infeasible : ℤ
infeasible = neg_ℤ (pos (2 ^ 62))

-- no profit is below it, and no number without a schedule above
abbrev pub halfway : ℤ
halfway = neg_ℤ (pos (2 ^ 61))

abbrev pub told : ℤ → BestProfit
told number = cond (lt_z number halfway) None (Some number)

-- the most that a start costs, in quarter-cents, and the most that one interval can earn or lose
abbrev pub most_pays : ℕ
most_pays = 4 * most_suc

abbrev pub swing : ℕ
swing = most_price * most_mw + most_vec * (most_mw + most_mw) + most_mlc + most_pays

-- what a cell holds of its best profit, n intervals before the end
abbrev pub Holds : ℕ → BestProfit → ℤ → Type 0
Holds n None r = (infeasible ≤ℤ r) × (r ≤ℤ (infeasible +ℤ pos (n * swing)))
Holds n (Some p) r = (r ≡ p) × (nat_abs p ≤ n * swing)

-- ---- layers

-- what the layer at a place of the scratch holds
abbrev pub stored_at : Figures → List ℤ → ℕ → Cell → ℤ
stored_at f cells at c = get_or cells (at + index f c) (pos 0)

-- what the layer at its front holds
abbrev pub in_front : Figures → List ℤ → Cell → ℤ
in_front f cells c = get_or cells (index f c) (pos 0)

-- a layer holds a value of every cell, n intervals before the end
pub record LayerAt (f : Figures) (n : ℕ) (value : Cell → BestProfit) (stored : Cell → ℤ) : Type 0 where
  pub holds : (c : Cell) → InTable f c → Holds n (value c) (stored c)

-- the best profit over the quarters to come, after which plans end as `ends` says
abbrev pub Layer : Figures → (Cell → BestProfit) → List Quarter → (Cell → ℤ) → Type 0
Layer f ends quarters stored = LayerAt f (length quarters) (value_at f ends quarters) stored

-- the same with n intervals more after those quarters, whose worth is in the ends
abbrev pub LayerBefore : ℕ → Figures → (Cell → BestProfit) → List Quarter → (Cell → ℤ) → Type 0
LayerBefore n f ends quarters stored = LayerAt f (n + length quarters) (value_at f ends quarters) stored

-- layer t, from the scratch's first on, holds the best profits over the quarters after the t-th
pub record Filled (f : Figures) (ends : Cell → BestProfit) (quarters : List Quarter) (cells : List ℤ) : Type 0 where
  pub layers : (t : ℕ) → t ≤ length quarters → Layer f ends (drop t quarters) (stored_at f cells (t * width f))

-- the scratch has room for n intervals
pub record Room (f : Figures) (n cells : ℕ) : Type 0 where
  pub sound : Sound f
  pub short : n ≤ most_intervals
  pub fits : (n + 1) * width f ≤ cells

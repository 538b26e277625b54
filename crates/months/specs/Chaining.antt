-- The year's layer at a month's beginning, made from the one at its end.
use Rattle.std.specs.Prelude.{◌≡◌, List, [], ◌⊎◌, ℕ, ◌+◌, ◌-◌, ◌≤◌, ◌<◌, ℤ, pos, length, get_or}
use Rattle.commitment.specs.Types.{BestProfit}
use Rattle.commitment.specs.Types.{Hours}
use Rattle.commitment.specs.Bounds.{most_intervals}
use Rattle.commitment.specs.Ranges.{Priced}
use Rattle.commitment.specs.Windows.{Clocked}
use Rattle.optimality.specs.declared.Budgets.{Budgets}
use Rattle.optimality.specs.declared.Cell.{Cell}
use Rattle.optimality.specs.declared.Figures.{Figures}
use Rattle.optimality.specs.Machine.{Quarter}
use Rattle.optimality.specs.Cells.{Sound, Within, InTable, with_most, value_at}
use Rattle.optimality.specs.Years.{raised}
use Rattle.geometry.specs.Geometry.{width}
use Rattle.geometry.specs.Layers.{Holds, LayerAt, LayerBefore, stored_at}
use Rattle.intervals.specs.Stretches.{Apart}
use Rattle.months.specs.declared.chains.Month.{Month}
use Rattle.months.specs.declared.chains.Places.{Places}
use Rattle.months.specs.Capping.{Above, box_of, over_of}

-- ---- a month in its own two layers, at a place of the scratch

pub record BoxAsked (g : Figures) (cells prices : List ℤ) (hours : Hours) (from to at : ℕ) : Type 0 where
  pub sound : Sound g
  pub fits : at + (width g + width g) ≤ length cells
  pub priced : Priced prices
  pub clocked : Clocked hours
  pub short : length prices ≤ most_intervals
  pub some : from < to
  pub inside : to ≤ length prices
  pub ends : Cell → BestProfit
  pub ahead : ℕ
  pub few : ahead + (to - from) ≤ most_intervals
  pub last : LayerBefore ahead g ends [] (stored_at g cells (at + width g))

pub record RolledAt (g : Figures) (quarters : List Quarter) (was now : List ℤ) (at : ℕ) : Type 0 where
  pub rolled : (ends : Cell → BestProfit) (n : ℕ) → n + length quarters ≤ most_intervals → LayerBefore n g ends [] (stored_at g was (at + width g))
      → LayerBefore n g ends quarters (stored_at g now at)
  pub apart : Apart was now at (width g + width g)

-- ---- a month's beginning, by what the year is worth at its end

-- the best profit of a cell: in the month's box, with what its end is worth when what lies above the box is added again
abbrev pub value_before : Figures → Budgets → List Quarter → (Cell → BestProfit) → Cell → BestProfit
value_before f cap quarters worth z = value_at f (λ x. worth (raised (over_of cap z) x)) quarters (box_of cap z)

-- three places that do not meet: a year's layer each, and two layers of the box
pub record Placed (f : Figures) (cap : Budgets) (at : Places) (cells : ℕ) : Type 0 where
  pub apart : (at.here + width f ≤ at.after) ⊎ (at.after + width f ≤ at.here)
  pub here : at.here + width f ≤ at.work
  pub after : at.after + width f ≤ at.work
  pub work : at.work + (width (with_most f cap) + width (with_most f cap)) ≤ cells

pub record MonthAsked (f : Figures) (cells prices : List ℤ) (hours : Hours) (m : Month) (at : Places) : Type 0 where
  pub sound : Sound f
  pub cap : Within m.cap f.most
  pub placed : Placed f m.cap at (length cells)
  pub priced : Priced prices
  pub clocked : Clocked hours
  pub short : length prices ≤ most_intervals
  pub some : m.from < m.to
  pub inside : m.to ≤ length prices
  pub worth : Cell → BestProfit
  pub ahead : ℕ
  pub few : ahead + (m.to - m.from) ≤ most_intervals
  pub layer : LayerAt f ahead worth (stored_at f cells at.after)

-- the same for one part that may lie above the box
pub record ClassAsked (f : Figures) (cells prices : List ℤ) (hours : Hours) (m : Month) (at : Places) (above : Budgets) : Type 0 where
  pub month : MonthAsked f cells prices hours m at
  pub fits : Above f m.cap above

-- but for the layer that is made and the month's own, all is as it was
abbrev pub Elsewhere : Figures → Budgets → Places → List ℤ → List ℤ → Type 0
Elsewhere f cap at was now =
    (j : ℕ) → (j < at.here) ⊎ (at.here + width f ≤ j) → (j < at.work) ⊎ (at.work + (width (with_most f cap) + width (with_most f cap)) ≤ j)
    → get_or now j (pos 0) ≡ get_or was j (pos 0)

pub record ClassMade (f : Figures) (quarters : List Quarter) (m : Month) (at : Places) (above : Budgets) (was now : List ℤ) : Type 0 where
  pub made : (worth : Cell → BestProfit) (n : ℕ) → n + length quarters ≤ most_intervals → LayerAt f n worth (stored_at f was at.after)
      → (z : Cell) → InTable f z → over_of m.cap z ≡ above
      → Holds (n + length quarters) (value_before f m.cap quarters worth z) (stored_at f now at.here z)
  pub others : (z : Cell) → InTable f z → (over_of m.cap z ≡ above → ⊥) → stored_at f now at.here z ≡ stored_at f was at.here z
  pub elsewhere : Elsewhere f m.cap at was now
  pub same : length now ≡ length was

pub record MonthMade (f : Figures) (quarters : List Quarter) (m : Month) (at : Places) (was now : List ℤ) : Type 0 where
  pub made : (worth : Cell → BestProfit) (n : ℕ) → n + length quarters ≤ most_intervals → LayerAt f n worth (stored_at f was at.after)
      → LayerAt f (n + length quarters) (value_before f m.cap quarters worth) (stored_at f now at.here)
  pub elsewhere : Elsewhere f m.cap at was now

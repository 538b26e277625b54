-- The year's layer at a month's beginning by the states at its end: a way through the month, what it makes of the cells of the year, and the best of all ways.
use Rattle.std.specs.Prelude.{◌≡◌, List, ◌⊎◌, ℕ, ◌+◌, ◌^◌, ◌≤◌, ◌<◌, ℤ, nat_abs, ◌+ℤ◌, length, ◌≤ℤ◌, Some, None}
use Rattle.integers.specs.Maximum.{maxℤ}
use Rattle.commitment.specs.Types.{BestProfit}
use Rattle.commitment.specs.Types.{Hours}
use Rattle.commitment.specs.Bounds.{most_intervals}
use Rattle.optimality.specs.declared.Budgets.{Budgets}
use Rattle.optimality.specs.declared.Cell.{Cell}
use Rattle.optimality.specs.declared.Figures.{Figures}
use Rattle.optimality.specs.Machine.{Quarter, plus}
use Rattle.optimality.specs.Cells.{Sound, Within, InTable, states, budgets, less, with_most, value_at}
use Rattle.geometry.specs.Geometry.{width, index}
use Rattle.geometry.specs.Layers.{Holds, LayerAt, stored_at}
use Rattle.intervals.specs.Stretches.{Apart, Small}
use Rattle.marks.specs.Standing.{ends_in}
use Rattle.months.specs.declared.chains.Month.{Month}
use Rattle.months.specs.declared.chains.Places.{Places}
use Rattle.months.specs.declared.ends.Way.{Way}
use Rattle.months.specs.Chaining.{Placed, MonthAsked, Elsewhere}

-- ---- ways: `e` says where one ends, and what it spends

-- from a cell of the year, the cell of the box that has just this to spend, and the cell of the year where it ends
abbrev pub spending : Cell → Cell → Cell
spending z e = record { state = z.state; left = e.left }

abbrev pub afterward : Cell → Cell → Cell
afterward z e = record { state = e.state; left = less z.left e.left }

abbrev pub sum_of : BestProfit → BestProfit → BestProfit
sum_of None w = None
sum_of (Some p) w = plus p w

-- what the best way earns, with what its end is worth
abbrev pub offer : Figures → List Quarter → (Cell → BestProfit) → Cell → Cell → BestProfit
offer f quarters worth z e = sum_of (value_at f (ends_in e.state) quarters (spending z e)) (worth (afterward z e))

abbrev pub AtMost : BestProfit → BestProfit → Type 0
AtMost None v = Unit {0}
AtMost (Some p) None = ⊥
AtMost (Some p) (Some q) = p ≤ℤ q

-- the best of the ways that were seen, where there is one: none of them is better, and it is one of the box's
pub record Met (f : Figures) (cap : Budgets) (quarters : List Quarter) (worth : Cell → BestProfit) (z : Cell) (v : BestProfit) : Type 0 where
  pub end : Cell
  pub inside : InTable (with_most f cap) end
  pub within : Within end.left z.left
  pub is : v ≡ offer f quarters worth z end

pub record Covered (f : Figures) (cap : Budgets) (quarters : List Quarter) (worth : Cell → BestProfit) (z : Cell) (seen : Cell → Type 0)
    (v : BestProfit) : Type 0 where
  pub above : (e : Cell) → InTable (with_most f cap) e → Within e.left z.left → seen e → AtMost (offer f quarters worth z e) v
  pub met : (v ≡ None) ⊎ Met f cap quarters worth z v

-- ---- a stretch raised to another that does not meet it

pub record RowAsked (cells : List ℤ) (to from count : ℕ) (gain : ℤ) : Type 0 where
  pub beside : (to + count ≤ from) ⊎ (from + count ≤ to)
  pub fits : from + count ≤ length cells
  pub room : to + count ≤ length cells
  pub small : Small cells from count
  pub gains : nat_abs gain ≤ 2 ^ 61

-- ---- one way, taken from every cell of the year that has as much left

abbrev pub end_of : Way → Cell
end_of w = record { state = w.to; left = w.from.left }

pub record WayAsked (f : Figures) (cells : List ℤ) (at : Places) (w : Way) : Type 0 where
  pub sound : Sound f
  pub inside : InTable f w.from
  pub end : w.to < states f
  pub apart : (at.here + width f ≤ at.after) ⊎ (at.after + width f ≤ at.here)
  pub here : at.here + width f ≤ length cells
  pub after : at.after + width f ≤ length cells
  pub small : Small cells at.after (width f)
  pub gains : nat_abs w.gain ≤ 2 ^ 61

-- these cells of the layer are raised to what the way brings, and all else is as it was
pub record Brought (f : Figures) (at : Places) (w : Way) (which : Cell → Type 0) (was now : List ℤ) : Type 0 where
  pub raised : (z : Cell) → InTable f z → which z
      → stored_at f now at.here z ≡ maxℤ (stored_at f was at.here z) (stored_at f was at.after (afterward z (end_of w)) +ℤ w.gain)
  pub others : (z : Cell) → InTable f z → (which z → ⊥) → stored_at f now at.here z ≡ stored_at f was at.here z
  pub apart : Apart was now at.here (width f)

-- of one row, of one span, of all
pub record InRow (w : Way) (x y : ℕ) (z : Cell) : Type 0 where
  pub state : z.state ≡ w.from.state
  pub starts : z.left.starts ≡ x
  pub ons : z.left.ons ≡ y
  pub blocks : w.from.left.blocks ≤ z.left.blocks

pub record InSpan (w : Way) (x y : ℕ) (z : Cell) : Type 0 where
  pub state : z.state ≡ w.from.state
  pub starts : z.left.starts ≡ x
  pub ons : w.from.left.ons ≤ z.left.ons
  pub before : z.left.ons < y
  pub blocks : w.from.left.blocks ≤ z.left.blocks

pub record InSection (w : Way) (x : ℕ) (z : Cell) : Type 0 where
  pub state : z.state ≡ w.from.state
  pub within : Within w.from.left z.left
  pub before : z.left.starts < x

-- ---- what a number of the layer says when some ways were seen

pub record Best (f : Figures) (cap : Budgets) (quarters : List Quarter) (worth : Cell → BestProfit) (z : Cell) (seen : Cell → Type 0) (n : ℕ)
    (number : ℤ) : Type 0 where
  pub value : BestProfit
  pub covered : Covered f cap quarters worth z seen value
  pub holds : Holds n value number

-- those to the states before t, and to t those that spend one of the first j cells of the box
abbrev pub SeenBy : Figures → Budgets → ℕ → ℕ → Cell → Cell → Type 0
SeenBy f cap t j z e = (e.state < t) ⊎ ((e.state ≡ t) × (index (with_most f cap) (spending z e) < j))

-- ---- the ways to a state, which stand in the month's own layer

abbrev pub way_of : Cell → ℕ → ℤ → Way
way_of from to gain = record { from = from; to = to; gain = gain }

-- a way that there may be
abbrev pub TakeAsked : Figures → List ℤ → Places → Cell → ℕ → BestProfit → Type 0
TakeAsked f cells at from to earned = (gain : ℤ) → earned ≡ Some gain → WayAsked f cells at (way_of from to gain)

pub record Taken (f : Figures) (at : Places) (from : Cell) (to : ℕ) (earned : BestProfit) (was now : List ℤ) : Type 0 where
  pub some : (gain : ℤ) → earned ≡ Some gain → Brought f at (way_of from to gain) (InSection (way_of from to gain) (f.most.starts + 1)) was now
  pub none : earned ≡ None → now ≡ was

pub record WaysAsked (f : Figures) (cap : Budgets) (cells : List ℤ) (at : Places) (t : ℕ) : Type 0 where
  pub sound : Sound f
  pub fits : Within cap f.most
  pub placed : Placed f cap at (length cells)
  pub end : t < states f
  pub ways : Cell → BestProfit
  pub long : ℕ
  pub long-few : long ≤ most_intervals
  pub rolled : LayerAt (with_most f cap) long ways (stored_at (with_most f cap) cells at.work)
  pub worth : Cell → BestProfit
  pub ahead : ℕ
  pub few : ahead ≤ most_intervals
  pub layer : LayerAt f ahead worth (stored_at f cells at.after)

-- where the best of the ways to the states before t stood, that of the ways to t as well
pub record WaysTaken (f : Figures) (cap : Budgets) (at : Places) (t j : ℕ) (was now : List ℤ) : Type 0 where
  pub best : (quarters : List Quarter) (worth : Cell → BestProfit) (n : ℕ) → n + length quarters ≤ most_intervals
      → LayerAt (with_most f cap) (length quarters) (value_at (with_most f cap) (ends_in t) quarters) (stored_at (with_most f cap) was at.work)
      → LayerAt f n worth (stored_at f was at.after) → (z : Cell) → InTable f z
      → Best f cap quarters worth z (SeenBy f cap t 0 z) (n + length quarters) (stored_at f was at.here z)
      → Best f cap quarters worth z (SeenBy f cap t j z) (n + length quarters) (stored_at f now at.here z)
  pub apart : Apart was now at.here (width f)
  pub same : length now ≡ length was

-- ---- one state at the month's end

pub record EndAsked (f : Figures) (cells prices : List ℤ) (hours : Hours) (m : Month) (at : Places) (t : ℕ) : Type 0 where
  pub month : MonthAsked f cells prices hours m at
  pub end : t < states f

-- where the best of the ways to the states before one stood, that of the ways to those before another
pub record EndsTaken (f : Figures) (quarters : List Quarter) (m : Month) (at : Places) (from to : ℕ) (was now : List ℤ) : Type 0 where
  pub best : (worth : Cell → BestProfit) (n : ℕ) → n + length quarters ≤ most_intervals → LayerAt f n worth (stored_at f was at.after)
      → (z : Cell) → InTable f z → Best f m.cap quarters worth z (SeenBy f m.cap from 0 z) (n + length quarters) (stored_at f was at.here z)
      → Best f m.cap quarters worth z (SeenBy f m.cap to 0 z) (n + length quarters) (stored_at f now at.here z)
  pub elsewhere : Elsewhere f m.cap at was now
  pub same : length now ≡ length was

-- ---- budgets one place on: where blocks are not limited, a row has one cell, and on-intervals taken for blocks make a span one row

abbrev pub shifted : Budgets → Budgets
shifted b = budgets 0 b.starts b.ons

abbrev pub shifted_cell : Cell → Cell
shifted_cell z = record { state = z.state; left = shifted z.left }

abbrev pub shifted_figures : Figures → Figures
shifted_figures f = with_most f (shifted f.most)

abbrev pub shifted_way : Way → Way
shifted_way w = record { from = shifted_cell w.from; to = w.to; gain = w.gain }

-- One interval for a line, piece by piece from its end down, and for all lines from the highest column down.
use Rattle.std.specs.Prelude.{◌≡◌, List, ◌⊎◌, ℕ, ◌+◌, ◌-◌, ◌*◌, ◌^◌, ◌≤◌, ◌<◌, min, ℤ, pos, nat_abs, length, get_or}
use Rattle.optimality.specs.declared.Cell.{Cell}
use Rattle.optimality.specs.declared.Figures.{Figures}
use Rattle.optimality.specs.Machine.{Quarter}
use Rattle.optimality.specs.Cells.{InTable}
use Rattle.geometry.specs.Geometry.{row, span, section}
use Rattle.commitment.specs.Windows.{opens}
use Rattle.marks.specs.declared.Frame.{Frame}
use Rattle.marks.specs.declared.Step.{Step}
use Rattle.marks.specs.declared.Line.{Line}
use Rattle.marks.specs.declared.Piece.{Piece}
use Rattle.marks.specs.Lines.{value_of, mark_of, column_of, Flat, Over}
use Rattle.marks.specs.Turning.{Turn, Kept}

-- between two columns the cells are turned, and all else is as it was
pub record Columns (f : Figures) (q : Quarter) (w : ℕ) (was now : List ℤ) (from to : ℕ) : Type 0 where
  pub same : length now ≡ length was
  pub done : (c : Cell) → InTable f c → from ≤ column_of f c → column_of f c < to
      → Turn f q (value_of f w was) (mark_of f w was) c (value_of f w now c) (mark_of f w now c)
  pub apart : (c : Cell) → InTable f c → (column_of f c < from) ⊎ (to ≤ column_of f c) → Kept f w was now c
  pub beyond : (j : ℕ) → w + w ≤ j → get_or now j (pos 0) ≡ get_or was j (pos 0)

-- pieces of so many places from the first on, the last perhaps cut short: where the last begins
pub record LastPiece (first end most at : ℕ) : Type 0 where
  pub before : ℕ
  pub begins : at ≡ first + before * most
  pub some : at < end
  pub few : end ≤ at + most

-- the interval of a price
abbrev pub step_at : Frame → ℕ → ℤ → ℕ → Step
step_at g sections price at =
    record { figures = g.figures; width = g.width; section = sections; price = price; opens = opens g.hours at }

-- what an interval asks of the columns before one
pub record Before (t : Step) (cells : List ℤ) (to : ℕ) : Type 0 where
  pub over : Over t
  pub marks : t.width + t.width ≤ length cells
  pub small : (c : Cell) → InTable t.figures c → column_of t.figures c < to → nat_abs (value_of t.figures t.width cells c) ≤ 2 ^ 62

-- a line: a row where MWh is limited, else a span or the section
pub record LineOf (f : Figures) (l : Line) : Type 0 where
  pub starts : l.starts ≤ f.most.starts
  pub begins : l.start ≡ l.starts * span f + l.ons * row f
  pub ends : l.start + l.long ≤ section f
  pub flat : f.takes.blocks ≡ 0 → (l.ons ≡ 0) × Flat f l.starts l.long
  pub lined : f.takes.blocks ≡ 1 → (l.ons ≤ f.most.ons) × (l.long ≡ row f)

-- its places from one on to another
abbrev pub piece_of : Line → ℕ → ℕ → Piece
piece_of l at end = record { starts = l.starts; ons = l.ons; place = at; column = l.start + at; count = end - at }

-- the first of its places with blocks enough to run
abbrev pub first_of : Figures → ℕ → ℕ
first_of f long = min long (f.takes.blocks * f.pmin)

-- the first n marks are the numbers of their cells, and all else is as it was
pub record OwnNumbers (w : ℕ) (was now : List ℤ) (n : ℕ) : Type 0 where
  pub same : length now ≡ length was
  pub own : (i : ℕ) → i < n → get_or now (w + i) (pos 0) ≡ pos i
  pub apart : (j : ℕ) → (j < w) ⊎ (w + n ≤ j) → get_or now j (pos 0) ≡ get_or was j (pos 0)

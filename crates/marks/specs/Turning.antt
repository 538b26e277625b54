-- One interval from a cell, in place: off or the first of the best outputs on, with the mark of the cell that it leads to.
use Rattle.std.specs.Prelude.{◌≡◌, true, false, List, ◌⊎◌, ℕ, ◌+◌, ◌^◌, ◌≤◌, ◌<◌, ℤ, pos, nat_abs, length, get_or, ◌≤ℤ◌}
use Rattle.optimality.specs.declared.Cell.{Cell}
use Rattle.optimality.specs.declared.Figures.{Figures}
use Rattle.optimality.specs.Machine.{Quarter}
use Rattle.optimality.specs.Cells.{InTable, states, after_off, off_cell}
use Rattle.geometry.specs.Layers.{infeasible}
use Rattle.intervals.specs.Turns.{off_stored}
use Rattle.carrying.specs.Pairs.{Larger}
use Rattle.carrying.specs.Images.{Imaged}
use Rattle.marks.specs.declared.Step.{Step}
use Rattle.marks.specs.declared.Piece.{Piece}
use Rattle.marks.specs.Lines.{value_of, mark_of, column_of, quarter_of, OnPicked, Here, PieceOf, Over, OnAsked}

-- the interval off; past the last state there is no mark to take over
pub record OffAt (f : Figures) (stored marked : Cell → ℤ) (c : Cell) (v m : ℤ) : Type 0 where
  pub value : v ≡ off_stored f stored c
  pub mark : after_off f c.state < states f → m ≡ marked (off_cell f c)

-- the interval on, in a quarter that may be shut
pub record OnAt (f : Figures) (q : Quarter) (stored marked : Cell → ℤ) (c : Cell) (v m : ℤ) : Type 0 where
  pub opened : q.opens ≡ true → OnPicked f stored marked q.price c v m
  pub shut : q.opens ≡ false → v ≡ infeasible

-- the better of both
pub record Turn (f : Figures) (q : Quarter) (stored marked : Cell → ℤ) (c : Cell) (v m : ℤ) : Type 0 where
  pub off-value : ℤ
  pub off-mark : ℤ
  pub off : OffAt f stored marked c off-value off-mark
  pub on-value : ℤ
  pub on-mark : ℤ
  pub on : OnAt f q stored marked c on-value on-mark
  pub larger : Larger off-value off-mark on-value on-mark v m

-- a plane of one state for another's, place by place
abbrev pub MovedAt : ℕ → List ℤ → ℕ → ℕ → ℤ → ℤ → Type 0
MovedAt w was from i v m = (v ≡ get_or was (from + i) (pos 0)) × (m ≡ get_or was (w + (from + i)) (pos 0))

-- the i-th place of a piece: what the cell that stands there gets of an interval off, on, and of both
module _ (t : Step) (cells : List ℤ) (s : ℕ) (p : Piece) where
  abbrev pub OffHere : ℕ → ℤ → ℤ → Type 0
  OffHere i v m =
      (c : Cell) → Here t.figures s (p.column + i) c
      → OffAt t.figures (value_of t.figures t.width cells) (mark_of t.figures t.width cells) c v m

  abbrev pub OnHere : ℕ → ℤ → ℤ → Type 0
  OnHere i v m =
      (c : Cell) → Here t.figures s (p.column + i) c
      → OnAt t.figures (quarter_of t) (value_of t.figures t.width cells) (mark_of t.figures t.width cells) c v m

  abbrev pub TurnHere : ℕ → ℤ → ℤ → Type 0
  TurnHere i v m =
      (c : Cell) → Here t.figures s (p.column + i) c
      → Turn t.figures (quarter_of t) (value_of t.figures t.width cells) (mark_of t.figures t.width cells) c v m

  -- what is aside serves for the oldest state that is on, where it is not the only one
  abbrev pub ServesFor : List ℤ → Type 0
  ServesFor aside = 0 < s → s + 1 ≡ t.figures.mot → Imaged OnHere aside aside p.count

-- as it was
abbrev pub Kept : Figures → ℕ → List ℤ → List ℤ → Cell → Type 0
Kept f w was now c = (value_of f w now c ≡ value_of f w was c) × (mark_of f w now c ≡ mark_of f w was c)

-- a piece on the way: of the states below s its cells are turned, and all else is as it was
pub record Partly (t : Step) (was now : List ℤ) (p : Piece) (s : ℕ) : Type 0 where
  pub same : length now ≡ length was
  pub done : (i : ℕ) → i < p.count → (c : Cell) → Here t.figures c.state (p.column + i) c → c.state < s
      → Turn t.figures (quarter_of t) (value_of t.figures t.width was) (mark_of t.figures t.width was) c
      (value_of t.figures t.width now c) (mark_of t.figures t.width now c)
  pub rest : (c : Cell) → InTable t.figures c → s ≤ c.state → Kept t.figures t.width was now c
  pub apart : (c : Cell) → InTable t.figures c → (column_of t.figures c < p.column) ⊎ (p.column + p.count ≤ column_of t.figures c)
      → Kept t.figures t.width was now c
  pub beyond : (j : ℕ) → t.width + t.width ≤ j → get_or now j (pos 0) ≡ get_or was j (pos 0)

-- what an interval asks of one state of a piece, that is not the last
pub record StateAsked (t : Step) (cells : List ℤ) (s : ℕ) (p : Piece) : Type 0 where
  pub over : Over t
  pub marks : t.width + t.width ≤ length cells
  pub piece-of : PieceOf t.figures p
  pub inner : s + 1 < states t.figures
  pub on : s < t.figures.mot → OnAsked t cells s p
  pub floored : (c : Cell) → InTable t.figures c → s < c.state → column_of t.figures c < p.column + p.count
      → infeasible ≤ℤ value_of t.figures t.width cells c

-- what an interval asks of a piece
pub record PieceAsked (t : Step) (cells : List ℤ) (p : Piece) : Type 0 where
  pub over : Over t
  pub marks : t.width + t.width ≤ length cells
  pub piece-of : PieceOf t.figures p
  pub small : (c : Cell) → InTable t.figures c → column_of t.figures c < p.column + p.count
      → nat_abs (value_of t.figures t.width cells c) ≤ 2 ^ 62

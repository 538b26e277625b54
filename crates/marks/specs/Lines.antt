-- An interval on, for the cells of a piece of a line: the first of the best outputs that a cell allows, with the mark of the cell that it leads to.
use Rattle.std.specs.Prelude.{◌≡◌, true, List, ◌⊎◌, ℕ, ◌+◌, ◌-◌, ◌*◌, ◌^◌, ◌≤◌, ◌<◌, ℤ, pos, nat_abs, ◌+ℤ◌, length, get_or}
use Rattle.optimality.specs.declared.Cell.{Cell}
use Rattle.optimality.specs.declared.Figures.{Figures}
use Rattle.optimality.specs.Machine.{Quarter, quarter}
use Rattle.optimality.specs.Cells.{InTable, states, after_on, start_takes, start_pays, may_run, on_cell, rungs}
use Rattle.geometry.specs.Geometry.{row, span, section, width, index}
use Rattle.geometry.specs.Layers.{infeasible}
use Rattle.intervals.specs.declared.rows.Ladder.{Ladder}
use Rattle.intervals.specs.Ladders.{most_brought, ladder_of}
use Rattle.intervals.specs.Stretches.{Small}
use Rattle.intervals.specs.Turns.{Interval, on_stored}
use Rattle.carrying.specs.Images.{piece}
use Rattle.carrying.specs.Picking.{Picked}
use Rattle.marks.specs.declared.Step.{Step}
use Rattle.marks.specs.declared.Piece.{Piece}
use Rattle.marks.specs.declared.lines.Back.{Back}

-- ---- a line where every output leads to the same cell, the first `skipped` places having none

pub record FlatLine (cells : List ℤ) (w : ℕ) (b : Back) (p : Piece) : Type 0 where
  pub values : b.line + (p.place + p.count) ≤ w
  pub marks : w + w ≤ length cells
  pub small : Small cells b.line (p.place + p.count)
  pub gains : nat_abs b.gain ≤ most_brought
  pub few : p.count ≤ piece

pub record FlatAt (cells : List ℤ) (w : ℕ) (b : Back) (place i : ℕ) (v m : ℤ) : Type 0 where
  pub none : place + i < b.skipped → v ≡ infeasible
  pub value : b.skipped ≤ place + i → v ≡ get_or cells (b.line + (place + i - b.skipped)) (pos 0) +ℤ b.gain
  pub mark : b.skipped ≤ place + i → m ≡ get_or cells (w + (b.line + (place + i - b.skipped))) (pos 0)

-- ---- the cells of a layer at the front, and their marks

module _ (f : Figures) (w : ℕ) (cells : List ℤ) where
  abbrev pub value_of : Cell → ℤ
  value_of c = get_or cells (index f c) (pos 0)

  abbrev pub mark_of : Cell → ℤ
  mark_of c = get_or cells (w + index f c) (pos 0)

-- by its column, the place of a cell among those of its state
abbrev pub column_of : Figures → Cell → ℕ
column_of f c = c.left.starts * span f + (c.left.ons * row f + c.left.blocks)

-- the outputs on that a cell allows
abbrev pub Runs : Figures → Cell → ℕ → Type 0
Runs f c k = (f.pmin ≤ k) × (k ≤ f.pmax) × (may_run f c ≡ true) × (k * f.takes.blocks ≤ c.left.blocks)

-- an interval on, or none
abbrev pub OnPicked : Figures → (Cell → ℤ) → (Cell → ℤ) → ℤ → Cell → ℤ → ℤ → Type 0
OnPicked f stored marked price c v m =
    (((k : ℕ) → Runs f c k → ⊥) × (v ≡ infeasible)) ⊎ Picked (Runs f c) (on_stored f stored c price) (λ k. marked (on_cell f c k)) v m

-- the cell of a state that stands in a column
pub record Here (f : Figures) (s column : ℕ) (c : Cell) : Type 0 where
  pub inside : InTable f c
  pub state : c.state ≡ s
  pub at : column_of f c ≡ column

-- the line that an interval on leads to, from a line that begins with x starts left
abbrev pub line_of : Figures → ℕ → ℕ → ℕ
line_of f s x = after_on f s * section f + (x - start_takes f s) * span f

-- where MWh is not limited: the places of the line without an interval on, for the starts that it lacks where it begins and for an on-interval
abbrev pub skipped_of : Figures → ℕ → ℕ → ℕ
skipped_of f s x = (start_takes f s - x) * span f + f.takes.ons * row f

-- ---- a piece of a line

-- so many places from a line's beginning: of a span, or of the whole section
abbrev pub Flat : Figures → ℕ → ℕ → Type 0
Flat f x places = (places ≤ span f) ⊎ ((x ≡ 0) × (f.takes.ons ≡ 0))

-- whole chunks from where the lowest output begins, the last perhaps cut short
pub record WholeChunks (f : Figures) (place count : ℕ) : Type 0 where
  pub before : ℕ
  pub begins : place ≡ f.pmin + before * rungs f
  pub chunks : ℕ
  pub most : count ≤ chunks * rungs f
  pub fits : chunks * rungs f ≤ piece

pub record PieceOf (f : Figures) (p : Piece) : Type 0 where
  pub starts : p.starts ≤ f.most.starts
  pub column-is : p.column ≡ p.starts * span f + (p.ons * row f + p.place)
  pub fits : p.column + p.count ≤ section f
  pub some : 1 ≤ p.count
  pub few : p.count ≤ piece
  pub flat : f.takes.blocks ≡ 0 → (p.ons ≡ 0) × Flat f p.starts (p.place + p.count)
  pub lined : f.takes.blocks ≡ 1
      → (p.ons ≤ f.most.ons) × (p.place + p.count ≤ row f) × ((p.place + p.count ≤ f.pmin) ⊎ WholeChunks f p.place p.count)

-- ---- what an interval on asks: a state that may run, and a piece of a line

pub record Over (t : Step) : Type 0 where
  pub interval : Interval t.figures t.price
  pub wide : t.width ≡ width t.figures
  pub sections : t.section ≡ section t.figures

abbrev pub quarter_of : Step → Quarter
quarter_of t = quarter t.price t.opens

-- the outputs
abbrev pub laddered : Step → ℕ → Ladder
laddered t s = ladder_of t.figures t.price (start_pays t.figures s)

pub record OnAsked (t : Step) (cells : List ℤ) (s : ℕ) (p : Piece) : Type 0 where
  pub over : Over t
  pub marks : t.width + t.width ≤ length cells
  pub piece-of : PieceOf t.figures p
  pub small : (c : Cell) → InTable t.figures c → c.state ≡ after_on t.figures s → column_of t.figures c < p.column + p.count
      → nat_abs (value_of t.figures t.width cells c) ≤ 2 ^ 62
  pub state : s < states t.figures
  pub leads : after_on t.figures s < states t.figures

-- the i-th place of a piece: an interval on from the cell that stands there
abbrev pub OnOf : Step → List ℤ → ℕ → Piece → ℕ → ℤ → ℤ → Type 0
OnOf t cells s p i v m =
    (c : Cell) → Here t.figures s (p.column + i) c
    → OnPicked t.figures (value_of t.figures t.width cells) (mark_of t.figures t.width cells) t.price c v m

-- What one pass over a stretch of a scratch makes of it: the stretch itself, and that nothing else is touched.
use Rattle.std.specs.Prelude.{◌≡◌, Bool, true, false, cond, ◌&&◌, List, ◌⊎◌, ℕ, zero, suc, ◌+◌, ◌-◌, ◌*◌, ◌^◌, ◌≤◌, ◌<◌, leb, ℤ, pos, neg_ℤ, nat_abs, ◌+ℤ◌, length, get_or, set, ◌≤ℤ◌}
use Rattle.integers.specs.Maximum.{maxℤ}
use Rattle.commitment.specs.Bounds.{most_blocks}
use Rattle.optimality.specs.declared.Figures.{Figures}
use Rattle.optimality.specs.declared.Cell.{Cell}
use Rattle.optimality.specs.Machine.{Quarter}
use Rattle.optimality.specs.Cells.{Sound, InTable, cell, states}
use Rattle.geometry.specs.Geometry.{row, span, section, width}
use Rattle.geometry.specs.Layers.{swing, stored_at, in_front}
use Rattle.intervals.specs.Turns.{raised, off_stored, cell_stored, quarter_stored}
use Rattle.intervals.specs.declared.rows.Ladder.{Ladder}
use Rattle.intervals.specs.Ladders.{brings, outputs, most_brought}

-- but for the stretch, all is as it was
abbrev pub Apart : List ℤ → List ℤ → ℕ → ℕ → Type 0
Apart was cells to count = (j : ℕ) → (j < to) ⊎ (to + count ≤ j) → get_or cells j (pos 0) ≡ get_or was j (pos 0)

-- numbers to which an interval can be added
abbrev pub Small : List ℤ → ℕ → ℕ → Type 0
Small cells from count = (i : ℕ) → i < count → nat_abs (get_or cells (from + i) (pos 0)) ≤ 2 ^ 62

-- a stretch of such numbers
pub record Readable (cells : List ℤ) (from count : ℕ) : Type 0 where
  pub fits : from + count ≤ length cells
  pub small : Small cells from count

-- a stretch to be made from one as long that lies apart from it, and from one that lies behind it, of numbers that an interval is added to
pub record Beside (cells : List ℤ) (to from count : ℕ) : Type 0 where
  pub beside : (to + count ≤ from) ⊎ (from + count ≤ to)
  pub fits : from + count ≤ length cells
  pub room : to + count ≤ length cells

pub record Behind (cells : List ℤ) (to from count : ℕ) : Type 0 where
  pub before : to + count ≤ from
  pub fits : from + count ≤ length cells
  pub small : Small cells from count

pub record Copied (was cells : List ℤ) (to from count : ℕ) : Type 0 where
  pub inside : (i : ℕ) → i < count → get_or cells (to + i) (pos 0) ≡ get_or was (from + i) (pos 0)
  pub apart : Apart was cells to count

-- each number raised to another plus a gain
pub record Raised (was cells : List ℤ) (to from count : ℕ) (gain : ℤ) : Type 0 where
  pub inside : (i : ℕ) → i < count
      → get_or cells (to + i) (pos 0) ≡ maxℤ (get_or was (to + i) (pos 0)) (get_or was (from + i) (pos 0) +ℤ gain)
  pub apart : Apart was cells to count

-- ---- a pass that carries the best of the numbers so far

-- the best of the numbers passed so far, each with a rise for every place since
unfoldable pub best_so_far : (ℕ → ℤ) → ℤ → ℕ → ℤ
best_so_far number rise zero = number 0
best_so_far number rise (suc i) = maxℤ (number (suc i)) (best_so_far number rise i +ℤ rise)

-- where the best starts, below every number of a cell by more than a rise; and the most that it can be after all places
abbrev pub depth : ℕ
depth = 2 ^ 62 + 2 ^ 36

abbrev pub below : ℤ
below = neg_ℤ (pos depth)

abbrev pub carried_most : ℕ
carried_most = depth + (most_blocks + 1) * swing

-- one place: what is there to be passed, and what the pass makes of it
pub record Carries (cells : List ℤ) (to from : ℕ) (best gain rise : ℤ) : Type 0 where
  pub before : to < from
  pub fits : from < length cells
  pub number : nat_abs (get_or cells from (pos 0)) ≤ 2 ^ 62
  pub carried : nat_abs best ≤ carried_most
  pub gains : nat_abs gain ≤ most_brought
  pub rises : nat_abs rise ≤ swing

pub record Passed (was cells : List ℤ) (to from : ℕ) (best gain rise next : ℤ) : Type 0 where
  pub carried : next ≡ maxℤ (get_or was from (pos 0)) (best +ℤ rise)
  pub stored : cells ≡ set was to (maxℤ (get_or was to (pos 0)) (next +ℤ gain))

-- the i-th place of so many, from the last down or from the first up
abbrev pub place_of : Bool → ℕ → ℕ → ℕ
place_of true count i = count - 1 - i
place_of false count i = i

-- each number raised to the best of those passed so far, plus a gain
pub record Swept (down : Bool) (was cells : List ℤ) (to from count : ℕ) (gain rise : ℤ) : Type 0 where
  pub inside : (i : ℕ) → i < count
      → get_or cells (to + place_of down count i) (pos 0)
      ≡ maxℤ (get_or was (to + place_of down count i) (pos 0)) (best_so_far (λ j. get_or was (from + place_of down count j) (pos 0)) rise i +ℤ gain)
  pub apart : Apart was cells to count

-- ---- a row, a span, a section

-- a number with z blocks left, raised to the best over the outputs, each of which takes so many a block; their cells stand in the row at `from`
abbrev pub best_over : ℕ → Ladder → List ℤ → ℕ → ℕ → ℤ → ℤ
best_over per l was from z base =
    raised (λ k. leb (k * per) z) (λ k. get_or was (from + (z - k * per)) (pos 0) +ℤ brings l k) base l.low (outputs l)

module _ (l : Ladder) (n : ℕ) where
  -- the outputs k of a cell with z blocks left whose sources are from a up to b, and stay in the row of n cells at the highest output
  abbrev pub Between : ℕ → ℕ → ℕ → ℕ → Type 0
  Between a b z k = (a ≤ z - k) × (z - k < b) × (z - k + l.high < n)

  -- those whose sources do not stay in it
  abbrev pub Past : ℕ → ℕ → Type 0
  Past z k = n ≤ z - k + l.high

  -- each cell of the row is the best over the outputs
  pub record RowRaised (was cells : List ℤ) (to from : ℕ) : Type 0 where
    pub inside : (z : ℕ) → z < n → get_or cells (to + z) (pos 0) ≡ best_over 1 l was from z (get_or was (to + z) (pos 0))
    pub apart : Apart was cells to n

  -- on the way there: no cell falls, none is above the best over its outputs, and those of its outputs that are in `Of` are counted
  pub record Reached (Of : ℕ → ℕ → Type 0) (was cells : List ℤ) (to from : ℕ) : Type 0 where
    pub above : (z : ℕ) → z < n → get_or was (to + z) (pos 0) ≤ℤ get_or cells (to + z) (pos 0)
    pub below : (z : ℕ) → z < n → get_or cells (to + z) (pos 0) ≤ℤ best_over 1 l was from z (get_or was (to + z) (pos 0))
    pub reach : (z k : ℕ) → z < n → l.low ≤ k → k ≤ l.high → k ≤ z → Of z k
        → (get_or was (from + (z - k)) (pos 0) +ℤ brings l k) ≤ℤ get_or cells (to + z) (pos 0)
    pub apart : Apart was cells to n

module _ (f : Figures) (l : Ladder) where
  -- the same for the rows that have on-intervals left
  pub record SpanRaised (was cells : List ℤ) (to from : ℕ) : Type 0 where
    pub inside : (y z : ℕ) → y ≤ f.most.ons → z ≤ f.most.blocks
        → get_or cells (to + (y * row f + z)) (pos 0)
        ≡ cond (leb f.takes.ons y) (best_over f.takes.blocks l was (from + (y - f.takes.ons) * row f) z (get_or was (to + (y * row f + z)) (pos 0)))
        (get_or was (to + (y * row f + z)) (pos 0))
    pub apart : Apart was cells to (span f)

  -- and for the spans that have starts left
  pub record SectionRaised (takes : ℕ) (was cells : List ℤ) (to from : ℕ) : Type 0 where
    pub inside : (x y z : ℕ) → x ≤ f.most.starts → y ≤ f.most.ons → z ≤ f.most.blocks
        → get_or cells (to + (x * span f + (y * row f + z))) (pos 0)
        ≡ cond (leb takes x && leb f.takes.ons y)
        (best_over f.takes.blocks l was (from + (x - takes) * span f + (y - f.takes.ons) * row f) z
        (get_or was (to + (x * span f + (y * row f + z))) (pos 0)))
        (get_or was (to + (x * span f + (y * row f + z))) (pos 0))
    pub apart : Apart was cells to (section f)

-- ---- a layer

-- a state, and how many cells a layer and a state's section have
pub record OfState (f : Figures) (s w cells : ℕ) : Type 0 where
  pub sound : Sound f
  pub state : s < states f
  pub wide : w ≡ width f
  pub many : cells ≡ section f

-- every cell of a state with the interval off, every cell of it, every cell of the layer, by the layer behind
pub record OffMade (f : Figures) (s : ℕ) (was cells : List ℤ) : Type 0 where
  pub inside : (x y z : ℕ) → x ≤ f.most.starts → y ≤ f.most.ons → z ≤ f.most.blocks
      → in_front f cells (cell s x y z) ≡ off_stored f (stored_at f was (width f)) (cell s x y z)
  pub apart : Apart was cells (s * section f) (section f)

pub record StateMade (f : Figures) (price : ℤ) (s : ℕ) (was cells : List ℤ) : Type 0 where
  pub inside : (x y z : ℕ) → x ≤ f.most.starts → y ≤ f.most.ons → z ≤ f.most.blocks
      → in_front f cells (cell s x y z) ≡ cell_stored f (stored_at f was (width f)) (cell s x y z) price
  pub apart : Apart was cells (s * section f) (section f)

-- the same in a quarter, open or shut
pub record QuarterMade (f : Figures) (q : Quarter) (s : ℕ) (was cells : List ℤ) : Type 0 where
  pub inside : (x y z : ℕ) → x ≤ f.most.starts → y ≤ f.most.ons → z ≤ f.most.blocks
      → in_front f cells (cell s x y z) ≡ quarter_stored f (stored_at f was (width f)) (cell s x y z) q
  pub apart : Apart was cells (s * section f) (section f)

pub record FrontMade (f : Figures) (q : Quarter) (was cells : List ℤ) : Type 0 where
  pub inside : (c : Cell) → InTable f c → in_front f cells c ≡ quarter_stored f (stored_at f was (width f)) c q
  pub apart : Apart was cells 0 (width f)

-- the layer at a place of the scratch
pub record LayerMade (f : Figures) (q : Quarter) (was cells : List ℤ) (at : ℕ) : Type 0 where
  pub inside : (c : Cell) → InTable f c → stored_at f cells at c ≡ quarter_stored f (stored_at f was (at + width f)) c q
  pub apart : Apart was cells at (width f)

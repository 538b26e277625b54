-- The places of the cells: each below its layer's width, and every number below that is some cell's.
use mathlib.Core.Path.{◌≡◌, refl, sym, ap, ◌∙◌}
use mathlib.Core.Bool.{Bool, true, false}
use Prim.Native.Nat.{ℕ, zero, suc, ◌+◌, ◌-◌, ◌*◌, ◌/◌, ◌%◌, ◌≤◌, ◌<◌}
use native.Mathlib.Nat.{mul-le-mul_right, mul-add-div_right, mul-add-mod_self_right, div-eq_of_lt, mod-eq_of_lt}
use native.Mathlib.Omega.{arith}
use borrow.Author.Tests.{ltb-true, ltb-false}
use lib.Dec.{ltb}
use Rattle.optimality.specs.declared.Figures.{Figures}
use Rattle.optimality.specs.declared.Cell.{Cell}
use Rattle.optimality.specs.Cells.{InTable, cell, states}
use Rattle.geometry.specs.Geometry.{row, span, section, width, index, cell_of}

-- ---- digits

digit_lt : (n m q r : ℕ) → q < n → r < m → q * m + r < n * m
digit_lt n m q r h k = let d : (q + 1) * m ≤ n * m = mul-le-mul_right m (omega arith) in omega arith

record Digits (n m i : ℕ) : Type 0 where
  high : ℕ
  low : ℕ
  high_lt : high < n
  low-lt : low < m
  is : i ≡ high * m + low

digits : (n m i : ℕ) → i < n * m → Digits n m i
digits zero m i h = absurd (omega arith)
digits (suc n) m i h = by (λ l. digits n m (i - m) l) (ltb i m) refl
  where
    next : m ≤ i → Digits n m (i - m) → Digits (suc n) m i
    next l d = record { high = suc d.high; low = d.low; high_lt = omega (arith, d.high_lt); low-lt = d.low-lt; is = omega (arith, d.is) }

    by : (i - m < n * m → Digits n m (i - m)) → (t : Bool) → ltb i m ≡ t → Digits (suc n) m i
    by rest true e = record { high = 0; low = i; high_lt = omega arith; low-lt = ltb-true i m e; is = omega arith }
    by rest false e = let l = ltb-false i m e in next l (rest (omega arith))

-- the digits of a number made of two
high_digit : (m q r : ℕ) → r < m → (q * m + r) / m ≡ q
high_digit m q r h = let z = div-eq_of_lt h in omega (arith, mul-add-div_right {m = m} (omega arith) q r, z)

low_digit : (m q r : ℕ) → r < m → (q * m + r) % m ≡ r
low_digit m q r h = mul-add-mod_self_right q m r ∙ mod-eq_of_lt h

-- ---- a cell's place in its row, its span, its state and its layer

module _ (f : Figures) where
  pub in_row : (z : ℕ) → z ≤ f.most.blocks → z < row f
  unfolding row
  in_row z h = omega arith

  pub in_span : (y z : ℕ) → y ≤ f.most.ons → z ≤ f.most.blocks → y * row f + z < span f
  unfolding span
  in_span y z h k = digit_lt (f.most.ons + 1) (row f) y z (omega arith) (in_row z k)

  pub in-section : (x y z : ℕ) → x ≤ f.most.starts → y ≤ f.most.ons → z ≤ f.most.blocks → x * span f + (y * row f + z) < section f
  unfolding section
  in-section x y z h k l = digit_lt (f.most.starts + 1) (span f) x (y * row f + z) (omega arith) (in_span y z k l)

  in-layer : (s i : ℕ) → s < states f → i < section f → s * section f + i < width f
  unfolding width
  in-layer s i h k = digit_lt (states f) (section f) s i h k

  -- a span is all its rows, a state all its spans, a layer all its states
  pub rows_all : (f.most.ons + 1) * row f ≡ span f
  unfolding span
  rows_all = refl

  pub spans_all : (f.most.starts + 1) * span f ≡ section f
  unfolding section
  spans_all = refl

  pub sections-all : states f * section f ≡ width f
  unfolding width
  sections-all = refl

  -- some rows of a span, some spans of a state
  pub rows_fit : (n : ℕ) → n ≤ f.most.ons + 1 → n * row f ≤ span f
  unfolding span
  rows_fit n h = mul-le-mul_right (row f) h

  pub spans_fit : (n : ℕ) → n ≤ f.most.starts + 1 → n * span f ≤ section f
  unfolding section
  spans_fit n h = mul-le-mul_right (span f) h

  -- a row, a span, a state is whole
  pub row_fits : (y : ℕ) → y ≤ f.most.ons → y * row f + row f ≤ span f
  unfolding span
  row_fits y h = let d : (y + 1) * row f ≤ (f.most.ons + 1) * row f = mul-le-mul_right (row f) (omega arith) in omega arith

  pub span_fits : (x : ℕ) → x ≤ f.most.starts → x * span f + span f ≤ section f
  unfolding section
  span_fits x h = let d : (x + 1) * span f ≤ (f.most.starts + 1) * span f = mul-le-mul_right (span f) (omega arith) in omega arith

  pub section-fits : (s : ℕ) → s < states f → s * section f + section f ≤ width f
  unfolding width
  section-fits s h = let d : (s + 1) * section f ≤ states f * section f = mul-le-mul_right (section f) (omega arith) in omega arith

  pub section-place-fits : (s cells w : ℕ) → s < states f → w ≡ width f → cells ≡ section f → s * cells + cells ≤ w
  section-place-fits s cells w h e i = rw (e, i) (section-fits s h)

  -- the cells of a row stand side by side
  pub index-along : (s x y z : ℕ) → index f (cell s x y z) ≡ index f (cell s x y 0) + z
  unfolding index
  index-along s x y z = along (s * section f) (x * span f) (y * row f) z
    where
      along : (a b c z : ℕ) → a + (b + (c + z)) ≡ a + (b + (c + 0)) + z
      along a b c z = omega arith

  pub index-lt : (c : Cell) → InTable f c → index f c < width f
  unfolding index
  index-lt c h =
      in-layer c.state (c.left.starts * span f + (c.left.ons * row f + c.left.blocks)) h.state
      (in-section c.left.starts c.left.ons c.left.blocks h.left.starts h.left.ons h.left.blocks)

  -- every number of a layer is some cell's
  pub record Numbered (i : ℕ) : Type 0 where
    pub of : Cell
    pub inside : InTable f of
    pub is : index f of ≡ i

  pub numbered : (i : ℕ) → i < width f → Numbered i
  unfolding width section span row index
  numbered i h =
      let s = digits (states f) (section f) i h in
      let x = digits (f.most.starts + 1) (span f) s.low s.low-lt in
      let y = digits (f.most.ons + 1) (row f) x.low x.low-lt in
      record {
        of = cell s.high x.high y.high y.low;
        inside = record {
          state = s.high_lt;
          left = record {
            starts = omega (arith, x.high_lt);
            ons = omega (arith, y.high_lt);
            blocks = omega
                (arith, y.low-lt);
          };
        };
        is = sym (s.is ∙ ap (λ (t : ℕ). s.high * section f + t) (x.is ∙ ap (λ (t : ℕ). x.high * span f + t) y.is));
      }

  -- a cell is the one at its place
  pub cell-there : (c : Cell) → InTable f c → cell_of f (index f c) ≡ c
  unfolding index cell_of
  cell-there c h =
      let line = c.left.ons * row f + c.left.blocks in
      let column = c.left.starts * span f + line in
      let blocks = in_row c.left.blocks h.left.blocks in
      let ons = in_span c.left.ons c.left.blocks h.left.ons h.left.blocks in
      let starts = in-section c.left.starts c.left.ons c.left.blocks h.left.starts h.left.ons h.left.blocks in
      let here : cell c.state c.left.starts c.left.ons c.left.blocks ≡ c = refl in
      rw (
        high_digit (section f) c.state column starts,
        low_digit (section f) c.state column starts,
        high_digit (span f) c.left.starts line ons,
        low_digit (span f) c.left.starts line ons,
        high_digit (row f) c.left.ons c.left.blocks blocks,
        low_digit (row f) c.left.ons c.left.blocks blocks,
      ) here

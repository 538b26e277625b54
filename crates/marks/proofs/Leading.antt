-- From the places of a line to the cells of a layer: what is picked for a place is picked for the cell that stands there.
use mathlib.Core.Path.{◌≡◌, refl, sym, ap, ap₂, ◌∙◌}
use mathlib.Core.Bool.{Bool, true, false, cond}
use mathlib.Core.List.{List}
use mathlib.Core.Logic.{◌⊎◌, ⊎_elim, inl, inr}
use Prim.Native.Nat.{ℕ, zero, suc, ◌+◌, ◌-◌, ◌*◌, ◌≤◌, ◌<◌}
use native.Mathlib.Nat.{mul-le-mul_right, add-mul, zero-mul, one-mul, mul-zero, mul-one}
use native.Mathlib.Omega.{arith}
use borrow.Author.Tests.{leb-true, ltb-true, ltb-false, le-leb, lt-ltb}
use lib.Dec.{leb, ltb}
use lib.IntN.{ℤ, pos, ◌+ℤ◌}
use lib.ListN.{get_or}
use lib.Signed.{◌≤ℤ◌, ◌<ℤ◌, lt_z}
use Rattle.lists.proofs.Conjunctions.{both}
use Rattle.integers.specs.Maximum.{maxℤ}
use Rattle.integers.proofs.Linear.{zarith, zsum, up_pos, dn-pos}
use Rattle.integers.proofs.Maximum.{Max, max-is}
use Rattle.integers.proofs.Order.{lt_z-dec}
use Rattle.optimality.specs.declared.Cell.{Cell}
use Rattle.optimality.specs.declared.Figures.{Figures}
use Rattle.optimality.specs.Cells.{Sound, InTable, states, after_on, start_takes, start_pays, may_run, on_cell}
use Rattle.geometry.specs.Geometry.{row, span, section, width, index}
use Rattle.geometry.specs.Layers.{infeasible}
use Rattle.geometry.proofs.Places.{in_row, in_span, in-section, row_fits, span_fits, section-fits, numbered}
use Rattle.intervals.specs.declared.rows.Ladder.{Ladder}
use Rattle.intervals.specs.Ladders.{brings, better_end, Steady}
use Rattle.intervals.specs.Turns.{net, on_stored}
use Rattle.intervals.proofs.Ladders.{brings-least, brings-next, ladder-brings, ladder-steady, end-small}
use Rattle.intervals.proofs.Turning.{pays-most}
use Rattle.intervals.specs.Stretches.{Small}
use Rattle.carrying.specs.Picking.{Picked}
use Rattle.carrying.specs.Images as images
use Rattle.carrying.proofs.Picking.{picked_same}
use Rattle.marks.specs.declared.Step.{Step}
use Rattle.marks.specs.declared.Piece.{Piece}
use Rattle.marks.specs.declared.lines.Back.{Back}
use Rattle.marks.specs.Lines.{FlatAt, FlatLine, value_of, mark_of, column_of, OnPicked, Here, PieceOf, WholeChunks, OnAsked}
use Rattle.marks.specs.Lines.{line_of, skipped_of, laddered}

-- ---- outputs that lead to the same cell: the lowest or the highest is the first of the best

module _ (l : Ladder) (some : l.low ≤ l.high) (stored mark : ℤ) where
  falling : l.rise ≤ℤ pos 0 → (d : ℕ) → brings l (l.low + d) ≤ℤ l.least
  falling h zero = let e : l.low + 0 ≡ l.low = omega arith in rw (e, brings-least l) (omega zarith)
  falling h (suc d) =
      let e : l.low + suc d ≡ suc (l.low + d) = omega arith in
      let n = brings-next l (l.low + d) (omega arith) in
      let i = falling h d in
      rw (e, n) (omega (zarith, up_pos 0, dn-pos 0, zsum (brings l (l.low + d)) l.rise))

  rising : pos 0 <ℤ l.rise → (d k : ℕ) → l.low ≤ k → brings l k <ℤ brings l (suc (k + d))
  rising h zero k lo =
      let e : suc (k + 0) ≡ suc k = omega arith in
      let n = brings-next l k lo in
      rw (e, n) (omega (zarith, up_pos 0, dn-pos 0, zsum (brings l k) l.rise))
  rising h (suc d) k lo =
      let e : suc (k + suc d) ≡ suc (suc (k + d)) = omega arith in
      let n = brings-next l (suc (k + d)) (omega arith) in
      let i = rising h d k lo in
      rw (e, n) (omega (zarith, up_pos 0, dn-pos 0, zsum (brings l (suc (k + d))) l.rise))

  below-high : pos 0 <ℤ l.rise → (k : ℕ) → l.low ≤ k → k < l.high → brings l k <ℤ brings l l.high
  below-high h k lo hi = let e : suc (k + (l.high - suc k)) ≡ l.high = omega arith in rw e at (rising h (l.high - suc k) k lo)

  abbrev top : Max l.least (brings l l.high) (maxℤ l.least (brings l l.high))
  top = max-is l.least (brings l l.high)

  pub ends-picked : Picked (λ k. (l.low ≤ k) × (k ≤ l.high)) (λ k. stored +ℤ brings l k) (λ k. mark) (stored +ℤ better_end l) mark
  ends-picked =
      ⊎_elim (λ (w : (lt_z (pos 0) l.rise ≡ true) × (pos 0 <ℤ l.rise)). highest w.1)
      (λ (w : (lt_z (pos 0) l.rise ≡ false) × (l.rise ≤ℤ pos 0)). lowest w.1) (lt_z-dec (pos 0) l.rise)
    where
      lowest : l.rise ≤ℤ pos 0 → Picked (λ k. (l.low ≤ k) × (k ≤ l.high)) (λ k. stored +ℤ brings l k) (λ k. mark) (stored +ℤ better_end l) mark
      lowest h =
          let all : (k : ℕ) → l.low ≤ k → brings l k ≤ℤ l.least =
          λ k lo. let e : l.low + (k - l.low) ≡ k = omega arith in rw e at (falling h (k - l.low)) in
          let high = all l.high some in
          let is : better_end l ≡ l.least = ⊎_elim (λ e. e) (λ e. let r = top.left in omega (zarith, e)) top.one_of in
          record {
            at = l.low;
            inside = (omega arith, some);
            is = rw (brings-least l, is);
            marked = refl;
            most = λ k g. let b = all k g.0 in rw is (omega (zarith, zsum stored (brings l k), zsum stored l.least));
            first = λ k g lt. absurd (omega (arith, g.0));
          }

      highest : pos 0 <ℤ l.rise → Picked (λ k. (l.low ≤ k) × (k ≤ l.high)) (λ k. stored +ℤ brings l k) (λ k. mark) (stored +ℤ better_end l) mark
      highest h =
          let is : better_end l ≡ brings l l.high = ⊎_elim (λ e. at_low e) (λ e. e) top.one_of in
          record {
            at = l.high;
            inside = (some, omega arith);
            is = rw is;
            marked = refl;
            most = λ k g. upto k g.0 g.1 is;
            first = λ k g lt. let b = below-high h k g.0 lt in rw is (omega (zarith, zsum stored (brings l k), zsum stored (brings l l.high)));
          }
        where
          least-below : l.least ≤ℤ brings l l.high
          least-below = by (ltb l.low l.high) refl
            where
              by : (t : Bool) → ltb l.low l.high ≡ t → l.least ≤ℤ brings l l.high
              by true e = let b = below-high h l.low (omega arith) (ltb-true l.low l.high e) in let m = brings-least l in omega (zarith, m)
              by false e =
                  let g = ltb-false l.low l.high e in
                  let same : l.high ≡ l.low = omega arith in
                  let b : brings l l.high ≡ brings l l.low = ap (brings l) same in
                  let m = brings-least l in
                  omega (zarith, b, m)

          at_low : better_end l ≡ l.least → better_end l ≡ brings l l.high
          at_low e = let r = top.right in let b = least-below in omega (zarith, e)

          upto : (k : ℕ) → l.low ≤ k → k ≤ l.high → better_end l ≡ brings l l.high → (stored +ℤ brings l k) ≤ℤ (stored +ℤ better_end l)
          upto k lo hi is = by (ltb k l.high) refl
            where
              by : (t : Bool) → ltb k l.high ≡ t → (stored +ℤ brings l k) ≤ℤ (stored +ℤ better_end l)
              by true e =
                  let b = below-high h k lo (ltb-true k l.high e) in
                  rw is (omega (zarith, zsum stored (brings l k), zsum stored (brings l l.high)))
              by false e =
                  let g = ltb-false k l.high e in
                  let same : k ≡ l.high = omega arith in
                  rw (is, same) (omega zarith)

-- ---- a place is one line and one column

pub same_place : (n a b r t : ℕ) → r < n → t < n → a * n + r ≡ b * n + t → (a ≡ b) × (r ≡ t)
same_place n a b r t hr ht e = by (ltb a b) refl (ltb b a) refl
  where
    by : (p : Bool) → ltb a b ≡ p → (q : Bool) → ltb b a ≡ q → (a ≡ b) × (r ≡ t)
    by true i q j =
        let l = ltb-true a b i in
        let m : (a + 1) * n ≤ b * n = mul-le-mul_right n (omega arith) in
        absurd (omega (arith, m, add-mul a 1 n, one-mul n))
    by false i true j =
        let l = ltb-true b a j in
        let m : (b + 1) * n ≤ a * n = mul-le-mul_right n (omega arith) in
        absurd (omega (arith, m, add-mul b 1 n, one-mul n))
    by false i false j =
        let l = ltb-false a b i in
        let g = ltb-false b a j in
        let same : a ≡ b = omega arith in
        let m : a * n ≡ b * n = ap (λ (k : ℕ). k * n) same in
        (same, omega (arith, m))

-- so many whole lines are no more
whole-lines : (n a b r : ℕ) → r < n → b * n ≤ a * n + r → b ≤ a
whole-lines n a b r few h = by (ltb a b) refl
  where
    by : (p : Bool) → ltb a b ≡ p → b ≤ a
    by true e =
        let l = ltb-true a b e in
        let m : (a + 1) * n ≤ b * n = mul-le-mul_right n (omega arith) in
        absurd (omega (arith, m, add-mul a 1 n, one-mul n))
    by false e = ltb-false a b e

-- less by some, and by those again
less-lines : (a b n : ℕ) → b ≤ a → (a - b) * n + b * n ≡ a * n
less-lines a b n h =
    let e : a - b + b ≡ a = omega arith in
    sym (add-mul (a - b) b n) ∙ ap (λ (k : ℕ). k * n) e

-- the places of a piece
module _ (f : Figures) (p : Piece) (k : PieceOf f p) (s i : ℕ) (few : i < p.count) (c : Cell) (h : Here f s (p.column + i) c) where
  pub on-flat-line : f.takes.blocks ≡ 0
      → (column_of f c ≡ p.starts * span f + (p.place + i)) × ((c.left.starts ≡ p.starts) ⊎ ((p.starts ≡ 0) × (f.takes.ons ≡ 0)))
  on-flat-line none =
      let e = k.flat none in
      let z : p.ons * row f ≡ 0 = rw e.0 (zero-mul (row f)) in
      let at : column_of f c ≡ p.starts * span f + (p.place + i) = omega (arith, h.at, k.column-is, z) in (
        at,
        ⊎_elim
            (λ (l : p.place + p.count ≤ span f).
            inl
            (same_place (span f) c.left.starts p.starts (c.left.ons * row f + c.left.blocks) (p.place + i)
            (in_span f c.left.ons c.left.blocks h.inside.left.ons h.inside.left.blocks) (omega arith) at
            ).0)
            (λ (l : (p.starts ≡ 0) × (f.takes.ons ≡ 0)). inr l) e.1,
      )

  pub on_row : f.takes.blocks ≡ 1 → (c.left.starts ≡ p.starts) × (c.left.ons ≡ p.ons) × (c.left.blocks ≡ p.place + i)
  on_row one =
      let e = k.lined one in
      let u =
      same_place (span f) c.left.starts p.starts (c.left.ons * row f + c.left.blocks) (p.ons * row f + (p.place + i))
      (in_span f c.left.ons c.left.blocks h.inside.left.ons h.inside.left.blocks) (omega (arith, e.1, row_fits f p.ons e.0))
      (omega (arith, h.at, k.column-is)) in
      let v =
      same_place (row f) c.left.ons p.ons c.left.blocks (p.place + i) (in_row f c.left.blocks h.inside.left.blocks)
      (omega (arith, e.1)) u.1 in
      (u.0, v.0, v.1)

-- ---- an interval on from a cell

-- a start takes one at most
pub takes_one : (f : Figures) → Sound f → (s : ℕ) → start_takes f s ≤ 1
takes_one f ok s = by (ltb s f.mot)
  where
    by : (b : Bool) → cond b 0 f.takes.starts ≤ 1
    by true = omega arith
    by false = ok.takes.starts

-- where all outputs lead from the places of a line
abbrev pub back_of : Step → ℕ → ℕ → Back
back_of t s x = record { line = line_of t.figures s x; skipped = skipped_of t.figures s x; gain = better_end (laddered t s) }

module _ (t : Step) (cells : List ℤ) (s : ℕ) (c : Cell) (es : c.state ≡ s) where
  abbrev f : Figures
  f = t.figures

  -- what may run has what it takes
  running : may_run f c ≡ true → (start_takes f s ≤ c.left.starts) × (f.takes.ons ≤ c.left.ons)
  running e =
      let run = both _ (leb f.takes.ons c.left.ons) e in
      let start = both (ltb (after_on f c.state) (states f)) (leb (start_takes f c.state) c.left.starts) run.0 in
      let takes = leb-true (start_takes f c.state) c.left.starts start.1 in
      (rw es at takes, leb-true f.takes.ons c.left.ons run.1)

  runs : after_on f s < states f → start_takes f s ≤ c.left.starts → f.takes.ons ≤ c.left.ons → may_run f c ≡ true
  runs leads starts ons =
      rw (es, lt-ltb (after_on f s) (states f) leads, le-leb (start_takes f s) c.left.starts starts, le-leb f.takes.ons c.left.ons ons)

  -- where the cell stands that k blocks lead to
  leads-to : (k : ℕ)
      → index f (on_cell f c k) ≡ after_on f s * section f
      + ((c.left.starts - start_takes f s) * span f + ((c.left.ons - f.takes.ons) * row f + (c.left.blocks - k * f.takes.blocks)))
  unfolding index
  leads-to k = rw es

  -- what an output brings, and where it leads
  on-is : (k at : ℕ) → f.pmin ≤ k
      → after_on f s * section f
      + ((c.left.starts - start_takes f s) * span f + ((c.left.ons - f.takes.ons) * row f + (c.left.blocks - k * f.takes.blocks)))
      ≡ at
      → (on_stored f (value_of f t.width cells) c t.price k ≡ get_or cells at (pos 0) +ℤ brings (laddered t s) k)
      × (mark_of f t.width cells (on_cell f c k) ≡ get_or cells (t.width + at) (pos 0))
  on-is k at lo e =
      let place = leads-to k ∙ e in (
        ap₂ (λ (j : ℕ) (b : ℤ). get_or cells j (pos 0) +ℤ b) place
            (ap (λ (n : ℕ). net f t.price (start_pays f n) k) es ∙ sym (ladder-brings f t.price (start_pays f s) k lo)),
        ap (λ (j : ℕ). get_or cells (t.width + j) (pos 0)) place,
      )

  -- MWh not limited: by its column, a place back or none
  module _ (x z : ℕ) (inside : InTable f c) (at : column_of f c ≡ x * span f + z)
      (line : (c.left.starts ≡ x) ⊎ ((x ≡ 0) × (f.takes.ons ≡ 0))) where
    lacking : (x ≡ 0) × (f.takes.ons ≡ 0)
        → (x * span f ≡ 0) × ((start_takes f s - x) * span f ≡ start_takes f s * span f) × (f.takes.ons * row f ≡ 0)
    lacking e =
        let d : start_takes f s - x ≡ start_takes f s = omega (arith, e.0) in (
          ap (λ (n : ℕ). n * span f) e.0 ∙ zero-mul (span f),
          ap (λ (n : ℕ). n * span f) d,
          ap (λ (n : ℕ). n * row f) e.1 ∙ zero-mul (row f),
        )

    in_place : c.left.starts ≡ x → c.left.ons * row f + c.left.blocks ≡ z
    in_place e = let m : c.left.starts * span f ≡ x * span f = ap (λ (n : ℕ). n * span f) e in omega (arith, at, m)

    short : z < skipped_of f s x → start_takes f s ≤ c.left.starts → f.takes.ons ≤ c.left.ons → ⊥
    short h starts ons =
        ⊎_elim
        (λ (e : c.left.starts ≡ x).
        let none : start_takes f s - x ≡ 0 = omega (arith, starts, e) in
        let m : (start_takes f s - x) * span f ≡ 0 = rw none (zero-mul (span f)) in
        let n : f.takes.ons * row f ≤ c.left.ons * row f = mul-le-mul_right (row f) ons in
        omega (arith, h, m, n, in_place e))
        (λ (e : (x ≡ 0) × (f.takes.ons ≡ 0)).
        let m : start_takes f s * span f ≤ c.left.starts * span f = mul-le-mul_right (span f) starts in
        omega (arith, h, m, lacking e, at))
        line

    enough : skipped_of f s x ≤ z → (start_takes f s ≤ c.left.starts) × (f.takes.ons ≤ c.left.ons)
    enough h =
        let left = in_span f c.left.ons c.left.blocks inside.left.ons inside.left.blocks in
        ⊎_elim
        (λ (e : c.left.starts ≡ x).
        let is = in_place e in
        let none =
        whole-lines (span f) 0 (start_takes f s - x) z (omega (arith, left, is)) (omega (arith, h, zero-mul (span f))) in
        let ons =
        whole-lines (row f) c.left.ons f.takes.ons c.left.blocks (in_row f c.left.blocks inside.left.blocks) (omega (arith, h, is)) in
        (omega (arith, none, e), ons))
        (λ (e : (x ≡ 0) × (f.takes.ons ≡ 0)).
        let starts =
        whole-lines (span f) c.left.starts (start_takes f s) (c.left.ons * row f + c.left.blocks) left (omega (arith, h, lacking e, at)) in
        (starts, omega (arith, e.1)))
        line

    -- as far back
    source : skipped_of f s x ≤ z → (k : ℕ) → k * f.takes.blocks ≡ 0
        → after_on f s * section f
        + ((c.left.starts - start_takes f s) * span f + ((c.left.ons - f.takes.ons) * row f + (c.left.blocks - k * f.takes.blocks)))
        ≡ line_of f s x + (z - skipped_of f s x)
    source h k none =
        let had = enough h in
        let a = less-lines c.left.starts (start_takes f s) (span f) had.0 in
        let b = less-lines c.left.ons f.takes.ons (row f) had.1 in
        let e : x - start_takes f s + start_takes f s ≡ x + (start_takes f s - x) = omega arith in
        let m : (x - start_takes f s) * span f + start_takes f s * span f ≡ x * span f + (start_takes f s - x) * span f =
        sym (add-mul (x - start_takes f s) (start_takes f s) (span f)) ∙ ap (λ (n : ℕ). n * span f) e ∙ add-mul x (start_takes f s - x) (span f) in
        linear (c.left.starts * span f) ((c.left.starts - start_takes f s) * span f) (start_takes f s * span f) (c.left.ons * row f)
        ((c.left.ons - f.takes.ons) * row f) (f.takes.ons * row f) (x * span f) ((x - start_takes f s) * span f)
        ((start_takes f s - x) * span f) c.left.blocks (k * f.takes.blocks) z (after_on f s * section f) a b m none at h
      where
        linear : (u u' v y y' o n n' l r g z to : ℕ) → u' + v ≡ u → y' + o ≡ y → n' + v ≡ n + l → g ≡ 0 → u + (y + r) ≡ n + z → l + o ≤ z
            → to + (u' + (y' + (r - g))) ≡ to + n' + (z - (l + o))
        linear u u' v y y' o n n' l r g z to a b m e at h = omega arith

    pub flat_on : f.takes.blocks ≡ 0 → f.pmin ≤ f.pmax → after_on f s < states f → (place i : ℕ) → place + i ≡ z → {v m : ℤ}
        → FlatAt cells t.width (back_of t s x) place i v m
        → OnPicked f (value_of f t.width cells) (mark_of f t.width cells) t.price c v m
    flat_on none some leads place i is {v} {m} a = by (ltb z (skipped_of f s x)) refl
      where
        nothing : (k : ℕ) → k * f.takes.blocks ≡ 0
        nothing k = rw none (mul-zero k)

        by : (b : Bool) → ltb z (skipped_of f s x) ≡ b → OnPicked f (value_of f t.width cells) (mark_of f t.width cells) t.price c v m
        by true e =
            let l = ltb-true z (skipped_of f s x) e in
            inl (λ k r. let had = running r.2 in short l had.0 had.1, a.none (rw is l))
        by false e =
            let l = ltb-false z (skipped_of f s x) e in
            let had = enough l in
            let from = line_of f s x + (z - skipped_of f s x) in
            let value = rw is at (a.value (rw is l)) in
            let mark = rw is at (a.mark (rw is l)) in
            inr
            (rw (value, mark)
            (picked_same (λ k. get_or cells from (pos 0) +ℤ brings (laddered t s) k) (λ k. get_or cells (t.width + from) (pos 0))
            (on_stored f (value_of f t.width cells) c t.price) (λ k. mark_of f t.width cells (on_cell f c k))
            (λ k h. (h.0, h.1, runs leads had.0 had.1, omega (arith, nothing k)))
            (λ k h. (h.0, h.1))
            (λ k h. on-is k from h.0 (source l k (nothing k)))
            (ends-picked (laddered t s) some (get_or cells from (pos 0)) (get_or cells (t.width + from) (pos 0)))))

  -- limited: by the row that it leads to, or none
  module _ (x y z : ℕ) (one : f.takes.blocks ≡ 1) (is : (c.left.starts ≡ x) × (c.left.ons ≡ y) × (c.left.blocks ≡ z)) where
    all : (k : ℕ) → k * f.takes.blocks ≡ k
    all k = rw one (mul-one k)

    pub lined-none : (x < start_takes f s) ⊎ ((y < f.takes.ons) ⊎ (z < f.pmin)) → {v : ℤ} (m : ℤ) → v ≡ infeasible
        → OnPicked f (value_of f t.width cells) (mark_of f t.width cells) t.price c v m
    lined-none lacks m e =
        inl (
          λ k r.
              let had = running r.2 in
              ⊎_elim (λ (h : x < start_takes f s). omega (arith, h, had.0, is.0))
              (λ (h : (y < f.takes.ons) ⊎ (z < f.pmin)).
              ⊎_elim (λ (l : y < f.takes.ons). omega (arith, l, had.1, is.1)) (λ (l : z < f.pmin). omega (arith, l, all k, is.2, r.0, r.3)) h)
              lacks,
          e,
        )

    pub lined_on : after_on f s < states f → start_takes f s ≤ x → f.takes.ons ≤ y → {v m : ℤ}
        → images.PickedAt (laddered t s) cells t.width (line_of f s x + (y - f.takes.ons) * row f) z v m
        → OnPicked f (value_of f t.width cells) (mark_of f t.width cells) t.price c v m
    lined_on leads starts ons {v} {m} a =
        let line = line_of f s x + (y - f.takes.ons) * row f in
        inr
        (picked_same (images.worth (laddered t s) cells t.width line z) (images.mark_by (laddered t s) cells t.width line z)
        (on_stored f (value_of f t.width cells) c t.price) (λ k. mark_of f t.width cells (on_cell f c k))
        (λ k h. (h.0, h.1, runs leads (omega (arith, starts, is.0)) (omega (arith, ons, is.1)), omega (arith, all k, is.2, h.2)))
        (λ k h. (h.0, h.1, omega (arith, all k, is.2, h.3)))
        (λ k h. on-is k (line + (z - k)) h.0 (at k))
        a)
      where
        at : (k : ℕ)
            → after_on f s * section f
            + ((c.left.starts - start_takes f s) * span f + ((c.left.ons - f.takes.ons) * row f + (c.left.blocks - k * f.takes.blocks)))
            ≡ line_of f s x + (y - f.takes.ons) * row f + (z - k)
        at k = rw (is.0, is.1, is.2, all k) (omega arith)

-- ---- the line stands in the layer

pub line-fits : (f : Figures) (s x : ℕ) → after_on f s < states f → x ≤ f.most.starts → line_of f s x + span f ≤ width f
line-fits f s x leads starts =
    let a = section-fits f (after_on f s) leads in
    let b = span_fits f (x - start_takes f s) (omega arith) in
    omega (arith, a, b)

-- ---- what the lines ask

module _ (t : Step) (cells : List ℤ) (s : ℕ) (p : Piece) (a : OnAsked t cells s p) where
  abbrev g : Figures
  g = t.figures

  pub steady : Steady (laddered t s)
  steady = ladder-steady g t.price (start_pays g s) a.over.interval (pays-most g a.over.interval.sound s)

  index_is : (c : Cell) → c.state * section g + column_of g c ≡ index g c
  unfolding index
  index_is c = refl

  -- a stretch of the columns up to the piece's last, in the state that the interval leads to
  readable : (off n : ℕ) → off + n ≤ p.column + p.count → (after_on g s * section g + off + n ≤ t.width) × Small cells (after_on g s * section g + off) n
  readable off n bound =
      let here = section-fits g (after_on g s) a.leads in
      let fits = a.piece-of.fits in (
        omega (arith, here, fits, a.over.wide),
        λ i h.
            let c = numbered g (after_on g s * section g + off + i) (omega (arith, here, fits)) in
            let e : c.of.state * section g + column_of g c.of ≡ after_on g s * section g + (off + i) = index_is c.of ∙ (omega (arith, c.is)) in
            let u = same_place (section g) c.of.state (after_on g s) (column_of g c.of) (off + i)
            (in-section g c.of.left.starts c.of.left.ons c.of.left.blocks c.inside.left.starts c.inside.left.ons
            c.inside.left.blocks) (omega (arith, fits)) e in
            rw (← c.is) (a.small c.of c.inside u.0 (omega (arith, u.1))),
      )

  spans : (p.starts - start_takes g s) * span g ≤ p.starts * span g
  spans = mul-le-mul_right (span g) (omega arith)

  pub flat_line : g.takes.blocks ≡ 0 → FlatLine cells t.width (back_of t s p.starts) p
  flat_line none =
      let z : p.ons * row g ≡ 0 = rw (a.piece-of.flat none).0 (zero-mul (row g)) in
      let r =
      readable ((p.starts - start_takes g s) * span g) (p.place + p.count) (omega (arith, spans, a.piece-of.column-is, z)) in
      record { values = r.0; marks = a.marks; small = r.1; gains = end-small (laddered t s) steady; few = a.piece-of.few }

  -- the row that an interval on leads to
  row-behind : (after_on g s * section g + ((p.starts - start_takes g s) * span g + (p.ons - g.takes.ons) * row g) + (p.place + p.count) ≤ t.width)
      × Small cells (after_on g s * section g + ((p.starts - start_takes g s) * span g + (p.ons - g.takes.ons) * row g)) (p.place + p.count)
  row-behind =
      let rows : (p.ons - g.takes.ons) * row g ≤ p.ons * row g = mul-le-mul_right (row g) (omega arith) in
      readable ((p.starts - start_takes g s) * span g + (p.ons - g.takes.ons) * row g) (p.place + p.count)
      (omega (arith, spans, rows, a.piece-of.column-is))

  grouped : after_on g s * section g + ((p.starts - start_takes g s) * span g + (p.ons - g.takes.ons) * row g)
      ≡ line_of g s p.starts + (p.ons - g.takes.ons) * row g
  grouped = omega arith

  pub row-fits-behind : line_of g s p.starts + (p.ons - g.takes.ons) * row g + (p.place + p.count) ≤ t.width
  row-fits-behind = omega (arith, row-behind.0, grouped)

  pub lined-piece : g.takes.blocks ≡ 1 → g.pmin ≤ p.place
      → images.Chunks (laddered t s) cells t.width
      (record { line = line_of g s p.starts + (p.ons - g.takes.ons) * row g; first = p.place; count = p.count })
  lined-piece one lo =
      ⊎_elim (λ (h : p.place + p.count ≤ g.pmin). absurd (omega (arith, a.piece-of.some)))
      (λ (c : WholeChunks g p.place p.count).
      record {
        steady = steady;
        before = c.before;
        begins = c.begins;
        chunks = c.chunks;
        most = c.most;
        fits = c.fits;
        values = omega (arith, row-fits-behind);
        marks = a.marks;
        small = rw grouped at row-behind.1;
      })
      (a.piece-of.lined one).2

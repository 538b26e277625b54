-- From column to column, downwards: an interval leads to no higher column, so what a piece is made of is still as it was.
use mathlib.Core.Path.{◌≡◌, refl, sym, ap, ◌∙◌}
use mathlib.Core.Bool.{Bool, true, false}
use mathlib.Core.List.{List}
use mathlib.Core.Logic.{◌⊎◌, ⊎_elim, inl, inr}
use Prim.Native.Nat.{ℕ, ◌+◌, ◌-◌, ◌*◌, ◌/◌, ◌%◌, ◌≤◌, ◌<◌, min}
use native.Mathlib.Nat.{mul-le-mul_right, one-mul, add-mul, mul_assoc, div-add-mod', mod-lt}
use native.Mathlib.Omega.{arith}
use Rattle.std.proofs.lemmas.Grind.{div_ceil_times}
use borrow.Author.Tests.{ltb-true, ltb-false}
use lib.Dec.{ltb}
use lib.IntN.{ℤ}
use Rattle.optimality.specs.declared.Cell.{Cell}
use Rattle.optimality.specs.declared.Figures.{Figures}
use Rattle.optimality.specs.Machine.{Quarter}
use Rattle.optimality.specs.Cells.{Sound, InTable, states, start_takes, off_cell, on_cell, rungs}
use Rattle.optimality.proofs.Turns.{off-in-table, on-in-table}
use Rattle.geometry.specs.Geometry.{row, span}
use Rattle.intervals.proofs.Turning.{pmax-most}
use Rattle.carrying.specs.Images.{piece}
use Rattle.marks.specs.declared.Step.{Step}
use Rattle.marks.specs.declared.Line.{Line}
use Rattle.marks.specs.declared.Piece.{Piece}
use Rattle.marks.specs.Lines.{value_of, mark_of, column_of, quarter_of, WholeChunks}
use Rattle.marks.specs.Turning.{Turn, Partly, PieceAsked}
use Rattle.marks.specs.Passing.{Columns, Before, LineOf, LastPiece, piece_of}
use Rattle.marks.proofs.Turned.{turn-same, runs_on}

on-column : (f : Figures) (c : Cell) (k : ℕ) → column_of f (on_cell f c k) ≤ column_of f c
on-column f c k =
    let a : (c.left.starts - start_takes f c.state) * span f ≤ c.left.starts * span f = mul-le-mul_right (span f) (omega arith) in
    let b : (c.left.ons - f.takes.ons) * row f ≤ c.left.ons * row f = mul-le-mul_right (row f) (omega arith) in
    omega (arith, a, b)

module _ (f : Figures) (q : Quarter) (w : ℕ) where
  pub columns-none : (was : List ℤ) (at : ℕ) → Columns f q w was was at at
  columns-none was at =
      record { same = refl; done = λ c i a b. absurd (omega arith); apart = λ c i o. (refl, refl); beyond = λ j h. refl }

  -- a piece, in the columns before those that are done
  pub columns-join : (was mid now : List ℤ) (from at to : ℕ) → from ≤ at → at ≤ to → Columns f q w was mid at to → Columns f q w mid now from at
      → Columns f q w was now from to
  columns-join was mid now from at to h g old new =
      record {
        same = new.same ∙ old.same;
        done = λ c i a b. by c i a b (ltb (column_of f c) at) refl;
        apart = λ c i o.
            let k = new.apart c i (⊎_elim (λ (l : column_of f c < from). inl l) (λ (l : to ≤ column_of f c). inr (omega arith)) o) in
            let m = old.apart c i (⊎_elim (λ (l : column_of f c < from). inl (omega arith)) (λ (l : to ≤ column_of f c). inr l) o) in
            (k.0 ∙ m.0, k.1 ∙ m.1);
        beyond = λ j b. new.beyond j b ∙ old.beyond j b;
      }
    where
      by : (c : Cell) → InTable f c → from ≤ column_of f c → column_of f c < to → (t : Bool) → ltb (column_of f c) at ≡ t
          → Turn f q (value_of f w was) (mark_of f w was) c (value_of f w now c) (mark_of f w now c)
      by c i a b true e =
          let l = ltb-true (column_of f c) at e in
          turn-same f (value_of f w mid) (mark_of f w mid) (value_of f w was) (mark_of f w was) c
          (λ s. old.apart (off_cell f c) (off-in-table f c i s) (inl l))
          (λ k r. old.apart (on_cell f c k) (on-in-table f c k i (runs_on f c r.2)) (inl (omega (arith, on-column f c k, l))))
          q (new.done c i a l)
      by c i a b false e =
          let l = ltb-false (column_of f c) at e in
          let k = new.apart c i (inr l) in
          rw (k.0, k.1) (old.done c i l b)

-- a piece whose states are all turned
pub piece-columns : (t : Step) (was now : List ℤ) (p : Piece) → Partly t was now p (states t.figures)
    → Columns t.figures (quarter_of t) t.width was now p.column (p.column + p.count)
piece-columns t was now p made =
    record {
      same = made.same;
      done = λ c i lo hi.
          made.done (column_of t.figures c - p.column) (omega arith) c (record { inside = i; state = refl; at = omega arith }) i.state;
      apart = made.apart;
      beyond = made.beyond;
    }

-- ---- a line's pieces

pub piece-asked : (t : Step) (was cur : List ℤ) (l : Line) (at end : ℕ) → Before t was (l.start + l.long) → LineOf t.figures l
    → at < end → end ≤ l.long → end - at ≤ piece
    → Columns t.figures (quarter_of t) t.width was cur (l.start + end) (l.start + l.long)
    → (t.figures.takes.blocks ≡ 1 → (end ≤ t.figures.pmin) ⊎ WholeChunks t.figures at (end - at)) → PieceAsked t cur (piece_of l at end)
piece-asked t was cur l at end b k some inside few done chunks =
    let up : at + (end - at) ≡ end = omega arith in
    record {
      over = b.over;
      marks = omega (arith, b.marks, done.same);
      piece-of =
          record {
            starts = k.starts;
            column-is = omega (arith, k.begins);
            fits = omega (arith, k.ends, up);
            some = omega arith;
            few = few;
            flat = λ none.
                let e = k.flat none in (
                  e.0,
                  ⊎_elim (λ (h : l.long ≤ span t.figures). inl (omega (arith, up, h))) (λ (h : (l.starts ≡ 0) × (t.figures.takes.ons ≡ 0)). inr h)
                      e.1,
                );
            lined = λ one. let e = k.lined one in (e.0, omega (arith, up, e.1), rw up (chunks one));
          };
      small = λ c i h.
          let e = done.apart c i (inl (omega (arith, h, up))) in
          rw e.0 (b.small c i (omega (arith, h, up)));
    }

-- so many whole pieces, and less than one
pub whole : (n most : ℕ) → 1 ≤ most → (n / most * most ≤ n) × (n < n / most * most + most)
whole n most some =
    let d = div-add-mod' n most in
    let m = mod-lt n some in
    (omega (arith, d), omega (arith, d, m))

-- as many pieces as go up to the end of a line, none of them empty
module _ (first long most pieces : ℕ) (some : 1 ≤ most) (as-many : pieces ≡ (long - first) / most + min 1 ((long - first) % most)) where
  pub pieces_reach : long ≤ first + pieces * most
  pieces_reach = let d = div_ceil_times (long - first) most some in rw as-many (omega (arith, d.0))

  pub some_left : first ≤ long → (n : ℕ) → n < pieces → first + n * most < long
  some_left inside n h =
      let d = div_ceil_times (long - first) most some in
      let m : (n + 1) * most ≤ pieces * most = mul-le-mul_right most (omega arith) in
      let e : pieces * most ≡ ((long - first) / most + min 1 ((long - first) % most)) * most = ap (λ (k : ℕ). k * most) as-many in
      omega (arith, m, e, d.1, add-mul n 1 most, one-mul most)

-- whole chunks
module _ (f : Figures) (ok : Sound f) where
  pub size_is : f.pmax - f.pmin + 1 ≡ rungs f
  size_is = omega (arith, ok.pmax)

  pub most-fits : (piece / rungs f * rungs f ≤ piece) × (1 ≤ piece / rungs f * rungs f)
  most-fits =
      let some : 1 ≤ rungs f = omega (arith, ok.pmax) in
      let k = whole piece (rungs f) some in
      (k.0, omega (arith, k.1, pmax-most f ok))

  pub last-chunks : (end at : ℕ) → LastPiece f.pmin end (piece / rungs f * rungs f) at → WholeChunks f at (end - at)
  last-chunks end at p =
      record {
        before = p.before * (piece / rungs f);
        begins = p.begins ∙ ap (λ (n : ℕ). f.pmin + n) (sym (mul_assoc p.before (piece / rungs f) (rungs f)));
        chunks = piece / rungs f;
        most = omega (arith, p.few, p.some);
        fits = most-fits.0;
      }

-- ---- line after line: the columns below are as they were

pub one_more : (start n y : ℕ) → start + y * n + n ≡ start + (y + 1) * n
one_more start n y = omega (arith, add-mul y 1 n, one-mul n)

pub before-next : (t : Step) (was cur : List ℤ) (at to : ℕ) → at ≤ to → Before t was to
    → Columns t.figures (quarter_of t) t.width was cur at to → Before t cur at
before-next t was cur at to h b done =
    record {
      over = b.over;
      marks = omega (arith, b.marks, done.same);
      small = λ c i l. let k = done.apart c i (inl l) in rw k.0 (b.small c i (omega arith));
    }

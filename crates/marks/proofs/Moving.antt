-- A plane's stretch moved, and the interval off by it.
use mathlib.Core.Path.{◌≡◌, refl, sym, ap, ◌∙◌}
use mathlib.Core.Bool.{Bool, true, false, cond}
use mathlib.Core.List.{List}
use mathlib.Core.Logic.{◌⊎◌, ⊎_elim, inl, inr}
use Prim.Native.Nat.{ℕ, ◌+◌, ◌-◌, ◌*◌, ◌≤◌, ◌<◌, min}
use native.Mathlib.Nat.{add-mul, one-mul}
use native.Mathlib.Omega.{arith}
use borrow.Author.Tests.{ltb-true, lt-ltb, ne_eqb, eq-eqb, le-ltb}
use lib.Dec.{ltb, eqb}
use lib.IntN.{ℤ, pos}
use lib.ListN.{length, get_or}
use Rattle.optimality.specs.declared.Figures.{Figures}
use Rattle.optimality.specs.Cells.{states, after_off}
use Rattle.geometry.specs.Geometry.{section, index}
use Rattle.geometry.specs.Layers.{infeasible}
use Rattle.intervals.specs.Turns.{off_stored}
use Rattle.intervals.specs.Stretches.{Copied, Apart}
use Rattle.carrying.specs.Pairs.{Pairs, JoinedFrom}
use Rattle.carrying.specs.Images.{piece, Imaged}
use Rattle.marks.specs.declared.Step.{Step}
use Rattle.marks.specs.declared.Piece.{Piece}
use Rattle.marks.specs.Lines.{column_of}
use Rattle.marks.specs.Turning.{MovedAt, OffHere, OnHere, TurnHere}

-- two copies, of the values and of the marks
pub moved : (was mid now : List ℤ) (w to from count : ℕ) → to + count ≤ from → from + count ≤ w → length now ≡ length was
    → Copied was mid to from count → Copied mid now (w + to) (w + from) count → Pairs w (MovedAt w was from) was now to count
moved was mid now w to from count before fits same values marks =
    record {
      inside = λ i h. (value i h, mark i h);
      apart =
          record {
            same = same;
            values = λ j h o. marks.apart j (inl (omega arith)) ∙ values.apart j (in-values j h o);
            marks = λ j h o. marks.apart (w + j) (in-marks j o) ∙ values.apart (w + j) (inr (omega arith));
            beyond = λ j h. marks.apart j (inr (omega arith)) ∙ values.apart j (inr (omega arith));
          };
    }
  where
    value : (i : ℕ) → i < count → get_or now (to + i) (pos 0) ≡ get_or was (from + i) (pos 0)
    value i h = marks.apart (to + i) (inl (omega arith)) ∙ values.inside i h

    mark : (i : ℕ) → i < count → get_or now (w + (to + i)) (pos 0) ≡ get_or was (w + (from + i)) (pos 0)
    mark i h =
        let t : w + (to + i) ≡ w + to + i = omega arith in
        let s : w + from + i ≡ w + (from + i) = omega arith in
        ap (λ (j : ℕ). get_or now j (pos 0)) t ∙ marks.inside i h ∙ ap (λ (j : ℕ). get_or mid j (pos 0)) s ∙ values.apart (w + (from + i)) (inr (omega arith))

    in-values : (j : ℕ) → j < w → (j < to) ⊎ (to + count ≤ j) → (j < to) ⊎ (to + count ≤ j)
    in-values j h o = o

    in-marks : (j : ℕ) → (j < to) ⊎ (to + count ≤ j) → (w + j < w + to) ⊎ (w + to + count ≤ w + j)
    in-marks j o = ⊎_elim (λ (l : j < to). inl (omega arith)) (λ (l : to + count ≤ j). inr (omega arith)) o

-- ---- the interval off

module _ (f : Figures) (s : ℕ) where
  pub off-young : s + 1 < f.mot → after_off f s ≡ states f
  off-young h = rw (lt-ltb s f.mot (omega arith), ne_eqb (s + 1) f.mot (λ e. omega arith))

  pub off_next : f.mot ≤ s + 1 → s + 1 < states f → after_off f s ≡ s + 1
  off_next h g = by (ltb s f.mot) refl
    where
      by : (t : Bool) → ltb s f.mot ≡ t → cond t (cond (eqb (s + 1) f.mot) f.mot (states f)) (min (s + 1) (states f - 1)) ≡ s + 1
      by true e =
          let l = ltb-true s f.mot e in
          let last : s + 1 ≡ f.mot = omega arith in
          rw (eq-eqb (s + 1) f.mot last) (sym last)
      by false e = omega arith

module _ (t : Step) (was now : List ℤ) (s : ℕ) (p : Piece) where
  abbrev f : Figures
  f = t.figures

  abbrev at : ℕ
  at = s * section f + p.column

  -- none
  pub off-barred : s + 1 < f.mot → length now ≡ length was → at + p.count ≤ t.width
      → ((i : ℕ) → i < p.count → get_or now (at + i) (pos 0) ≡ infeasible) → Apart was now at p.count
      → Pairs t.width (OffHere t was s p) was now at p.count
  unfolding off_stored
  off-barred young same fits put apart =
      record {
        inside = λ i h c here.
            let past : after_off f c.state ≡ states f = rw here.state (off-young f s young) in
            let none : ltb (states f) (states f) ≡ false = le-ltb (states f) (states f) (omega arith) in
            record { value = rw (past, none) (put i h); mark = λ g. absurd (omega (arith, past, g)) };
        apart =
            record {
              same = same;
              values = λ j h o. apart j o;
              marks = λ j h o. apart (t.width + j) (inr (omega arith));
              beyond = λ j h. apart j (inr (omega arith));
            };
      }

  -- the next state's
  pub off-moved : f.mot ≤ s + 1 → s + 1 < states f → Pairs t.width (MovedAt t.width was (at + section f)) was now at p.count
      → Pairs t.width (OffHere t was s p) was now at p.count
  unfolding off_stored index
  off-moved old inner made =
      record {
        inside = λ i h c here.
            let next : after_off f c.state ≡ s + 1 = rw here.state (off_next f s old inner) in
            let goes : ltb (after_off f c.state) (states f) ≡ true = rw next (lt-ltb (s + 1) (states f) inner) in
            let place : at + section f + i ≡ after_off f c.state * section f + column_of f c =
            omega (arith, ap (λ (n : ℕ). n * section f) next, add-mul s 1 (section f), one-mul (section f), here.at) in
            let m = made.inside i h in
            record {
              value = rw goes (m.0 ∙ ap (λ (j : ℕ). get_or was j (pos 0)) place);
              mark = λ g. m.1 ∙ ap (λ (j : ℕ). get_or was (t.width + j) (pos 0)) place;
            };
        apart = made.apart;
      }

-- ---- off in place, and on where it is better

pub turned-here : (t : Step) (was mid now empty ran : List ℤ) (s : ℕ) (p : Piece) (to : ℕ)
    → Imaged (OnHere t was s p) empty ran p.count → Pairs t.width (OffHere t was s p) was mid to p.count
    → Pairs t.width (JoinedFrom t.width piece mid ran to) mid now to p.count → Pairs t.width (TurnHere t was s p) was now to p.count
turned-here t was mid now empty ran s p to on off joined =
    record {
      inside = λ i h c here.
          record {
            off-value = get_or mid (to + i) (pos 0);
            off-mark = get_or mid (t.width + (to + i)) (pos 0);
            off = off.inside i h c here;
            on-value = get_or ran i (pos 0);
            on-mark = get_or ran (piece + i) (pos 0);
            on = on.inside i h c here;
            larger = joined.inside i h;
          };
      apart =
          record {
            same = joined.apart.same ∙ off.apart.same;
            values = λ j h o. joined.apart.values j h o ∙ off.apart.values j h o;
            marks = λ j h o. joined.apart.marks j h o ∙ off.apart.marks j h o;
            beyond = λ j h. joined.apart.beyond j h ∙ off.apart.beyond j h;
          };
    }

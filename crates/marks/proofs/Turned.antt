-- One interval from a cell goes by the cells that it leads to alone.
use mathlib.Core.Path.{◌≡◌, refl, sym, ap, ◌∙◌}
use mathlib.Core.Bool.{Bool, true, false, cond}
use mathlib.Core.Logic.{⊎_elim, inl, inr}
use Prim.Native.Nat.{ℕ, ◌<◌}
use borrow.Author.Tests.{ltb-true}
use lib.Dec.{leb, ltb}
use lib.IntN.{ℤ, ◌+ℤ◌}
use Rattle.lists.proofs.Conjunctions.{both}
use Rattle.optimality.specs.declared.Cell.{Cell}
use Rattle.optimality.specs.declared.Figures.{Figures}
use Rattle.optimality.specs.Machine.{Quarter}
use Rattle.optimality.specs.Cells.{states, after_off, after_on, start_takes, start_pays, may_run, off_cell, on_cell}
use Rattle.geometry.specs.Layers.{infeasible}
use Rattle.intervals.specs.Turns.{net, off_stored, on_stored}
use Rattle.carrying.specs.Picking.{Picked}
use Rattle.marks.specs.Lines.{Runs, OnPicked}
use Rattle.marks.specs.Turning.{Turn}
use Rattle.carrying.proofs.Picking.{picked_same}

-- what may run leads on
pub runs_on : (f : Figures) (c : Cell) → may_run f c ≡ true → after_on f c.state < states f
runs_on f c e =
    let run = both _ (leb f.takes.ons c.left.ons) e in
    let start = both (ltb (after_on f c.state) (states f)) (leb (start_takes f c.state) c.left.starts) run.0 in
    ltb-true (after_on f c.state) (states f) start.0

module _ (f : Figures) (stored marked stored' marked' : Cell → ℤ) (c : Cell)
    (off : after_off f c.state < states f → (stored (off_cell f c) ≡ stored' (off_cell f c)) × (marked (off_cell f c) ≡ marked' (off_cell f c)))
    (on : (k : ℕ) → Runs f c k → (stored (on_cell f c k) ≡ stored' (on_cell f c k)) × (marked (on_cell f c k) ≡ marked' (on_cell f c k))) where
  off-stored-same : off_stored f stored c ≡ off_stored f stored' c
  unfolding off_stored
  off-stored-same = by (ltb (after_off f c.state) (states f)) refl
    where
      by : (t : Bool) → ltb (after_off f c.state) (states f) ≡ t → cond t (stored (off_cell f c)) infeasible ≡ cond t (stored' (off_cell f c)) infeasible
      by true e = (off (ltb-true (after_off f c.state) (states f) e)).0
      by false e = refl

  on_same : (price v m : ℤ) → OnPicked f stored marked price c v m → OnPicked f stored' marked' price c v m
  on_same price v m p =
      ⊎_elim (λ (n : ((k : ℕ) → Runs f c k → ⊥) × (v ≡ infeasible)). inl n)
      (λ (q : Picked (Runs f c) (on_stored f stored c price) (λ k. marked (on_cell f c k)) v m).
      inr
      (picked_same (on_stored f stored c price) (λ k. marked (on_cell f c k)) (on_stored f stored' c price) (λ k. marked' (on_cell f c k)) (λ k r. r) (λ k r. r)
      (λ k r. (ap (λ (x : ℤ). x +ℤ net f price (start_pays f c.state) k) (sym (on k r).0), sym (on k r).1))
      q))
      p

  pub turn-same : (q : Quarter) {v m : ℤ} → Turn f q stored marked c v m → Turn f q stored' marked' c v m
  turn-same q t =
      record {
        off-value = t.off-value;
        off-mark = t.off-mark;
        off = record { value = t.off.value ∙ off-stored-same; mark = λ g. t.off.mark g ∙ (off g).1 };
        on-value = t.on-value;
        on-mark = t.on-mark;
        on = record { opened = λ e. on_same q.price t.on-value t.on-mark (t.on.opened e); shut = t.on.shut };
        larger = t.larger;
      }

-- What a turned cell holds: the number that the layer one interval earlier has there, and the mark of the cell that its plan leads to.
use mathlib.Core.Path.{◌≡◌, refl, sym, ap, ◌∙◌}
use mathlib.Core.Bool.{Bool, true, false, cond, not, ◌&&◌}
use mathlib.Core.Logic.{◌⊎◌, ⊎_elim, inl, inr}
use Prim.Native.Nat.{ℕ, zero, suc, ◌*◌, ◌≤◌, ◌<◌}
use native.Mathlib.Omega.{arith}
use borrow.Author.Tests.{leb-true, le-leb}
use lib.Dec.{leb}
use lib.IntN.{ℤ}
use lib.Signed.{lt_z, ◌≤ℤ◌, ◌<ℤ◌, ≤ℤ_refl}
use Rattle.integers.proofs.Linear.{zarith}
use Rattle.integers.proofs.Order.{≤ℤ-antisym, ≤ℤ-trans, lt_z-true, lt_z-false, le-lt_z, lt-lt_z}
use Rattle.optimality.specs.declared.Cell.{Cell}
use Rattle.optimality.specs.declared.Figures.{Figures}
use Rattle.optimality.specs.Machine.{Quarter}
use Rattle.optimality.specs.Cells.{Sound, InTable, may_run, off_cell, on_cell, rungs}
use Rattle.geometry.specs.Layers.{infeasible}
use Rattle.intervals.specs.Turns.{raised, off_stored, room_for, on_stored, cell_stored, quarter_stored}
use Rattle.intervals.proofs.Raising.{raised-above, raised-reach, raised-least}
use Rattle.table.specs.Reading.{first_on, chosen, next_cell}
use Rattle.table.proofs.Choosing.{first-at}
use Rattle.carrying.specs.Picking.{Picked}
use Rattle.marks.specs.Lines.{Runs}
use Rattle.marks.specs.Turning.{Turn}

module _ (f : Figures) (ok : Sound f) (q : Quarter) (stored marked : Cell → ℤ) (c : Cell) where
  abbrev base : ℤ
  base = off_stored f stored c

  abbrev reach : ℕ → ℤ
  reach = on_stored f stored c q.price

  -- no output is allowed
  none-raised : ((k : ℕ) → Runs f c k → ⊥) → cell_stored f stored c q.price ≡ base
  unfolding cell_stored
  none-raised none = by (may_run f c) refl
    where
      by : (t : Bool) → may_run f c ≡ t → cond t (raised (room_for f stored c) reach base f.pmin (rungs f)) base ≡ base
      by true e =
          ≤ℤ-antisym
          (raised-least (room_for f stored c) reach base f.pmin (rungs f) base (≤ℤ_refl base)
          (λ j l u r. absurd (none j (l, omega (arith, ok.pmax), e, leb-true (j * f.takes.blocks) c.left.blocks r))))
          (raised-above (room_for f stored c) reach base f.pmin (rungs f))
      by false e = refl

  -- the first of the best ones
  module _ {v m : ℤ} (p : Picked (Runs f c) reach (λ k. marked (on_cell f c k)) v m) where
    picked-raised : (best : ℤ) → base ≤ℤ best → v ≤ℤ best → (best ≤ℤ base) ⊎ (best ≤ℤ v) → cell_stored f stored c q.price ≡ best
    unfolding cell_stored
    picked-raised best b o one =
        let r = p.inside in
        let up = raised-above (room_for f stored c) reach base f.pmin (rungs f) in
        let on : v ≤ℤ raised (room_for f stored c) reach base f.pmin (rungs f) =
        rw (← p.is) (raised-reach (room_for f stored c) reach base f.pmin (rungs f) p.at r.0 (omega (arith, r.1, ok.pmax))
        (le-leb (p.at * f.takes.blocks) c.left.blocks r.3)) in
        let down = raised-least (room_for f stored c) reach base f.pmin (rungs f) best b
        (λ j l u fits. ≤ℤ-trans (p.most j (l, omega (arith, u, ok.pmax), r.2, leb-true (j * f.takes.blocks) c.left.blocks fits)) o) in
        rw r.2
        (≤ℤ-antisym down (⊎_elim (λ (h : best ≤ℤ base). ≤ℤ-trans h up) (λ (h : best ≤ℤ v). ≤ℤ-trans h on) one))

    picked_first : first_on f stored c q.price v f.pmin (rungs f) ≡ p.at
    picked_first =
        let r = p.inside in
        first-at f stored c q.price v p.at r.0 r.1 (λ j l u. short j l u (leb (j * f.takes.blocks) c.left.blocks) refl)
        (rw (le-leb (p.at * f.takes.blocks) c.left.blocks r.3, p.is, le-lt_z v v (≤ℤ_refl v)))
      where
        short : (j : ℕ) → f.pmin ≤ j → j < p.at → (t : Bool) → leb (j * f.takes.blocks) c.left.blocks ≡ t → (t && not (lt_z (reach j) v)) ≡ false
        short j l u true e =
            let r = p.inside in
            rw (lt-lt_z (reach j) v (p.first j (l, omega (arith, r.1), r.2, leb-true (j * f.takes.blocks) c.left.blocks e) u))
        short j l u false e = refl

  module _ {v m : ℤ} (t : Turn f q stored marked c v m) (floor : infeasible ≤ℤ base) where
    -- off is kept
    module _ (keeps : lt_z t.off-value t.on-value ≡ false) where
      kept-value : v ≡ base
      kept-value = (rw keeps at t.larger.0) ∙ t.off.value

      kept-mark : m ≡ t.off-mark
      kept-mark = rw keeps at t.larger.1

      below : t.on-value ≤ℤ base
      below = rw t.off.value at (lt_z-false t.off-value t.on-value keeps)

    -- on is taken: the quarter is open, and an output is picked
    module _ (takes : lt_z t.off-value t.on-value ≡ true) where
      taken-value : v ≡ t.on-value
      taken-value = rw takes at t.larger.0

      taken-mark : m ≡ t.on-mark
      taken-mark = rw takes at t.larger.1

      above : base <ℤ t.on-value
      above = rw t.off.value at (lt_z-true t.off-value t.on-value takes)

      not-above : t.on-value ≡ infeasible → ⊥
      not-above e = let h : base <ℤ infeasible = rw e at above in omega (zarith, h, floor)

      opened : q.opens ≡ true
      opened = by q.opens refl
        where
          by : (b : Bool) → q.opens ≡ b → q.opens ≡ true
          by true e = e
          by false e = absurd (not-above (t.on.shut e))

      picked : Picked (Runs f c) reach (λ k. marked (on_cell f c k)) t.on-value t.on-mark
      picked =
          ⊎_elim (λ (n : ((k : ℕ) → Runs f c k → ⊥) × (t.on-value ≡ infeasible)). absurd (not-above n.1))
          (λ (p : Picked (Runs f c) reach (λ k. marked (on_cell f c k)) t.on-value t.on-mark). p) (t.on.opened opened)

    pub turn-value : v ≡ quarter_stored f stored c q
    turn-value = by (lt_z t.off-value t.on-value) refl
      where
        by : (b : Bool) → lt_z t.off-value t.on-value ≡ b → v ≡ quarter_stored f stored c q
        by true e =
            let a = above e in
            let made = picked-raised (picked e) t.on-value (omega (zarith, a)) (≤ℤ_refl t.on-value) (inr (≤ℤ_refl t.on-value)) in
            taken-value e ∙ (rw (opened e, made))
        by false e = kept-value e ∙ in-quarter q.opens refl
          where
            in-quarter : (b : Bool) → q.opens ≡ b → base ≡ cond b (cell_stored f stored c q.price) base
            in-quarter true o =
                ⊎_elim (λ (n : ((k : ℕ) → Runs f c k → ⊥) × (t.on-value ≡ infeasible)). sym (none-raised n.0))
                (λ (p : Picked (Runs f c) reach (λ k. marked (on_cell f c k)) t.on-value t.on-mark).
                sym (picked-raised p base (≤ℤ_refl base) (below e) (inl (≤ℤ_refl base))))
                (t.on.opened o)
            in-quarter false o = refl

    pub turn-mark : InTable f (next_cell f c (chosen f stored c q.price v)) → m ≡ marked (next_cell f c (chosen f stored c q.price v))
    unfolding chosen
    turn-mark inside = by (lt_z t.off-value t.on-value) refl
      where
        on-next : (k : ℕ) → f.pmin ≤ k → next_cell f c k ≡ on_cell f c k
        on-next zero l = absurd (omega (arith, ok.pmin))
        on-next (suc k) l = refl

        by : (b : Bool) → lt_z t.off-value t.on-value ≡ b → m ≡ marked (next_cell f c (chosen f stored c q.price v))
        by true e =
            let p = picked e in
            let over : lt_z base v ≡ true = rw (taken-value e) (lt-lt_z base t.on-value (above e)) in
            let reached : first_on f stored c q.price v f.pmin (rungs f) ≡ p.at =
            ap (λ (best : ℤ). first_on f stored c q.price best f.pmin (rungs f)) (taken-value e) ∙ picked_first p in
            let is : chosen f stored c q.price v ≡ p.at = rw over reached in
            taken-mark e ∙ sym p.marked ∙ ap marked (sym (on-next p.at p.inside.0)) ∙ ap (λ (k : ℕ). marked (next_cell f c k)) (sym is)
        by false e =
            let keep : lt_z base v ≡ false = rw (kept-value e) (le-lt_z base base (≤ℤ_refl base)) in
            let none : chosen f stored c q.price v ≡ 0 = rw keep in
            let i : InTable f (off_cell f c) = rw none at inside in
            kept-mark e ∙ t.off.mark i.state ∙ ap (λ (k : ℕ). marked (next_cell f c k)) (sym none)

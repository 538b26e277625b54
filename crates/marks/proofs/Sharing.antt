-- The two oldest states that are on lead to the oldest: an interval on gives both the same.
use mathlib.Core.Path.{◌≡◌, refl, sym, ap, ap₂, ◌∙◌}
use mathlib.Core.Bool.{◌&&◌}
use mathlib.Core.List.{List}
use mathlib.Core.Logic.{⊎_elim, inl, inr}
use Prim.Native.Nat.{ℕ, ◌+◌, ◌-◌, ◌*◌, ◌≤◌}
use native.Mathlib.Omega.{arith}
use borrow.Author.Tests.{lt-ltb}
use lib.Dec.{leb, ltb}
use lib.IntN.{ℤ, ◌+ℤ◌}
use Rattle.optimality.specs.declared.Cell.{Cell}
use Rattle.optimality.specs.declared.Figures.{Figures}
use Rattle.optimality.specs.Cells.{cell, states, after_on, start_takes, start_pays, may_run, on_cell}
use Rattle.optimality.proofs.Turns.{on-in-table}
use Rattle.geometry.specs.Geometry.{section, width}
use Rattle.geometry.specs.Layers.{infeasible}
use Rattle.intervals.specs.Turns.{net, on_stored}
use Rattle.carrying.specs.Images.{Imaged}
use Rattle.marks.specs.declared.Step.{Step}
use Rattle.marks.specs.declared.Piece.{Piece}
use Rattle.marks.specs.Lines.{value_of, mark_of, quarter_of, Runs, Here, OnPicked}
use Rattle.carrying.specs.Pairs.{Pairs}
use Rattle.carrying.specs.Picking.{Picked}
use Rattle.marks.specs.Turning.{OnAt, OnHere}
use Rattle.carrying.proofs.Picking.{picked_same}
use Rattle.marks.proofs.Pieces.{unmoved}
use Rattle.marks.proofs.Turned.{runs_on}

module _ (f : Figures) (s : ℕ) (oldest : s + 2 ≡ f.mot) where
  after-younger : after_on f s ≡ s + 1
  after-younger = rw (lt-ltb s f.mot (omega (arith, oldest))) (omega (arith, oldest))

  after-oldest : after_on f (s + 1) ≡ s + 1
  after-oldest = rw (lt-ltb (s + 1) f.mot (omega (arith, oldest))) (omega (arith, oldest))

  module _ (c : Cell) (is : c.state ≡ s + 1) where
    -- the same, one interval younger
    abbrev younger : Cell
    younger = cell s c.left.starts c.left.ons c.left.blocks

    after : after_on f s ≡ after_on f c.state
    after = after-younger ∙ sym after-oldest ∙ sym (ap (after_on f) is)

    takes : start_takes f s ≡ start_takes f c.state
    takes = rw (is, lt-ltb s f.mot (omega (arith, oldest)), lt-ltb (s + 1) f.mot (omega (arith, oldest)))

    pays : start_pays f s ≡ start_pays f c.state
    pays = rw (is, lt-ltb s f.mot (omega (arith, oldest)), lt-ltb (s + 1) f.mot (omega (arith, oldest)))

    leads : (k : ℕ) → on_cell f younger k ≡ on_cell f c k
    leads k = ap₂ (λ (t n : ℕ). cell t (c.left.starts - n) (c.left.ons - f.takes.ons) (c.left.blocks - k * f.takes.blocks)) after takes

    may : may_run f younger ≡ may_run f c
    may = ap₂ (λ (t n : ℕ). ltb t (states f) && leb n c.left.starts && leb f.takes.ons c.left.ons) after takes

    on-older : (stored marked stored' marked' : Cell → ℤ)
        → ((k : ℕ) → Runs f c k → (stored (on_cell f c k) ≡ stored' (on_cell f c k)) × (marked (on_cell f c k) ≡ marked' (on_cell f c k)))
        → (price v m : ℤ) → OnPicked f stored marked price younger v m → OnPicked f stored' marked' price c v m
    on-older stored marked stored' marked' same price v m p =
        ⊎_elim (λ (n : ((k : ℕ) → Runs f younger k → ⊥) × (v ≡ infeasible)). inl (λ k r. n.0 k (back k r), n.1))
        (λ (q : Picked (Runs f younger) (on_stored f stored younger price) (λ k. marked (on_cell f younger k)) v m).
        inr
        (picked_same (on_stored f stored younger price) (λ k. marked (on_cell f younger k)) (on_stored f stored' c price) (λ k. marked' (on_cell f c k)) forth back
        (λ k r. let e = same k (forth k r) in (value k e.0, sym (ap marked (leads k) ∙ e.1)))
        q))
        p
      where
        forth : (k : ℕ) → Runs f younger k → Runs f c k
        forth k r = (r.0, r.1, sym may ∙ r.2, r.3)

        back : (k : ℕ) → Runs f c k → Runs f younger k
        back k r = (r.0, r.1, may ∙ r.2, r.3)

        value : (k : ℕ) → stored (on_cell f c k) ≡ stored' (on_cell f c k) → on_stored f stored' c price k ≡ on_stored f stored younger price k
        value k e = ap₂ (λ (x : ℤ) (n : ℕ). x +ℤ net f price n k) (sym (ap stored (leads k) ∙ e)) (sym pays)

-- aside for the younger, it stands aside for the oldest when the younger's stretch is made
module _ (t : Step) (wide : t.width ≡ width t.figures) (p : Piece) (fits : p.column + p.count ≤ section t.figures) (mdt : 1 ≤ t.figures.mdt)
    {Stands : ℕ → ℤ → ℤ → Type 0} (was now ran : List ℤ) (s : ℕ) (oldest : s + 2 ≡ t.figures.mot)
    (made : Pairs t.width Stands was now (s * section t.figures + p.column) p.count) where
  abbrev g : Figures
  g = t.figures

  abbrev before : Cell → Cell
  before c = cell s c.left.starts c.left.ons c.left.blocks

  same_place : (i : ℕ) (c : Cell) → Here g (s + 1) (p.column + i) c → Here g s (p.column + i) (before c)
  same_place i c o =
      let h = o.inside.left in
      record {
        inside = record { state = omega (arith, oldest, mdt); left = record { starts = h.starts; ons = h.ons; blocks = h.blocks } };
        state = refl;
        at = o.at;
      }

  older : (i : ℕ) (c : Cell) → Here g (s + 1) (p.column + i) c → {v m : ℤ}
      → OnAt g (quarter_of t) (value_of g t.width was) (mark_of g t.width was) (before c) v m
      → OnAt g (quarter_of t) (value_of g t.width now) (mark_of g t.width now) c v m
  older i c o {v} {m} on =
      record {
        opened = λ e.
            on-older g s oldest c o.state (value_of g t.width was) (mark_of g t.width was) (value_of g t.width now) (mark_of g t.width now)
            (λ k r.
            let l = runs_on g c r.2 in
            let there : after_on g c.state ≡ s + 1 = ap (after_on g) o.state ∙ after-oldest g s oldest in
            let u = unmoved t wide p fits was now s made (on_cell g c k) (on-in-table g c k o.inside l) (λ z. absurd (omega (arith, z, there))) in
            (sym u.0, sym u.1))
            t.price v m (on.opened e);
        shut = on.shut;
      }

  pub next-image : (empty : List ℤ) → Imaged (OnHere t was s p) empty ran p.count → Imaged (OnHere t now (s + 1) p) ran ran p.count
  next-image empty image = record { inside = λ i h c o. older i c o (image.inside i h (before c) (same_place i c o)); same = refl }

-- A layer by the one behind it: a state's cells with the interval off, then raised where the unit may run; state by state to the whole layer.
use mathlib.Core.Path.{◌≡◌, refl, sym, ap, ap₂, ◌∙◌}
use mathlib.Core.Bool.{true, false, cond, ◌&&◌}
use mathlib.Core.List.{List}
use mathlib.Core.Logic.{inr}
use Prim.Native.Nat.{ℕ, ◌+◌, ◌-◌, ◌*◌, ◌≤◌, ◌<◌}
use native.Mathlib.Nat.{zero-add}
use native.Mathlib.Omega.{arith}
use borrow.Author.Tests.{lt-ltb, le-ltb}
use lib.Dec.{leb, ltb}
use lib.IntN.{ℤ, pos, ◌+ℤ◌}
use lib.ListN.{length, get_or}
use Rattle.optimality.specs.declared.Figures.{Figures}
use Rattle.optimality.specs.declared.Cell.{Cell}
use Rattle.optimality.specs.Machine.{Quarter, quarter}
use Rattle.optimality.specs.Cells.{cell, states, after_off, after_on, start_takes, start_pays, on_cell, rungs}
use Rattle.geometry.specs.Geometry.{row, span, section, width, index}
use Rattle.geometry.specs.Layers.{infeasible, stored_at, in_front}
use Rattle.intervals.specs.Turns.{off_stored, room_for, on_stored, cell_stored, quarter_stored}
use Rattle.intervals.specs.Stretches.{Copied, best_over, SectionRaised, OffMade, StateMade, QuarterMade, FrontMade}
use Rattle.intervals.specs.Ladders.{brings, ladder_of}
use Rattle.intervals.proofs.Ladders.{ladder-brings}
use Rattle.geometry.proofs.Places.{in-section, sections-all, section-fits}
use Rattle.intervals.proofs.Raising.{raised-same}
use Rattle.intervals.proofs.Stretches.{put_in, put-inside, put-apart}
use Rattle.intervals.proofs.Segments.{Done, done_first, done_next, done-apart}

-- a cell's place in its section, and so in the layer
abbrev place_in : Figures → ℕ → ℕ → ℕ → ℕ
place_in f x y z = x * span f + (y * row f + z)

front-in : (f : Figures) (cells : List ℤ) (s x y z : ℕ) → in_front f cells (cell s x y z) ≡ get_or cells (s * section f + place_in f x y z) (pos 0)
unfolding index
front-in f cells s x y z = refl

behind-in : (f : Figures) (cells : List ℤ) (s x y z : ℕ) → stored_at f cells (width f) (cell s x y z)
    ≡ get_or cells (width f + s * section f + place_in f x y z) (pos 0)
unfolding index
behind-in f cells s x y z = ap (λ (i : ℕ). get_or cells i (pos 0)) (joined (width f) (s * section f) (place_in f x y z))
  where
    joined : (a b c : ℕ) → a + (b + c) ≡ a + b + c
    joined a b c = omega arith

-- ---- off

pub off-copied : (f : Figures) (s : ℕ) (was cells : List ℤ) → after_off f s < states f
    → Copied was cells (s * section f) (width f + after_off f s * section f) (section f) → OffMade f s was cells
unfolding off_stored
off-copied f s was cells leads made =
    let t : ltb (after_off f s) (states f) ≡ true = lt-ltb (after_off f s) (states f) leads in
    record {
      inside = λ x y z i j k.
          rw t (front-in f cells s x y z ∙ made.inside (place_in f x y z) (in-section f x y z i j k) ∙ sym (behind-in f was (after_off f s) x y z));
      apart = made.apart;
    }

pub off-barred : (f : Figures) (s : ℕ) (was : List ℤ) → states f ≤ after_off f s → s * section f + section f ≤ length was
    → OffMade f s was (put_in was (s * section f) (section f) infeasible)
unfolding off_stored
off-barred f s was barred fits =
    let t : ltb (after_off f s) (states f) ≡ false = le-ltb (after_off f s) (states f) barred in
    record {
      inside = λ x y z i j k.
          rw t
          (front-in f (put_in was (s * section f) (section f) infeasible) s x y z
          ∙ put-inside was (s * section f) (section f) infeasible fits (place_in f x y z) (in-section f x y z i j k));
      apart = put-apart was (s * section f) (section f) infeasible fits;
    }

-- ---- on

module _ (f : Figures) (price : ℤ) (s : ℕ) (was mid : List ℤ) (off : OffMade f s was mid) where
  -- where the unit may not be on, off is all
  pub state-off : states f ≤ after_on f s → StateMade f price s was mid
  unfolding cell_stored
  state-off barred =
      let t : ltb (after_on f s) (states f) ≡ false = le-ltb (after_on f s) (states f) barred in
      record { inside = λ x y z i j k. rw t (off.inside x y z i j k); apart = off.apart }

  module _ (inside : s < states f) (leads : after_on f s < states f) where
    abbrev source : ℕ
    source = width f + after_on f s * section f

    -- the cells that an interval on leads to are read where they stand
    reads : (x y z k : ℕ)
        → get_or mid (source + (x - start_takes f s) * span f + (y - f.takes.ons) * row f + (z - k * f.takes.blocks)) (pos 0)
        ≡ stored_at f was (width f) (on_cell f (cell s x y z) k)
    reads x y z k =
        let i = (x - start_takes f s) * span f in
        let j = (y - f.takes.ons) * row f in
        let l = z - k * f.takes.blocks in
        let p : source + i + j + l ≡ source + (i + (j + l)) = omega arith in
        off.apart (source + i + j + l) (inr (omega (arith, section-fits f s inside))) ∙ ap (λ (n : ℕ). get_or was n (pos 0)) p
        ∙ sym (behind-in f was (after_on f s) (x - start_takes f s) (y - f.takes.ons) l)

    pub state-raised : (cells : List ℤ) → SectionRaised f (ladder_of f price (start_pays f s)) (start_takes f s) mid cells (s * section f) source
        → StateMade f price s was cells
    unfolding cell_stored
    state-raised cells made =
        let t : ltb (after_on f s) (states f) ≡ true = lt-ltb (after_on f s) (states f) leads in
        record {
          inside = λ x y z i j k.
              let c = cell s x y z in
              let stored = stored_at f was (width f) in
              let base : get_or mid (s * section f + place_in f x y z) (pos 0) ≡ off_stored f stored c = sym (front-in f mid s x y z) ∙ off.inside x y z i j k in
              let over =
              ap (best_over f.takes.blocks (ladder_of f price (start_pays f s)) mid
              (source + (x - start_takes f s) * span f + (y - f.takes.ons) * row f) z) base
              ∙ raised-same (room_for f stored c)
              (λ k. get_or mid (source + (x - start_takes f s) * span f + (y - f.takes.ons) * row f + (z - k * f.takes.blocks)) (pos 0) +ℤ brings
              (ladder_of f price (start_pays f s)) k)
              (on_stored f stored c price)
              (off_stored f stored c)
              f.pmin
              (rungs f)
              (λ k lo hi room. ap₂ ◌+ℤ◌ (reads x y z k) (ladder-brings f price (start_pays f s) k lo)) in
              rw t
              (front-in f cells s x y z ∙ made.inside x y z i j k ∙ ap₂ (cond (leb (start_takes f s) x && leb f.takes.ons y)) over base);
          apart = λ j out. made.apart j out ∙ off.apart j out;
        }

-- ---- a quarter, open or shut

pub quarter-opens : (f : Figures) (price : ℤ) (s : ℕ) (was cells : List ℤ) → StateMade f price s was cells → QuarterMade f (quarter price true) s was cells
quarter-opens f price s was cells made = record { inside = made.inside; apart = made.apart }

pub quarter-shut : (f : Figures) (price : ℤ) (s : ℕ) (was cells : List ℤ) → OffMade f s was cells → QuarterMade f (quarter price false) s was cells
quarter-shut f price s was cells made = record { inside = made.inside; apart = made.apart }

-- ---- the layer, state by state

pub record SectionPlace (f : Figures) : Type 0 where
  pub x : ℕ
  pub y : ℕ
  pub z : ℕ
  pub x≤ : x ≤ f.most.starts
  pub y≤ : y ≤ f.most.ons
  pub z≤ : z ≤ f.most.blocks

module _ (f : Figures) (q : Quarter) (was : List ℤ) where
  abbrev pub section_now : ℕ → SectionPlace f → ℤ
  section_now s p = quarter_stored f (stored_at f was (width f)) (cell s p.x p.y p.z) q

  abbrev pub place : SectionPlace f → ℕ
  place p = place_in f p.x p.y p.z

  pub placed : (p : SectionPlace f) → place p < section f
  placed p = in-section f p.x p.y p.z p.x≤ p.y≤ p.z≤

  abbrev pub StatesDone : List ℤ → ℕ → Type 0
  StatesDone = Done place (section f) placed was 0 section_now

  pub states-first : StatesDone was 0
  states-first = done_first place (section f) placed was 0 section_now 0 (λ v h p. absurd (omega arith))

  pub states-next : (s t : List ℤ) (n : ℕ) → n < states f → length t ≡ length s → StatesDone s n → QuarterMade f q n s t → StatesDone t (n + 1)
  states-next s t n inside long old new =
      done_next place (section f) placed was 0 section_now s t n old long
      (rw (zero-add (n * section f)) new.apart)
      (λ p.
      (rw (zero-add (n * section f)) (sym (front-in f t n p.x p.y p.z))) ∙ new.inside p.x p.y p.z p.x≤ p.y≤ p.z≤
      ∙ ap (λ (stored : Cell → ℤ). quarter_stored f stored (cell n p.x p.y p.z) q) behind)
    where
      behind : stored_at f s (width f) ≡ stored_at f was (width f)
      behind = λ i c. old.after (width f + index f c) (omega (arith, section-fits f n inside)) i

  pub states-done : (s : List ℤ) → StatesDone s (states f) → FrontMade f q was s
  states-done s old =
      record {
        inside = λ c h.
            front-in f s c.state c.left.starts c.left.ons c.left.blocks
            ∙ ap (λ (i : ℕ). get_or s i (pos 0)) (sym (zero-add (c.state * section f + place_in f c.left.starts c.left.ons c.left.blocks)))
            ∙ old.right c.state h.state
            (record { x = c.left.starts; y = c.left.ons; z = c.left.blocks; x≤ = h.left.starts; y≤ = h.left.ons; z≤ = h.left.blocks });
        apart = done-apart place (section f) placed was 0 section_now s (states f) (width f) (rw (sections-all f) (omega arith)) old;
      }

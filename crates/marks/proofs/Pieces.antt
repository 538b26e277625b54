-- A piece, state by state: what a state's stretch is made of stands in it, and in states that are still as they were.
use mathlib.Core.Path.{◌≡◌, refl, ap, ◌∙◌}
use mathlib.Core.Bool.{Bool, true, false, cond}
use mathlib.Core.List.{List}
use mathlib.Core.Logic.{◌⊎◌, ⊎_elim, inl, inr}
use Prim.Native.Nat.{ℕ, ◌+◌, ◌-◌, ◌*◌, ◌^◌, ◌≤◌, ◌<◌, min}
use native.Mathlib.Nat.{mul-le-mul_right, add-mul, one-mul}
use native.Mathlib.Omega.{arith}
use borrow.Author.Tests.{ltb-true, ltb-false, lt-ltb, le-ltb, ne_eqb, eq-eqb}
use lib.Dec.{ltb, eqb}
use lib.IntN.{ℤ, pos, nat_abs}
use lib.ListN.{get_or}
use lib.Signed.{◌≤ℤ◌, ≤ℤ_refl}
use Rattle.integers.proofs.Ranges.{within-abs}
use Rattle.integers.proofs.Linear.{zarith}
use Rattle.integers.proofs.Order.{le-lt_z}
use Rattle.optimality.specs.declared.Cell.{Cell}
use Rattle.optimality.specs.declared.Figures.{Figures}
use Rattle.optimality.specs.Machine.{Quarter}
use Rattle.optimality.specs.Cells.{Sound, InTable, states, after_off, after_on, off_cell, on_cell}
use Rattle.optimality.proofs.Turns.{off-in-table, on-in-table}
use Rattle.geometry.specs.Geometry.{section, width, index}
use Rattle.geometry.specs.Layers.{infeasible}
use Rattle.geometry.proofs.Holding.{up-infeasible, dn-infeasible}
use Rattle.geometry.proofs.Places.{in-section, index-lt}
use Rattle.intervals.specs.Turns.{off_stored}
use Rattle.carrying.specs.Pairs.{Pairs, JoinedFrom}
use Rattle.carrying.specs.Images.{piece, Imaged}
use Rattle.marks.specs.declared.Step.{Step}
use Rattle.marks.specs.declared.Piece.{Piece}
use Rattle.marks.specs.Lines.{value_of, mark_of, column_of, quarter_of, Runs, Here, OnAsked}
use Rattle.marks.specs.Turning.{OffAt, OffHere, OnHere, Turn, TurnHere, Kept, Partly, PieceAsked, StateAsked}
use Rattle.marks.proofs.Moving.{off_next}
use Rattle.marks.proofs.Turned.{turn-same, runs_on}

-- between too short a spell and the last state no start is allowed
no_run : (f : Figures) (s : ℕ) → f.mot ≤ s → s + 1 < states f → after_on f s ≡ states f
no_run f s old inner = rw (le-ltb s f.mot old, ne_eqb (s + 1) (states f) (λ e. omega arith))

-- ---- off and on lead to states that are not below, but for on from the last

module _ (f : Figures) where
  off-not-below : (s : ℕ) → s < states f → after_off f s < states f → s ≤ after_off f s
  off-not-below s inner leads = by (ltb s f.mot) refl leads
    where
      by : (t : Bool) → ltb s f.mot ≡ t → cond t (cond (eqb (s + 1) f.mot) f.mot (states f)) (min (s + 1) (states f - 1)) < states f
          → s ≤ cond t (cond (eqb (s + 1) f.mot) f.mot (states f)) (min (s + 1) (states f - 1))
      by true e g = let l = ltb-true s f.mot e in on (eqb (s + 1) f.mot) l
        where
          on : (b : Bool) → s < f.mot → s ≤ cond b f.mot (states f)
          on true l = omega arith
          on false l = omega arith
      by false e g = omega arith

  on-not-below : (s : ℕ) → s < f.mot → s ≤ after_on f s
  on-not-below s h = rw (lt-ltb s f.mot h) (omega arith)

  leads-up : (s : ℕ) → s + 1 < states f → after_on f s < states f → s ≤ after_on f s
  leads-up s inner l = by (ltb s f.mot) refl
    where
      by : (t : Bool) → ltb s f.mot ≡ t → s ≤ after_on f s
      by true e = on-not-below s (ltb-true s f.mot e)
      by false e = absurd (omega (arith, l, no_run f s (ltb-false s f.mot e) inner))

module _ (t : Step) (wide : t.width ≡ width t.figures) (p : Piece) (fits : p.column + p.count ≤ section t.figures) where
  abbrev f : Figures
  f = t.figures

  abbrev value_in : List ℤ → Cell → ℤ
  value_in cells = value_of f t.width cells

  abbrev mark_in : List ℤ → Cell → ℤ
  mark_in cells = mark_of f t.width cells

  -- between which cells the columns of a state's stretch are
  abbrev Apart : Cell → Type 0
  Apart c = (column_of f c < p.column) ⊎ (p.column + p.count ≤ column_of f c)

  -- where a cell stands
  index_is : (c : Cell) → index f c ≡ c.state * section f + column_of f c
  unfolding index
  index_is c = refl

  in-layer : (c : Cell) → InTable f c → index f c < t.width
  in-layer c h = omega (arith, index-lt f c h, wide)

  -- apart from a state's stretch: another state, or another column
  elsewhere : (s : ℕ) (c : Cell) → InTable f c → (c.state ≡ s → Apart c)
      → (index f c < s * section f + p.column) ⊎ (s * section f + p.column + p.count ≤ index f c)
  elsewhere s c h other = by (ltb c.state s) refl (ltb s c.state) refl
    where
      here : column_of f c < section f
      here = in-section f c.left.starts c.left.ons c.left.blocks h.left.starts h.left.ons h.left.blocks

      by : (a : Bool) → ltb c.state s ≡ a → (b : Bool) → ltb s c.state ≡ b
          → (index f c < s * section f + p.column) ⊎ (s * section f + p.column + p.count ≤ index f c)
      by true e b g =
          let l = ltb-true c.state s e in
          let m : (c.state + 1) * section f ≤ s * section f = mul-le-mul_right (section f) (omega arith) in
          inl (omega (arith, index_is c, m, here, add-mul c.state 1 (section f), one-mul (section f)))
      by false e true g =
          let l = ltb-true s c.state g in
          let m : (s + 1) * section f ≤ c.state * section f = mul-le-mul_right (section f) (omega arith) in
          inr (omega (arith, index_is c, m, fits, add-mul s 1 (section f), one-mul (section f)))
      by false e false g =
          let a = ltb-false c.state s e in
          let b = ltb-false s c.state g in
          let same : c.state ≡ s = omega arith in
          let m : c.state * section f ≡ s * section f = ap (λ (n : ℕ). n * section f) same in
          ⊎_elim (λ (o : column_of f c < p.column). inl (omega (arith, index_is c, m, o)))
          (λ (o : p.column + p.count ≤ column_of f c). inr (omega (arith, index_is c, m, o))) (other same)

  -- the i-th cell of a state's stretch
  stands : (s i : ℕ) (c : Cell) → Here f s (p.column + i) c → index f c ≡ s * section f + p.column + i
  stands s i c h =
      let m : c.state * section f ≡ s * section f = ap (λ (n : ℕ). n * section f) h.state in
      omega (arith, index_is c, m, h.at)

  module _ {Stands : ℕ → ℤ → ℤ → Type 0} (cur now : List ℤ) (s : ℕ)
      (made : Pairs t.width Stands cur now (s * section f + p.column) p.count) where
    pub unmoved : (c : Cell) → InTable f c → (c.state ≡ s → Apart c) → Kept f t.width cur now c
    unmoved c h other =
        let o = elsewhere s c h other in
        (made.apart.values (index f c) (in-layer c h) o, made.apart.marks (index f c) (in-layer c h) o)

    there : (i : ℕ) → i < p.count → (c : Cell) → Here f s (p.column + i) c → Stands i (value_in now c) (mark_in now c)
    there i h c o = rw (stands s i c o) (made.inside i h)

  -- ---- one state more

  pub partly_none : (was : List ℤ) → Partly t was was p 0
  partly_none was =
      record {
        same = refl;
        done = λ i h c o g. absurd (omega arith);
        rest = λ c h g. (refl, refl);
        apart = λ c h o. (refl, refl);
        beyond = λ j h. refl;
      }

  -- a value and mark that a step does not touch
  turn-kept : (stored marked : Cell → ℤ) (c : Cell) {v m v' m' : ℤ} → v' ≡ v → m' ≡ m → Turn f (quarter_of t) stored marked c v m
      → Turn f (quarter_of t) stored marked c v' m'
  turn-kept stored marked c e g turn = rw (e, g) turn

  kept_then : (was cur now : List ℤ) (c : Cell) → Kept f t.width cur now c → Kept f t.width was cur c → Kept f t.width was now c
  kept_then was cur now c a b = (a.0 ∙ b.0, a.1 ∙ b.1)

  module _ (was cur now : List ℤ) (s : ℕ) (inner : s < states f) (so_far : Partly t was cur p s) {Stands : ℕ → ℤ → ℤ → Type 0}
      (made : Pairs t.width Stands cur now (s * section f + p.column) p.count)
      (turned : (i : ℕ) → i < p.count → (c : Cell) → Here f s (p.column + i) c
      → Turn f (quarter_of t) (value_in was) (mark_in was) c (value_in now c) (mark_in now c)) where
    pub partly-next : Partly t was now p (s + 1)
    partly-next =
        record {
          same = made.apart.same ∙ so_far.same;
          done = λ i h c o g. by i h c o g (ltb c.state s) refl;
          rest = λ c h g. kept_then was cur now c (unmoved cur now s made c h (λ e. absurd (omega arith))) (so_far.rest c h (omega arith));
          apart = λ c h o. kept_then was cur now c (unmoved cur now s made c h (λ e. o)) (so_far.apart c h o);
          beyond = λ j h. made.apart.beyond j h ∙ so_far.beyond j h;
        }
      where
        by : (i : ℕ) → i < p.count → (c : Cell) → Here f c.state (p.column + i) c → c.state < s + 1 → (b : Bool) → ltb c.state s ≡ b
            → Turn f (quarter_of t) (value_in was) (mark_in was) c (value_in now c) (mark_in now c)
        by i h c o g true e =
            let l = ltb-true c.state s e in
            let k = unmoved cur now s made c o.inside (λ z. absurd (omega arith)) in
            turn-kept (value_in was) (mark_in was) c k.0 k.1 (so_far.done i h c o l)
        by i h c o g false e =
            let l = ltb-false c.state s e in
            turned i h c (record { inside = o.inside; state = omega arith; at = o.at })

  module _ (was cur : List ℤ) (s : ℕ) (inner : s < states f) (so_far : Partly t was cur p s) where
    off-as-it-was : (c : Cell) → InTable f c → c.state ≡ s → after_off f c.state < states f → Kept f t.width was cur (off_cell f c)
    off-as-it-was c h e leads =
        so_far.rest (off_cell f c) (off-in-table f c h leads) (rw (← e) (off-not-below f c.state h.state leads))

    -- so that what a step says of what stands there now it says of what was there; a state that may not start has no output on
    pub as_it_was : s + 1 < states f → (c : Cell) → InTable f c → c.state ≡ s → {v m : ℤ}
        → Turn f (quarter_of t) (value_in cur) (mark_in cur) c v m → Turn f (quarter_of t) (value_in was) (mark_in was) c v m
    as_it_was not_last c h e =
        turn-same f (value_in cur) (mark_in cur) (value_in was) (mark_in was) c (λ g. off-as-it-was c h e g)
        (λ k r. let l = runs_on f c r.2 in so_far.rest (on_cell f c k) (on-in-table f c k h l) (rw (← e) (leads-up f c.state (rw e not_last) l)))
        (quarter_of t)

-- ---- a state that may not start: off alone

pub off-turned : (f : Figures) (q : Quarter) (stored marked : Cell → ℤ) (c : Cell) {v m : ℤ} → f.mot ≤ c.state → c.state + 1 < states f
    → infeasible ≤ℤ v → OffAt f stored marked c v m → Turn f q stored marked c v m
off-turned f q stored marked c {v} {m} old inner floor off =
    let keeps = le-lt_z v infeasible floor in
    record {
      off-value = v;
      off-mark = m;
      off = off;
      on-value = infeasible;
      on-mark = m;
      on = record { opened = λ e. inl (λ k r. barred k r, refl); shut = λ e. refl };
      larger = (rw keeps, rw keeps);
    }
  where
    barred : (k : ℕ) → Runs f c k → ⊥
    barred k r =
        let l = runs_on f c r.2 in
        omega (arith, l, no_run f c.state old inner)

-- its stretch
pub off-floored : (f : Figures) (stored : Cell → ℤ) (c : Cell) → (after_off f c.state < states f → infeasible ≤ℤ stored (off_cell f c))
    → infeasible ≤ℤ off_stored f stored c
unfolding off_stored
off-floored f stored c floor = by (ltb (after_off f c.state) (states f)) refl
  where
    by : (t : Bool) → ltb (after_off f c.state) (states f) ≡ t → infeasible ≤ℤ cond t (stored (off_cell f c)) infeasible
    by true e = floor (ltb-true (after_off f c.state) (states f) e)
    by false e = ≤ℤ_refl infeasible

module _ (t : Step) (was now : List ℤ) (s : ℕ) (p : Piece) (to : ℕ) (old : t.figures.mot ≤ s) (inner : s + 1 < states t.figures)
    (floor : (c : Cell) → InTable t.figures c → s < c.state → column_of t.figures c < p.column + p.count
    → infeasible ≤ℤ value_of t.figures t.width was c) where
  off-low : (c : Cell) → InTable t.figures c → c.state ≡ s → column_of t.figures c < p.column + p.count
      → infeasible ≤ℤ off_stored t.figures (value_of t.figures t.width was) c
  off-low c i e b =
      let n : after_off t.figures c.state ≡ s + 1 = rw e (off_next t.figures s (omega arith) inner) in
      off-floored t.figures (value_of t.figures t.width was) c
      (λ g. floor (off_cell t.figures c) (off-in-table t.figures c i g) (omega (arith, n)) b)

  pub off-here-turned : Pairs t.width (OffHere t was s p) was now to p.count → Pairs t.width (TurnHere t was s p) was now to p.count
  off-here-turned made =
      record {
        inside = λ i h c o.
            let off = made.inside i h c o in
            off-turned t.figures (quarter_of t) (value_of t.figures t.width was) (mark_of t.figures t.width was) c (rw o.state old)
            (rw o.state inner) (rw off.value (off-low c o.inside o.state (omega (arith, o.at)))) off;
        apart = made.apart;
      }

-- a number to which an interval can be added is not below that of no schedule
pub small-floored : (v : ℤ) → nat_abs v ≤ 2 ^ 62 → infeasible ≤ℤ v
small-floored v h = let k = within-abs v in omega (zarith, k.under, h, up-infeasible, dn-infeasible)

-- ---- all states but the last

module _ (t : Step) (was : List ℤ) (p : Piece) (a : PieceAsked t was p) where
  abbrev g : Figures
  g = t.figures

  abbrev ok : Sound g
  ok = a.over.interval.sound

  abbrev wide : t.width ≡ width g
  wide = a.over.wide

  abbrev fits : p.column + p.count ≤ section g
  fits = a.piece-of.fits

  on-asked : (cur : List ℤ) (s : ℕ) → s < g.mot → Partly t was cur p s → OnAsked t cur s p
  on-asked cur s h so_far =
      record {
        over = a.over;
        marks = omega (arith, so_far.same, a.marks);
        piece-of = a.piece-of;
        small = λ c i e b. let k = so_far.rest c i (rw e (on-not-below g s h)) in rw k.0 (a.small c i b);
        state = omega arith;
        leads = rw (lt-ltb s g.mot h) (omega (arith, ok.mot, ok.mdt));
      }

  pub state-asked : (cur : List ℤ) (s : ℕ) → s + 1 < states g → Partly t was cur p s → StateAsked t cur s p
  state-asked cur s h so_far =
      record {
        over = a.over;
        marks = omega (arith, so_far.same, a.marks);
        piece-of = a.piece-of;
        inner = h;
        on = λ on. on-asked cur s on so_far;
        floored = λ c i l b.
            let k = so_far.rest c i (omega arith) in
            rw k.0 (small-floored (value_of g t.width was c) (a.small c i b));
      }

  pub state-next : (cur now : List ℤ) (s : ℕ) → s + 1 < states g → Partly t was cur p s
      → Pairs t.width (TurnHere t cur s p) cur now (s * section g + p.column) p.count → Partly t was now p (s + 1)
  state-next cur now s h so_far made =
      partly-next t wide p fits was cur now s (omega arith) so_far made
      (λ i l c o. as_it_was t wide p fits was cur s (omega arith) so_far h c o.inside o.state (there t wide p fits cur now s made i l c o c o))

  -- ---- the last state: on leads to the first, off to itself

  pub last-asked : OnAsked t was (states g - 1) p
  last-asked =
      record {
        over = a.over;
        marks = a.marks;
        piece-of = a.piece-of;
        small = λ c i e b. a.small c i b;
        state = omega (arith, ok.mot);
        leads =
            rw (le-ltb (states g - 1) g.mot (omega (arith, ok.mdt)), eq-eqb (states g - 1 + 1) (states g) (omega (arith, ok.mot)))
            (omega (arith, ok.mot));
      }

  off-itself : (c : Cell) → c.state ≡ states g - 1 → after_off g c.state ≡ c.state
  off-itself c e = rw (e, le-ltb (states g - 1) g.mot (omega (arith, ok.mdt))) (omega (arith, ok.mot))

  last_off : (c : Cell) → c.state ≡ states g - 1
      → OffAt g (value_of g t.width was) (mark_of g t.width was) c (value_of g t.width was c) (mark_of g t.width was c)
  unfolding off_stored index
  last_off c e =
      let itself = off-itself c e in
      let goes : ltb c.state (states g) ≡ true = lt-ltb c.state (states g) (omega (arith, e, ok.mot)) in
      record { value = rw (itself, goes); mark = λ l. rw itself }

  pub last-next : (cur now empty begun : List ℤ) → Partly t was cur p (states g - 1) → Imaged (OnHere t was (states g - 1) p) empty begun p.count
      → Pairs t.width (JoinedFrom t.width piece cur begun ((states g - 1) * section g + p.column)) cur now
      ((states g - 1) * section g + p.column) p.count
      → Partly t was now p (states g)
  last-next cur now empty begun so_far on made =
      let all : states g - 1 + 1 ≡ states g = omega (arith, ok.mot) in
      rw all at
      (partly-next t wide p fits was cur now (states g - 1) (omega (arith, ok.mot)) so_far made
      (λ i l c o.
      let kept = so_far.rest c o.inside (rw o.state (omega arith)) in
      let at = stands t wide p fits (states g - 1) i c o in
      record {
        off-value = value_of g t.width was c;
        off-mark = mark_of g t.width was c;
        off = last_off c o.state;
        on-value = get_or begun i (pos 0);
        on-mark = get_or begun (piece + i) (pos 0);
        on = on.inside i l c o;
        larger = rw (← kept.0, ← kept.1, at) (made.inside i l);
      }))

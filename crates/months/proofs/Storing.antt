-- Storing a box: each cell of the year that has so much above the box is met once, at its cell in the box.
use mathlib.Core.Path.{◌≡◌, refl, sym, ap, ap₂, ◌∙◌}
use mathlib.Core.Bool.{Bool, true, false, cond, true≢false}
use mathlib.Core.List.{List}
use mathlib.Core.Logic.{⊎_elim, inl, inr}
use Prim.Native.Nat.{ℕ, ◌+◌, ◌-◌, ◌≤◌, ◌<◌, min}
use native.Mathlib.Omega.{arith}
use borrow.Author.Tests.{eqb-true, eq-eqb}
use lib.Dec.{eqb}
use lib.IntN.{ℤ, pos}
use lib.ListN.{length, get_or, set, length-set}
use lib.Seq.{get_or-set_same, get_or-set_other}
use Rattle.lists.proofs.Conjunctions.{both}
use Rattle.optimality.specs.declared.Budgets.{Budgets}
use Rattle.optimality.specs.declared.Cell.{Cell}
use Rattle.optimality.specs.declared.Figures.{Figures}
use Rattle.optimality.specs.Cells.{InTable, budgets, with_most}
use Rattle.optimality.specs.Years.{raised}
use Rattle.geometry.specs.Geometry.{width, index, cell_of}
use Rattle.geometry.specs.Layers.{stored_at}
use Rattle.geometry.proofs.Places.{index-lt, cell-there}
use Rattle.intervals.specs.Stretches.{Apart}
use Rattle.intervals.proofs.Stretches.{last-or-before}
use Rattle.months.specs.Capping.{Above, high_cell, box_of, over_of, same_budgets, StoreAsked, stored_one}
use Rattle.months.proofs.Raising.{numbered-there, high-inside}

-- ---- budgets

same-is : (a b : Budgets) → same_budgets a b ≡ true → a ≡ b
same-is a b e =
    let x = both _ (eqb a.blocks b.blocks) e in
    let y = both (eqb a.starts b.starts) (eqb a.ons b.ons) x.0 in
    let all : budgets a.starts a.ons a.blocks ≡ budgets b.starts b.ons b.blocks =
    rw (eqb-true a.starts b.starts y.0, eqb-true a.ons b.ons y.1, eqb-true a.blocks b.blocks x.1) in
    all

is_same : (a b : Budgets) → a ≡ b → same_budgets a b ≡ true
is_same a b e = rw e (rw (eq-eqb b.starts b.starts refl, eq-eqb b.ons b.ons refl, eq-eqb b.blocks b.blocks refl))

cap-and-rest : (a c : ℕ) → min a c + (a - min a c) ≡ a
cap-and-rest a c = omega arith

-- a cell of the year is that of its box, raised by what lies above
pub raised-again : (cap : Budgets) (z : Cell) → raised (over_of cap z) (box_of cap z) ≡ z
raised-again cap z =
    let a = z.left in
    let whole : z ≡ z = refl in
    rw (cap-and-rest a.starts cap.starts, cap-and-rest a.ons cap.ons, cap-and-rest a.blocks cap.blocks) whole

module _ (f : Figures) (cap above : Budgets) (ok : Above f cap above) where
  abbrev g : Figures
  g = with_most f cap

  pub box-inside : (z : Cell) → InTable f z → InTable g (box_of cap z)
  box-inside z i = record { state = i.state; left = record { starts = omega arith; ons = omega arith; blocks = omega arith } }

  -- a cell of the box is that of the year's cell above it, where that has just so much above the box
  over-box : (c : Cell) → over_of cap (raised above c) ≡ above → box_of cap (raised above c) ≡ c
  over-box c e =
      let a = c.left in
      let x : min (a.starts + above.starts) cap.starts ≡ a.starts = omega (arith, ap (λ (b : Budgets). b.starts) e) in
      let y : min (a.ons + above.ons) cap.ons ≡ a.ons = omega (arith, ap (λ (b : Budgets). b.ons) e) in
      let z : min (a.blocks + above.blocks) cap.blocks ≡ a.blocks = omega (arith, ap (λ (b : Budgets). b.blocks) e) in
      let whole : c ≡ c = refl in
      rw (x, y, z) whole

  -- where the cells of the box before the i-th are stored
  pub record Storing (was now : List ℤ) (from to i : ℕ) : Type 0 where
    pub inside : (z : Cell) → InTable f z → over_of cap z ≡ above → index g (box_of cap z) < i → stored_at f now to z ≡ stored_at g was from (box_of cap z)
    pub others : (z : Cell) → InTable f z → (over_of cap z ≡ above → ⊥) → stored_at f now to z ≡ stored_at f was to z
    pub apart : Apart was now to (width f)
    pub same : length now ≡ length was

  pub storing-none : (was : List ℤ) (from to : ℕ) → Storing was was from to 0
  storing-none was from to =
      record { inside = λ z i e h. absurd (omega arith); others = λ z i e. refl; apart = λ j out. refl; same = refl }

  module _ (was now : List ℤ) (from to i : ℕ) (asked : StoreAsked f cap above (length was) from to) (h : i < width g) (s : Storing was now from to i) where
    abbrev c : Cell
    c = cell_of g i

    abbrev high : Cell
    high = high_cell f cap above i

    here-inside : InTable f high
    here-inside = high-inside f cap above ok i h

    -- what is read was not written
    read : get_or now (from + i) (pos 0) ≡ get_or was (from + i) (pos 0)
    read =
        s.apart (from + i)
        (⊎_elim (λ (l : to + width f ≤ from). inr (omega arith)) (λ (l : from + width g ≤ to). inl (omega arith)) asked.apart)

    -- two cells of the year at one place are one
    one_place : (z : Cell) → InTable f z → to + index f z ≡ to + index f high → z ≡ high
    one_place z k e =
        let there : index f z ≡ index f high = omega (arith, e) in
        sym (cell-there f z k) ∙ ap (cell_of f) there ∙ cell-there f high here-inside

    -- a cell whose box is the i-th
    its-box : (z : Cell) → InTable f z → index g (box_of cap z) ≡ i → box_of cap z ≡ c
    its-box z k e = sym (cell-there g (box_of cap z) (box-inside z k)) ∙ ap (cell_of g) e

    pub storing-next : Storing was (stored_one f cap above now from to i) from to (i + 1)
    storing-next = by (same_budgets (over_of cap high) above) refl
      where
        v : ℤ
        v = get_or now (from + i) (pos 0)

        room : to + index f high < length now
        room = omega (arith, index-lt f high here-inside, asked.year, s.same)

        by : (t : Bool) → same_budgets (over_of cap high) above ≡ t → Storing was (cond t (set now (to + index f high) v) now) from to (i + 1)
        by true own =
            let over = same-is (over_of cap high) above own in
            record {
              inside = λ z k e l.
                  ⊎_elim
                  (λ (here : index g (box_of cap z) ≡ i).
                  let b = its-box z k here in
                  let up : z ≡ high = sym (raised-again cap z) ∙ ap₂ raised e b in
                  let there : to + index f z ≡ to + index f high = ap (λ (y : Cell). to + index f y) up in
                  let from-there : from + index g (box_of cap z) ≡ from + i = ap (λ (n : ℕ). from + n) here in
                  rw (there, from-there) (get_or-set_same now (to + index f high) v (pos 0) room ∙ read))
                  (λ (before : index g (box_of cap z) < i).
                  get_or-set_other now (to + index f high) (to + index f z) v (pos 0)
                  (λ clash.
                  let up = one_place z k clash in
                  let b : box_of cap z ≡ c = ap (box_of cap) up ∙ over-box c over in
                  let n : index g (box_of cap z) ≡ i = ap (index g) b ∙ (numbered-there g i h).1 in
                  omega (arith, n))
                  ∙ s.inside z k e before)
                  (last-or-before (index g (box_of cap z)) i l);
              others = λ z k e.
                  get_or-set_other now (to + index f high) (to + index f z) v (pos 0)
                  (λ clash. e (ap (over_of cap) (one_place z k clash) ∙ over))
                  ∙ s.others z k e;
              apart = λ j out.
                  get_or-set_other now (to + index f high) j v (pos 0)
                  (λ clash.
                  ⊎_elim (λ (l : j < to). omega (arith, clash)) (λ (l : to + width f ≤ j). omega (arith, clash, index-lt f high here-inside)) out)
                  ∙ s.apart j out;
              same = length-set now (to + index f high) v ∙ s.same;
            }
        by false own =
            record {
              inside = λ z k e l.
                  ⊎_elim
                  (λ (here : index g (box_of cap z) ≡ i).
                  let up : high ≡ z = ap₂ raised (sym e) (sym (its-box z k here)) ∙ raised-again cap z in
                  absurd (true≢false (sym (is_same (over_of cap high) above (ap (over_of cap) up ∙ e)) ∙ own)))
                  (λ (before : index g (box_of cap z) < i). s.inside z k e before)
                  (last-or-before (index g (box_of cap z)) i l);
              others = s.others;
              apart = s.apart;
              same = s.same;
            }

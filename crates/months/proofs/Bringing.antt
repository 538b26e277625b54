-- A way taken from more and more cells of the year: each cell is raised once, by what stood there before.
use mathlib.Core.Path.{◌≡◌, refl, sym, ap, ap₂, ◌∙◌, subst}
use mathlib.Core.Bool.{Bool, true, false}
use mathlib.Core.List.{List}
use mathlib.Core.Logic.{◌⊎◌, ⊎_elim, inl, inr}
use Prim.Native.Nat.{ℕ, ◌+◌, ◌-◌, ◌^◌, ◌≤◌, ◌<◌}
use native.Mathlib.Omega.{arith}
use borrow.Author.Tests.{ltb-true, ltb-false}
use lib.Dec.{ltb}
use lib.IntN.{ℤ, pos, nat_abs, ◌+ℤ◌}
use lib.ListN.{length, get_or}
use Rattle.integers.specs.Maximum.{maxℤ}
use Rattle.optimality.specs.declared.Cell.{Cell}
use Rattle.optimality.specs.declared.Figures.{Figures}
use Rattle.optimality.specs.Cells.{InTable, cell, states}
use Rattle.geometry.specs.Geometry.{width, index, cell_of}
use Rattle.geometry.specs.Layers.{stored_at}
use Rattle.geometry.proofs.Places.{index-lt, index-along, cell-there}
use Rattle.intervals.specs.Stretches.{Raised}
use Rattle.intervals.proofs.Stretches.{last-or-before}
use Rattle.months.specs.declared.chains.Places.{Places}
use Rattle.months.specs.declared.ends.Way.{Way}
use Rattle.months.specs.Ending.{afterward, end_of, RowAsked, WayAsked, Brought, InRow, InSpan, InSection}

-- a place of one layer is not in another that lies apart
pub beside : (here after wide i : ℕ) → (here + wide ≤ after) ⊎ (after + wide ≤ here) → i < wide → (after + i < here) ⊎ (here + wide ≤ after + i)
beside here after wide i apart h =
    ⊎_elim (λ (l : here + wide ≤ after). inr (omega arith)) (λ (l : after + wide ≤ here). inl (omega arith)) apart

-- where a way ends is a cell of the table
pub afterward-inside : (f : Figures) (z e : Cell) → InTable f z → e.state < states f → InTable f (afterward z e)
afterward-inside f z e i h =
    record {
      state = h;
      left =
          record {
            starts = omega (arith, i.left.starts);
            ons = omega (arith, i.left.ons);
            blocks = omega (arith, i.left.blocks);
          };
    }

module _ (f : Figures) (at : Places) (w : Way) (was : List ℤ) (asked : WayAsked f was at w) where
  -- ---- some cells after others

  module _ (mid : List ℤ) (some : Cell → Type 0) (a : Brought f at w some was mid) where
    pub later_same : (z : Cell) → InTable f z → stored_at f mid at.after z ≡ stored_at f was at.after z
    later_same z i = a.apart (at.after + index f z) (beside at.here at.after (width f) (index f z) asked.apart (index-lt f z i))

    pub asked-again : length mid ≡ length was → WayAsked f mid at w
    asked-again same =
        record {
          sound = asked.sound;
          inside = asked.inside;
          end = asked.end;
          apart = asked.apart;
          here = omega (arith, asked.here, same);
          after = omega (arith, asked.after, same);
          small = λ i h. subst (λ (v : ℤ). nat_abs v ≤ 2 ^ 62) (sym (a.apart (at.after + i) (beside at.here at.after (width f) i asked.apart h))) (asked.small i h);
          gains = asked.gains;
        }

    pub then-others : (more all : Cell → Type 0) (now : List ℤ) → ((z : Cell) → some z → more z → ⊥) → ((z : Cell) → InTable f z → all z → some z ⊎ more z)
        → ((z : Cell) → some z → all z) → ((z : Cell) → more z → all z) → Brought f at w more mid now → Brought f at w all was now
    then-others more all now once either first second b =
        record {
          raised = λ z i h.
              ⊎_elim (λ (s : some z). b.others z i (once z s) ∙ a.raised z i s)
              (λ (m : more z).
              b.raised z i m
              ∙ ap₂ (λ (u v : ℤ). maxℤ u (v +ℤ w.gain)) (a.others z i (λ s. once z s m)) (later_same (afterward z (end_of w)) (afterward-inside f z (end_of w) i asked.end)))
              (either z i h);
          others = λ z i h. b.others z i (λ m. h (second z m)) ∙ a.others z i (λ s. h (first z s));
          apart = λ j out. b.apart j out ∙ a.apart j out;
        }

  pub none-brought : (none : Cell → Type 0) → ((z : Cell) → none z → ⊥) → Brought f at w none was was
  none-brought none never = record { raised = λ z i h. absurd (never z h); others = λ z i h. refl; apart = λ j out. refl }

  -- ---- the cells of a row

  module _ (x y : ℕ) (starts : w.from.left.starts ≤ x) (x-most : x ≤ f.most.starts) (ons : w.from.left.ons ≤ y) (y-most : y ≤ f.most.ons) where
    -- the first cell of the row that has as much left, and the one where the way leads from it
    abbrev high : Cell
    high = cell w.from.state x y w.from.left.blocks

    abbrev low : Cell
    low = cell w.to (x - w.from.left.starts) (y - w.from.left.ons) 0

    abbrev count : ℕ
    count = f.most.blocks - w.from.left.blocks + 1

    pub high-inside : InTable f high
    high-inside = record { state = asked.inside.state; left = record { starts = x-most; ons = y-most; blocks = asked.inside.left.blocks } }

    pub low-inside : InTable f low
    low-inside =
        record { state = asked.end; left = record { starts = omega (arith, x-most); ons = omega (arith, y-most); blocks = omega arith } }

    -- the row goes on to the last cell
    high_fits : index f high + count ≤ width f
    high_fits =
        let last = cell w.from.state x y f.most.blocks in
        let l : InTable f last = record { state = asked.inside.state; left = record { starts = x-most; ons = y-most; blocks = omega arith } } in
        omega (
          arith,
          index-lt f last l,
          index-along f w.from.state x y f.most.blocks,
          index-along f w.from.state x y w.from.left.blocks,
          asked.inside.left.blocks,
        )

    low_fits : index f low + count ≤ width f
    low_fits =
        let a = x - w.from.left.starts in
        let b = y - w.from.left.ons in
        let last = cell w.to a b f.most.blocks in
        let l : InTable f last =
        record { state = asked.end; left = record { starts = omega (arith, x-most); ons = omega (arith, y-most); blocks = omega arith } } in
        omega (arith, index-lt f last l, index-along f w.to a b f.most.blocks)

    row-asked : RowAsked was (at.here + index f high) (at.after + index f low) count w.gain
    row-asked =
        record {
          beside =
              ⊎_elim (λ (l : at.here + width f ≤ at.after). inl (omega (arith, high_fits))) (λ (l : at.after + width f ≤ at.here). inr (omega (arith, low_fits)))
              asked.apart;
          fits = omega (arith, low_fits, asked.after);
          room = omega (arith, high_fits, asked.here);
          small = λ i h.
              let e : at.after + (index f low + i) ≡ at.after + index f low + i = omega arith in
              rw e at (asked.small (index f low + i) (omega (arith, h, low_fits)));
          gains = asked.gains;
        }

    -- its cells, by how far they lie behind the first
    in_row : (z : Cell) → InRow w x y z → index f z ≡ index f high + (z.left.blocks - w.from.left.blocks)
    in_row z r =
        let e : cell z.state z.left.starts z.left.ons z.left.blocks ≡ cell w.from.state x y z.left.blocks =
        rw (r.state, r.starts, r.ons) in
        ap (index f) e
        ∙ omega (arith, index-along f w.from.state x y z.left.blocks, index-along f w.from.state x y w.from.left.blocks, r.blocks)

    led-to : (z : Cell) → InRow w x y z → index f (afterward z (end_of w)) ≡ index f low + (z.left.blocks - w.from.left.blocks)
    led-to z r =
        let e : afterward z (end_of w)
        ≡ cell w.to (x - w.from.left.starts) (y - w.from.left.ons) (z.left.blocks - w.from.left.blocks) = rw (r.starts, r.ons) in
        ap (index f) e ∙ index-along f w.to (x - w.from.left.starts) (y - w.from.left.ons) (z.left.blocks - w.from.left.blocks)

    -- what stands in the stretch is one of them
    is-in-row : (z : Cell) → InTable f z → (k : ℕ) → k < count → index f z ≡ index f high + k → InRow w x y z
    is-in-row z i k h e =
        let c = cell w.from.state x y (w.from.left.blocks + k) in
        let l : InTable f c =
        record { state = asked.inside.state; left = record { starts = x-most; ons = y-most; blocks = omega (arith, h, asked.inside.left.blocks) } } in
        let place : index f z ≡ index f c =
        e ∙ omega (arith, index-along f w.from.state x y (w.from.left.blocks + k), index-along f w.from.state x y w.from.left.blocks) in
        let same : z ≡ c = sym (cell-there f z i) ∙ ap (cell_of f) place ∙ cell-there f c l in
        record {
          state = ap (λ (u : Cell). u.state) same;
          starts = ap (λ (u : Cell). u.left.starts) same;
          ons = ap (λ (u : Cell). u.left.ons) same;
          blocks = omega (arith, ap (λ (u : Cell). u.left.blocks) same);
        }

    module _ (now : List ℤ) (r : Raised was now (at.here + index f high) (at.after + index f low) count w.gain) where
      raised-there : (z : Cell) → InTable f z → InRow w x y z
          → stored_at f now at.here z ≡ maxℤ (stored_at f was at.here z) (stored_at f was at.after (afterward z (end_of w)) +ℤ w.gain)
      raised-there z i h =
          let k = z.left.blocks - w.from.left.blocks in
          let short : k < count = omega (arith, i.left.blocks, h.blocks) in
          let here : at.here + index f z ≡ at.here + index f high + k = omega (arith, in_row z h) in
          let there : at.after + index f (afterward z (end_of w)) ≡ at.after + index f low + k = omega (arith, led-to z h) in
          ap (λ (j : ℕ). get_or now j (pos 0)) here ∙ r.inside k short
          ∙ ap₂ (λ (i j : ℕ). maxℤ (get_or was i (pos 0)) (get_or was j (pos 0) +ℤ w.gain)) (sym here) (sym there)

      outside : (z : Cell) → InTable f z → (InRow w x y z → ⊥) → stored_at f now at.here z ≡ stored_at f was at.here z
      outside z i h = r.apart (at.here + index f z) (by (ltb (index f z) (index f high)) refl)
        where
          past : index f high ≤ index f z → (t : Bool) → ltb (index f z) (index f high + count) ≡ t
              → (at.here + index f z < at.here + index f high) ⊎ (at.here + index f high + count ≤ at.here + index f z)
          past le true e =
              let lt = ltb-true (index f z) (index f high + count) e in
              absurd (h (is-in-row z i (index f z - index f high) (omega arith) (omega arith)))
          past le false e = let ge = ltb-false (index f z) (index f high + count) e in inr (omega arith)

          by : (t : Bool) → ltb (index f z) (index f high) ≡ t
              → (at.here + index f z < at.here + index f high) ⊎ (at.here + index f high + count ≤ at.here + index f z)
          by true e = let lt = ltb-true (index f z) (index f high) e in inl (omega arith)
          by false e = past (ltb-false (index f z) (index f high) e) (ltb (index f z) (index f high + count)) refl

      row-brought : Brought f at w (InRow w x y) was now
      row-brought =
          record {
            raised = raised-there;
            others = outside;
            apart = λ j out.
                r.apart j
                (⊎_elim (λ (l : j < at.here). inl (omega arith)) (λ (l : at.here + width f ≤ j). inr (omega (arith, high_fits))) out);
          }

    -- the same by the places as they are worked out
    module _ (i j : ℕ) (gain : ℤ) (first : i ≡ index f high) (second : j ≡ index f low) (earned : gain ≡ w.gain) where
      pub row-asked-at : RowAsked was (at.here + i) (at.after + j) count gain
      row-asked-at = rw (first, second, earned) row-asked

      pub row-brought-at : (now : List ℤ) → Raised was now (at.here + i) (at.after + j) count gain → Brought f at w (InRow w x y) was now
      row-brought-at now r = row-brought now (rw (first, second, earned) at r)

  -- ---- row after row, span after span

  pub row_next : (x y : ℕ) (mid now : List ℤ) → w.from.left.ons ≤ y → Brought f at w (InSpan w x y) was mid → Brought f at w (InRow w x y) mid now
      → Brought f at w (InSpan w x (y + 1)) was now
  row_next x y mid now least a b =
      then-others mid (InSpan w x y) a (InRow w x y) (InSpan w x (y + 1)) now (λ z s r. omega (arith, s.before, r.ons))
      (λ z i s.
      ⊎_elim (λ (e : z.left.ons ≡ y). inr (record { state = s.state; starts = s.starts; ons = e; blocks = s.blocks }))
      (λ (l : z.left.ons < y). inl (record { state = s.state; starts = s.starts; ons = s.ons; before = l; blocks = s.blocks }))
      (last-or-before z.left.ons y s.before))
      (λ z s. record { state = s.state; starts = s.starts; ons = s.ons; before = omega (arith, s.before); blocks = s.blocks })
      (λ z r. record { state = r.state; starts = r.starts; ons = omega (arith, r.ons); before = omega (arith, r.ons); blocks = r.blocks })
      b

  pub span-next : (x : ℕ) (mid now : List ℤ) → w.from.left.starts ≤ x → Brought f at w (InSection w x) was mid
      → Brought f at w (InSpan w x (f.most.ons + 1)) mid now → Brought f at w (InSection w (x + 1)) was now
  span-next x mid now least a b =
      then-others mid (InSection w x) a (InSpan w x (f.most.ons + 1)) (InSection w (x + 1)) now (λ z s r. omega (arith, s.before, r.starts))
      (λ z i s.
      ⊎_elim
      (λ (e : z.left.starts ≡ x).
      inr
      (record { state = s.state; starts = e; ons = s.within.ons; before = omega (arith, i.left.ons); blocks = s.within.blocks }))
      (λ (l : z.left.starts < x). inl (record { state = s.state; within = s.within; before = l })) (last-or-before z.left.starts x s.before))
      (λ z s. record { state = s.state; within = s.within; before = omega (arith, s.before) })
      (λ z r.
      record {
        state = r.state;
        within = record { starts = omega (arith, r.starts); ons = r.ons; blocks = r.blocks };
        before = omega (arith, r.starts);
      })
      b

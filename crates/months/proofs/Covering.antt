-- The best of the ways that were seen grows way by way, and when all were seen it is the value of the cell.
use Rattle.std.specs.Prelude.{None, Some}
use mathlib.Core.Path.{◌≡◌, refl, sym, ap, ap₂, ◌∙◌, subst}
use mathlib.Core.Bool.{true, false}
use mathlib.Core.List.{List}
use mathlib.Core.Logic.{◌⊎◌, ⊎_elim, inl, inr}
use Prim.Native.Nat.{ℕ, ◌+◌, ◌-◌, ◌*◌, ◌≤◌, min}
use native.Mathlib.Omega.{arith}
use lib.IntN.{ℤ, nat_abs, ◌+ℤ◌, +ℤ_comm}
use lib.Signed.{lt_z, ◌≤ℤ◌, ◌<ℤ◌}
use Rattle.integers.proofs.Linear.{zarith, zsum}
use Rattle.integers.proofs.Order.{lt_z-dec, ≤ℤ-antisym}
use Rattle.integers.proofs.Ranges.{within-abs, abs-within, within-sum}
use Rattle.commitment.specs.Types.{BestProfit}
use Rattle.commitment.specs.Bounds.{most_intervals}
use Rattle.optimality.specs.declared.Budgets.{Budgets}
use Rattle.optimality.specs.declared.Cell.{Cell}
use Rattle.optimality.specs.declared.Figures.{Figures}
use Rattle.optimality.specs.Machine.{Quarter, more, plus}
use Rattle.optimality.specs.Cells.{Sound, Within, InTable, less, with_most, value_at}
use Rattle.optimality.specs.Years.{raised}
use Rattle.geometry.specs.Layers.{swing, Holds}
use Rattle.geometry.proofs.Holding.{Offers, above-infeasible}
use Rattle.marks.specs.Standing.{ends_in, spent}
use Rattle.months.specs.Capping.{box_of, over_of}
use Rattle.months.specs.Chaining.{value_before}
use Rattle.months.specs.Ending.{spending, afterward, sum_of, offer, AtMost, Met, Covered}
use Rattle.months.proofs.Ending.{meets, reaches}

-- ---- profits in order

most-left : (a v w : BestProfit) → AtMost a v → AtMost a (more v w)
most-left None v w h = tt
most-left (Some p) None w h = absurd h
most-left (Some p) (Some q) None h = h
most-left (Some p) (Some q) (Some r) h =
    ⊎_elim (λ (t : (lt_z q r ≡ true) × (q <ℤ r)). rw t.0 (omega (zarith, h, t.1))) (λ (t : (lt_z q r ≡ false) × (r ≤ℤ q)). rw t.0 h) (lt_z-dec q r)

most-right : (v w : BestProfit) → AtMost w (more v w)
most-right v None = tt
most-right None (Some r) = omega zarith
most-right (Some q) (Some r) =
    ⊎_elim (λ (t : (lt_z q r ≡ true) × (q <ℤ r)). rw t.0 (omega zarith)) (λ (t : (lt_z q r ≡ false) × (r ≤ℤ q)). rw t.0 t.1) (lt_z-dec q r)

either-more : (v w : BestProfit) → (more v w ≡ v) ⊎ (more v w ≡ w)
either-more None w = inr refl
either-more (Some q) None = inl refl
either-more (Some q) (Some r) =
    ⊎_elim (λ (t : (lt_z q r ≡ true) × (q <ℤ r)). inr (rw t.0)) (λ (t : (lt_z q r ≡ false) × (r ≤ℤ q)). inl (rw t.0)) (lt_z-dec q r)

both_ways : (v w : BestProfit) → AtMost v w → AtMost w v → v ≡ w
both_ways None None h k = refl
both_ways None (Some q) h k = absurd k
both_ways (Some p) None h k = absurd h
both_ways (Some p) (Some q) h k = ap Some (≤ℤ-antisym h k)

-- ---- the number of a sum

-- a way's profit, and what its end is worth
pub offers-sum : (m n : ℕ) (p : ℤ) (w : BestProfit) (b : ℤ) → n + m ≤ most_intervals → nat_abs p ≤ m * swing → Holds n w b
    → Offers (n + m) (plus p w) (b +ℤ p)
offers-sum m n p None b few small h =
    let both : (n + m) * swing ≡ n * swing + m * swing = omega arith in
    omega (zarith, above-infeasible n (omega arith), above-infeasible (n + m) few, within-abs p, zsum b p, h.1, both, small)
offers-sum m n p (Some q) b few small h =
    let both : (n + m) * swing ≡ n * swing + m * swing = omega arith in
    (ap (λ (x : ℤ). x +ℤ p) h.0 ∙ +ℤ_comm q p, omega (arith, abs-within (within-sum (within-abs p) (within-abs q)), h.1, both, small))

-- ---- the ways of one cell of the year

module _ (f : Figures) (cap : Budgets) (quarters : List Quarter) (worth : Cell → BestProfit) (z : Cell) where
  abbrev g : Figures
  g = with_most f cap

  abbrev given : Cell → BestProfit
  given e = offer f quarters worth z e

  pub none_seen : (seen : Cell → Type 0) → ((e : Cell) → seen e → ⊥) → Covered f cap quarters worth z seen None
  none_seen seen never = record { above = λ e i w s. absurd (never e s); met = inl refl }

  module _ (seen further : Cell → Type 0) (v : BestProfit) (c : Covered f cap quarters worth z seen v) where
    -- one way more
    pub one_seen : (e : Cell) → InTable g e → Within e.left z.left → ((u : Cell) → InTable g u → further u → (u ≡ e) ⊎ seen u)
        → Covered f cap quarters worth z further (more v (given e))
    one_seen e i w split =
        record {
          above = λ u k l s.
              ⊎_elim (λ (h : u ≡ e). subst (λ (x : Cell). AtMost (given x) (more v (given e))) (sym h) (most-right v (given e)))
              (λ (h : seen u). most-left (given u) v (given e) (c.above u k l h)) (split u k s);
          met =
              ⊎_elim
              (λ (h : more v (given e) ≡ v).
              ⊎_elim (λ (n : v ≡ None). inl (h ∙ n))
              (λ (m : Met f cap quarters worth z v). inr (record { end = m.end; inside = m.inside; within = m.within; is = h ∙ m.is })) c.met)
              (λ (h : more v (given e) ≡ given e). inr (record { end = e; inside = i; within = w; is = h })) (either-more v (given e));
        }

    -- ways that are none, or were seen
    pub none-new : ((u : Cell) → InTable g u → Within u.left z.left → further u → (given u ≡ None) ⊎ seen u)
        → Covered f cap quarters worth z further v
    none-new split =
        record {
          above = λ u k l s.
              ⊎_elim (λ (h : given u ≡ None). subst (λ (x : BestProfit). AtMost x v) (sym h) tt) (λ (h : seen u). c.above u k l h) (split u k l s);
          met = c.met;
        }

  -- ---- all of them

  abbrev box : Cell
  box = box_of cap z

  abbrev ends : Cell → BestProfit
  ends x = worth (raised (over_of cap z) x)

  -- a way's end in the box
  abbrev end_in : Cell → Cell
  end_in e = record { state = e.state; left = less box.left e.left }

  boxed : (e : Cell) → InTable g e → Within e.left z.left → Within e.left box.left
  boxed e i w =
      record {
        starts = omega (arith, i.left.starts, w.starts);
        ons = omega (arith, i.left.ons, w.ons);
        blocks = omega (arith, i.left.blocks, w.blocks);
      }

  same_end : (e : Cell) → Within e.left box.left → raised (over_of cap z) (end_in e) ≡ afterward z e
  same_end e w =
      let x : min z.left.starts cap.starts - e.left.starts + (z.left.starts - min z.left.starts cap.starts) ≡ z.left.starts - e.left.starts =
      omega (arith, w.starts) in
      let y : min z.left.ons cap.ons - e.left.ons + (z.left.ons - min z.left.ons cap.ons) ≡ z.left.ons - e.left.ons =
      omega (arith, w.ons) in
      let b : min z.left.blocks cap.blocks - e.left.blocks + (z.left.blocks - min z.left.blocks cap.blocks) ≡ z.left.blocks - e.left.blocks =
      omega (arith, w.blocks) in
      rw (x, y, b)

  same-spent : (e : Cell) → Within e.left box.left → spent box (end_in e) ≡ spending z e
  same-spent e w =
      let x : min z.left.starts cap.starts - (min z.left.starts cap.starts - e.left.starts) ≡ e.left.starts = omega (arith, w.starts) in
      let y : min z.left.ons cap.ons - (min z.left.ons cap.ons - e.left.ons) ≡ e.left.ons = omega (arith, w.ons) in
      let b : min z.left.blocks cap.blocks - (min z.left.blocks cap.blocks - e.left.blocks) ≡ e.left.blocks = omega (arith, w.blocks) in
      rw (x, y, b)

  end-within : (e : Cell) → Within (end_in e).left box.left
  end-within e = record { starts = omega arith; ons = omega arith; blocks = omega arith }

  module _ (ok : Sound f) where
    -- no way is better than the value
    no_more : (e : Cell) → InTable g e → Within e.left z.left → AtMost (given e) (value_before f cap quarters worth z)
    no_more e i w = by (value_at f (ends_in e.state) quarters (spending z e)) (worth (afterward z e)) refl refl
      where
        in-box : Within e.left box.left
        in-box = boxed e i w

        by : (a b : BestProfit) → value_at f (ends_in e.state) quarters (spending z e) ≡ a → worth (afterward z e) ≡ b
            → AtMost (sum_of a b) (value_before f cap quarters worth z)
        by None b way end = tt
        by (Some p) None way end = tt
        by (Some p) (Some v) way end =
            let l = reaches f ok ends quarters box (end_in e) p v (end-within e)
            (ap (value_at f (ends_in e.state) quarters) (same-spent e in-box) ∙ way) (ap worth (same_end e in-box) ∙ end) in
            subst (AtMost (Some (p +ℤ v))) (sym l.is) l.least

    box-inside : InTable f z → InTable f box
    box-inside i =
        record {
          state = i.state;
          left =
              record {
                starts = omega (arith, i.left.starts);
                ons = omega (arith, i.left.ons);
                blocks = omega (arith, i.left.blocks);
              };
        }

    pub all_seen : (seen : Cell → Type 0) (v : BestProfit) → InTable f z → ((e : Cell) → InTable g e → seen e) → Covered f cap quarters worth z seen v
        → v ≡ value_before f cap quarters worth z
    all_seen seen v i all c = both_ways v (value_before f cap quarters worth z) least most
      where
        least : AtMost v (value_before f cap quarters worth z)
        least =
            ⊎_elim (λ (n : v ≡ None). subst (λ (x : BestProfit). AtMost x (value_before f cap quarters worth z)) (sym n) tt)
            (λ (m : Met f cap quarters worth z v).
            subst (λ (x : BestProfit). AtMost x (value_before f cap quarters worth z)) (sym m.is) (no_more m.end m.inside m.within))
            c.met

        by : (u : BestProfit) → value_before f cap quarters worth z ≡ u → AtMost u v
        by None e = tt
        by (Some u) e =
            let m = meets f ok ends quarters box (box-inside i) u e in
            let end : Cell = record { state = m.at.state; left = less box.left m.at.left } in
            let there : InTable g end =
            record {
              state = m.inside.state;
              left = record { starts = omega arith; ons = omega arith; blocks = omega arith };
            } in
            let within : Within end.left z.left = record { starts = omega arith; ons = omega arith; blocks = omega arith } in
            let place : afterward z end ≡ raised (over_of cap z) m.at = led m.at m.within in
            let sum : given end ≡ Some u = ap₂ sum_of m.way (ap worth place ∙ m.worth) ∙ ap Some m.sum in
            subst (λ (x : BestProfit). AtMost x v) sum (c.above end there within (all end there))
          where
            led : (a : Cell) → Within a.left box.left
                → afterward z (record { state = a.state; left = less box.left a.left }) ≡ raised (over_of cap z) a
            led a w =
                let x : z.left.starts - (min z.left.starts cap.starts - a.left.starts)
                ≡ a.left.starts + (z.left.starts - min z.left.starts cap.starts) = omega (arith, w.starts) in
                let y : z.left.ons - (min z.left.ons cap.ons - a.left.ons) ≡ a.left.ons + (z.left.ons - min z.left.ons cap.ons) =
                omega (arith, w.ons) in
                let b : z.left.blocks - (min z.left.blocks cap.blocks - a.left.blocks)
                ≡ a.left.blocks + (z.left.blocks - min z.left.blocks cap.blocks) = omega (arith, w.blocks) in
                rw (x, y, b)

        most : AtMost (value_before f cap quarters worth z) v
        most = by (value_before f cap quarters worth z) refl

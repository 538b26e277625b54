-- The cells of the year that have just so much above a month's box: entered, rolled and stored.
use mathlib.Core.Path.{◌≡◌, sym, ◌∙◌, subst}
use mathlib.Core.List.{List, []}
use mathlib.Core.Logic.{⊎_elim, inl, inr}
use Prim.Native.Nat.{ℕ, ◌+◌, ◌≤◌, ◌<◌}
use native.Mathlib.Nat.{add-zero}
use native.Mathlib.Omega.{arith}
use lib.IntN.{ℤ, pos}
use lib.ListN.{length, get_or}
use Rattle.commitment.specs.Types.{BestProfit}
use Rattle.commitment.specs.Types.{Hours}
use Rattle.commitment.specs.Bounds.{most_intervals}
use Rattle.optimality.specs.declared.Budgets.{Budgets}
use Rattle.optimality.specs.declared.Cell.{Cell}
use Rattle.optimality.specs.declared.Figures.{Figures}
use Rattle.optimality.specs.Machine.{Quarter}
use Rattle.optimality.specs.Cells.{InTable, with_most, value_at}
use Rattle.optimality.specs.Years.{raised}
use Rattle.optimality.proofs.Turns.{value-end}
use Rattle.optimality.proofs.Within.{with_value}
use Rattle.geometry.specs.Geometry.{width, index}
use Rattle.geometry.specs.Layers.{Holds, LayerAt, LayerBefore, stored_at}
use Rattle.geometry.proofs.Places.{index-lt}
use Rattle.layers.specs.Filling.{quarters_in, between}
use Rattle.months.specs.declared.chains.Month.{Month}
use Rattle.months.specs.declared.chains.Places.{Places}
use Rattle.months.specs.Capping.{box_of, over_of, EnterAsked, Entered, StoreAsked, Stored}
use Rattle.months.specs.Chaining.{BoxAsked, RolledAt, ClassAsked, ClassMade}
use Rattle.months.proofs.Raising.{box-sound, raised-inside}
use Rattle.months.proofs.Storing.{box-inside}

module _ (f : Figures) (prices : List ℤ) (hours : Hours) (m : Month) (at : Places) (above : Budgets) (was : List ℤ)
    (asked : ClassAsked f was prices hours m at above) where
  abbrev cap : Budgets
  cap = m.cap

  abbrev g : Figures
  g = with_most f cap

  abbrev quarters : List Quarter
  quarters = between (quarters_in hours prices) m.from m.to

  pub enter-asked : EnterAsked f cap above (length was) at.after (at.work + width g)
  enter-asked =
      let p = asked.month.placed in
      record {
        fits = asked.fits;
        apart = inr (omega (arith, p.after));
        year = omega (arith, p.after, p.work);
        box = omega (arith, p.work);
      }

  module _ (e : List ℤ) (long : length e ≡ length was) (entered : Entered f cap above was e at.after (at.work + width g)) where
    -- the box's last layer
    ended : (worth : Cell → BestProfit) (n : ℕ) → LayerAt f n worth (stored_at f was at.after)
        → LayerBefore n g (λ x. worth (raised above x)) [] (stored_at g e (at.work + width g))
    ended worth n layer =
        record {
          holds = λ x i.
              rw (value-end g (λ y. worth (raised above y)) x, add-zero n, entered.inside x i)
              (layer.holds (raised above x) (raised-inside f cap above asked.fits x i));
        }

    pub box-asked : BoxAsked g e prices hours m.from m.to at.work
    box-asked =
        let k = asked.month in
        record {
          sound = box-sound f cap above asked.fits;
          fits = omega (arith, k.placed.work, long);
          priced = k.priced;
          clocked = k.clocked;
          short = k.short;
          some = k.some;
          inside = k.inside;
          ends = λ x. k.worth (raised above x);
          ahead = k.ahead;
          few = k.few;
          last = ended k.worth k.ahead k.layer;
        }

    module _ (r : List ℤ) (same : length r ≡ length e) (rolled : RolledAt g quarters e r at.work) where
      pub store-asked : StoreAsked f cap above (length r) at.work at.here
      store-asked =
          let p = asked.month.placed in
          record {
            fits = asked.fits;
            apart = inl p.here;
            year = omega (arith, p.here, p.work, same, long);
            box = omega (arith, p.work, same, long);
          }

      module _ (now : List ℤ) (kept : length now ≡ length r) (stored : Stored f cap above r now at.work at.here) where
        -- before the month's own layers entering and rolling change nothing
        before-work : (j : ℕ) → j < at.work → get_or r j (pos 0) ≡ get_or was j (pos 0)
        before-work j h = rolled.apart j (inl h) ∙ entered.apart j (inl (omega arith))

        value : (worth : Cell → BestProfit) (n : ℕ) → n + length quarters ≤ most_intervals → LayerAt f n worth (stored_at f was at.after)
            → (z : Cell) → InTable f z → over_of cap z ≡ above
            → Holds (n + length quarters) (value_at f (λ x. worth (raised (over_of cap z) x)) quarters (box_of cap z)) (stored_at f now at.here z)
        value worth n few layer z i over =
            let box = (rolled.rolled (λ x. worth (raised above x)) n few (ended worth n layer)).holds (box_of cap z)
            (box-inside f cap above asked.fits z i) in
            let here = rw (with_value f cap (λ x. worth (raised above x)) quarters (box_of cap z)) at box in
            subst (λ (b : Budgets). Holds (n + length quarters) (value_at f (λ x. worth (raised b x)) quarters (box_of cap z)) (stored_at f now at.here z))
            (sym over)
            (subst (λ (v : ℤ). Holds (n + length quarters) (value_at f (λ x. worth (raised above x)) quarters (box_of cap z)) v)
            (sym (stored.inside z i over)) here)

        pub class-made : ClassMade f quarters m at above was now
        class-made =
            let p = asked.month.placed in
            record {
              made = value;
              others = λ z i over. stored.others z i over ∙ before-work (at.here + index f z) (omega (arith, index-lt f z i, p.here));
              elsewhere = λ j out away.
                  stored.apart j out ∙ rolled.apart j away
                  ∙ entered.apart j
                  (⊎_elim (λ (h : j < at.work). inl (omega arith)) (λ (h : at.work + (width g + width g) ≤ j). inr (omega arith)) away);
              same = kept ∙ same ∙ long;
            }

-- The states at a month's end one after the other: the month rolled to each, its ways taken; after the last of them the layer holds the values.
use Rattle.std.specs.Prelude.{None}
use mathlib.Core.Path.{◌≡◌, refl, sym, ◌∙◌, subst}
use mathlib.Core.List.{List, []}
use mathlib.Core.Logic.{⊎_elim, inl, inr}
use Prim.Native.Nat.{ℕ, ◌+◌, ◌≤◌, ◌<◌}
use native.Mathlib.Nat.{zero-add}
use native.Mathlib.Omega.{arith}
use lib.IntN.{ℤ, pos}
use lib.ListN.{length, get_or}
use Rattle.commitment.specs.Types.{BestProfit}
use Rattle.commitment.specs.Types.{Hours}
use Rattle.commitment.specs.Bounds.{most_intervals}
use Rattle.commitment.specs.Windows.{opens}
use Rattle.optimality.specs.declared.Budgets.{Budgets}
use Rattle.optimality.specs.declared.Cell.{Cell}
use Rattle.optimality.specs.declared.Figures.{Figures}
use Rattle.optimality.specs.Machine.{Quarter}
use Rattle.optimality.specs.Cells.{Sound, InTable, states, with_most, value_at}
use Rattle.optimality.proofs.Quarters.{quarters-length}
use Rattle.optimality.proofs.Within.{with-sound}
use Rattle.geometry.specs.Geometry.{width, index}
use Rattle.geometry.specs.Layers.{infeasible, Holds, Layer, LayerAt, stored_at}
use Rattle.geometry.proofs.Holding.{holds-none}
use Rattle.geometry.proofs.Places.{index-lt}
use Rattle.intervals.specs.Stretches.{Apart}
use Rattle.intervals.proofs.Stretches.{last-or-before, put_in, put-inside, put-apart}
use Rattle.layers.specs.Filling.{quarters_in, between}
use Rattle.layers.proofs.Between.{between-length}
use Rattle.marks.specs.Standing.{ends_in}
use Rattle.months.specs.declared.chains.Month.{Month}
use Rattle.months.specs.declared.chains.Places.{Places}
use Rattle.months.specs.Chaining.{BoxAsked, RolledAt, MonthAsked, MonthMade}
use Rattle.months.specs.Ending.{spending, Best, SeenBy, WaysAsked, WaysTaken, EndAsked, EndsTaken}
use Rattle.months.proofs.Bringing.{beside}
use Rattle.months.proofs.Covering.{none_seen, none-new, all_seen}

-- a layer whose numbers are as they were
kept : (f : Figures) (n : ℕ) (v : Cell → BestProfit) (was now : List ℤ) (at : ℕ)
    → ((i : ℕ) → i < width f → get_or now (at + i) (pos 0) ≡ get_or was (at + i) (pos 0)) → LayerAt f n v (stored_at f was at) → LayerAt f n v (stored_at f now at)
kept f n v was now at same layer =
    record { holds = λ z i. subst (Holds n (v z)) (sym (same (index f z) (index-lt f z i))) (layer.holds z i) }

-- ---- one state

module _ (f : Figures) (prices : List ℤ) (hours : Hours) (m : Month) (at : Places) (t : ℕ) (was : List ℤ)
    (asked : EndAsked f was prices hours m at t) where
  abbrev cap : Budgets
  cap = m.cap

  abbrev g : Figures
  g = with_most f cap

  abbrev quarters : List Quarter
  quarters = between (quarters_in hours prices) m.from m.to

  pub month-sound : Sound g
  month-sound = with-sound f cap asked.month.cap asked.month.sound

  quarters-few : length quarters ≤ most_intervals
  quarters-few =
      let k = asked.month in
      omega (
        arith,
        between-length (quarters_in hours prices) m.from m.to (omega (arith, k.some))
            (omega (arith, quarters-length (opens hours) 0 prices, k.inside)),
        k.few,
      )

  module _ (e : List ℤ) (long : length e ≡ length was) (put : Layer g (ends_in t) [] (stored_at g e (at.work + width g)))
      (put-out : Apart was e (at.work + width g) (width g)) where
    pub roll-asked : BoxAsked g e prices hours m.from m.to at.work
    roll-asked =
        let k = asked.month in
        record {
          sound = month-sound;
          fits = omega (arith, k.placed.work, long);
          priced = k.priced;
          clocked = k.clocked;
          short = k.short;
          some = k.some;
          inside = k.inside;
          ends = ends_in t;
          ahead = 0;
          few = omega (arith, k.few);
          last = put;
        }

    module _ (r : List ℤ) (same : length r ≡ length e) (rolled : RolledAt g quarters e r at.work) where
      -- the year's layers stand before the month's own
      before-work : (j : ℕ) → j < at.work → get_or r j (pos 0) ≡ get_or was j (pos 0)
      before-work j h = rolled.apart j (inl h) ∙ put-out j (inl (omega arith))

      after_kept : (worth : Cell → BestProfit) (n : ℕ) → LayerAt f n worth (stored_at f was at.after) → LayerAt f n worth (stored_at f r at.after)
      after_kept worth n layer =
          kept f n worth was r at.after (λ i h. before-work (at.after + i) (omega (arith, asked.month.placed.after))) layer

      ways : LayerAt g (length quarters) (value_at g (ends_in t) quarters) (stored_at g r at.work)
      ways =
          subst (λ (n : ℕ). LayerAt g n (value_at g (ends_in t) quarters) (stored_at g r at.work)) (zero-add (length quarters))
          (rolled.rolled (ends_in t) 0 (omega (arith, quarters-few)) put)

      pub take-all-asked : WaysAsked f cap r at t
      take-all-asked =
          let k = asked.month in
          record {
            sound = k.sound;
            fits = k.cap;
            placed = record { apart = k.placed.apart; here = k.placed.here; after = k.placed.after; work = omega (arith, k.placed.work, same, long) };
            end = asked.end;
            ways = value_at g (ends_in t) quarters;
            long = length quarters;
            long-few = quarters-few;
            rolled = ways;
            worth = k.worth;
            ahead = k.ahead;
            few = omega (arith, k.few);
            layer = after_kept k.worth k.ahead k.layer;
          }

      module _ (now : List ℤ) (taken : WaysTaken f cap at t (width g) r now) where
        -- all ways to the state were seen
        state-seen : (z : Cell) → InTable f z → (u : Cell) → InTable g u → SeenBy f cap (t + 1) 0 z u → SeenBy f cap t (width g) z u
        state-seen z i u k seen =
            ⊎_elim
            (λ (l : u.state < t + 1).
            ⊎_elim (λ (e : u.state ≡ t). inr (e, index-lt g (spending z u) (record { state = i.state; left = k.left }))) (λ (b : u.state < t). inl b)
            (last-or-before u.state t l))
            (λ (s : (u.state ≡ t + 1) × (index g (spending z u) < 0)). absurd (omega (arith, s.1))) seen

        pub end-taken : EndsTaken f quarters m at t (t + 1) was now
        end-taken =
            record {
              best = λ worth n few layer z i b.
                  let here : stored_at f r at.here z ≡ stored_at f was at.here z =
                  before-work (at.here + index f z) (omega (arith, index-lt f z i, asked.month.placed.here)) in
                  let d = taken.best quarters worth n few ways (after_kept worth n layer) z i
                  (subst (Best f cap quarters worth z (SeenBy f cap t 0 z) (n + length quarters)) (sym here) b) in
                  record {
                    value = d.value;
                    covered =
                        none-new f cap quarters worth z (SeenBy f cap t (width g) z) (SeenBy f cap (t + 1) 0 z) d.value d.covered
                        (λ u k w seen. inr (state-seen z i u k seen));
                    holds = d.holds;
                  };
              elsewhere = λ j out away.
                  taken.apart j out ∙ rolled.apart j away
                  ∙ put-out j
                  (⊎_elim (λ (l : j < at.work). inl (omega arith)) (λ (l : at.work + (width g + width g) ≤ j). inr (omega arith)) away);
              same = taken.same ∙ same ∙ long;
            }

-- ---- all of them

module _ (f : Figures) (prices : List ℤ) (hours : Hours) (m : Month) (at : Places) (was : List ℤ) (asked : MonthAsked f was prices hours m at) where
  abbrev month : List Quarter
  month = between (quarters_in hours prices) m.from m.to

  pub no-round : EndsTaken f month m at 0 0 was was
  no-round = record { best = λ worth n few layer z i b. b; elsewhere = λ j out away. refl; same = refl }

  -- a year's layer at the month's end that is as it was
  asked-again : (cells : List ℤ) → length cells ≡ length was → ((i : ℕ) → i < width f → get_or cells (at.after + i) (pos 0) ≡ get_or was (at.after + i) (pos 0))
      → MonthAsked f cells prices hours m at
  asked-again cells long same =
      let q = asked.placed in
      record {
        sound = asked.sound;
        cap = asked.cap;
        placed = record { apart = q.apart; here = q.here; after = q.after; work = omega (arith, q.work, long) };
        priced = asked.priced;
        clocked = asked.clocked;
        short = asked.short;
        some = asked.some;
        inside = asked.inside;
        worth = asked.worth;
        ahead = asked.ahead;
        few = asked.few;
        layer = kept f asked.ahead asked.worth was cells at.after same asked.layer;
      }

  module _ (cells : List ℤ) (t : ℕ) (p : EndsTaken f month m at 0 t was cells) where
    unmoved : (i : ℕ) → i < width f → get_or cells (at.after + i) (pos 0) ≡ get_or was (at.after + i) (pos 0)
    unmoved i h = p.elsewhere (at.after + i) (beside at.here at.after (width f) i asked.placed.apart h) (inl (omega (arith, asked.placed.after)))

    pub round-asked : t < states f → EndAsked f cells prices hours m at t
    round-asked h = record { month = asked-again cells p.same unmoved; end = h }

    pub round-next : (now : List ℤ) → EndsTaken f month m at t (t + 1) cells now → EndsTaken f month m at 0 (t + 1) was now
    round-next now e =
        record {
          best = λ worth n few layer z i b. e.best worth n few (kept f n worth was cells at.after unmoved layer) z i (p.best worth n few layer z i b);
          elsewhere = λ j out away. e.elsewhere j out away ∙ p.elsewhere j out away;
          same = e.same ∙ p.same;
        }

  -- ---- from a layer without a schedule

  pub layer_fits : at.here + width f ≤ length was
  layer_fits = let p = asked.placed in omega (arith, p.here, p.work)

  abbrev empty : List ℤ
  empty = put_in was at.here (width f) infeasible

  module _ (long : length empty ≡ length was) where
    after-empty : (i : ℕ) → i < width f → get_or empty (at.after + i) (pos 0) ≡ get_or was (at.after + i) (pos 0)
    after-empty i h = put-apart was at.here (width f) infeasible layer_fits (at.after + i) (beside at.here at.after (width f) i asked.placed.apart h)

    pub rounds-asked : MonthAsked f empty prices hours m at
    rounds-asked = asked-again empty long after-empty

    none_yet : (worth : Cell → BestProfit) (n : ℕ) → n + length month ≤ most_intervals → (z : Cell) → InTable f z
        → Best f m.cap month worth z (SeenBy f m.cap 0 0 z) (n + length month) (stored_at f empty at.here z)
    none_yet worth n few z i =
        record {
          value = None;
          covered =
              none_seen f m.cap month worth z (SeenBy f m.cap 0 0 z)
              (λ e seen.
              ⊎_elim (λ (l : e.state < 0). omega (arith, l))
              (λ (l : (e.state ≡ 0) × (index (with_most f m.cap) (spending z e) < 0)). omega (arith, l.1)) seen);
          holds = rw (put-inside was at.here (width f) infeasible layer_fits (index f z) (index-lt f z i)) (holds-none (n + length month) few);
        }

    pub rounds-made : (now : List ℤ) → EndsTaken f month m at 0 (states f) empty now → MonthMade f month m at was now
    rounds-made now p =
        record {
          made = λ worth n few layer.
              record {
                holds = λ z i.
                    let b = p.best worth n few (kept f n worth was empty at.after after-empty layer) z i (none_yet worth n few z i) in
                    let e = all_seen f m.cap month worth z asked.sound (SeenBy f m.cap (states f) 0 z) b.value i (λ u k. inl k.state) b.covered in
                    subst (λ (v : BestProfit). Holds (n + length month) v (stored_at f now at.here z)) e b.holds;
              };
          elsewhere = λ j out away. p.elsewhere j out away ∙ put-apart was at.here (width f) infeasible layer_fits j out;
        }

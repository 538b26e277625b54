-- The ways of the month's own layer taken one after the other: with each the best of the ways seen grows, in every cell of the year.
use Rattle.std.specs.Prelude.{None, Some}
use mathlib.Core.Path.{◌≡◌, refl, sym, ap, ap₂, ◌∙◌, subst}
use mathlib.Core.Bool.{Bool, true, false}
use mathlib.Core.List.{List}
use mathlib.Core.Logic.{◌⊎◌, ⊎_elim, inl, inr}
use Prim.Native.Nat.{ℕ, ◌+◌, ◌*◌, ◌^◌, ◌≤◌, ◌<◌}
use native.Mathlib.Omega.{arith}
use borrow.Author.Tests.{eqb-true, eqb-false, leb-true, leb-false}
use lib.Dec.{eqb, leb}
use lib.IntN.{ℤ, pos, nat_abs, ◌+ℤ◌}
use lib.ListN.{length, get_or}
use Rattle.commitment.specs.Types.{BestProfit}
use Rattle.commitment.specs.Bounds.{most_intervals}
use Rattle.optimality.specs.declared.Budgets.{Budgets}
use Rattle.optimality.specs.declared.Cell.{Cell}
use Rattle.optimality.specs.declared.Figures.{Figures}
use Rattle.optimality.specs.Machine.{Quarter, more, plus}
use Rattle.optimality.specs.Cells.{Sound, Within, InTable, cell, with_most, value_at}
use Rattle.optimality.proofs.Within.{within-within, with-sound, with_value}
use Rattle.geometry.specs.Geometry.{width, index, cell_of}
use Rattle.geometry.specs.Layers.{swing, told, Holds, LayerAt, stored_at}
use Rattle.geometry.proofs.Holding.{holds_more, holds-small}
use Rattle.geometry.proofs.Places.{index-lt, cell-there}
use Rattle.geometry.proofs.Telling.{told_is}
use Rattle.intervals.proofs.Stretches.{last-or-before}
use Rattle.marks.specs.Standing.{ends_in}
use Rattle.months.specs.declared.chains.Places.{Places}
use Rattle.months.specs.Ending.{spending, afterward, sum_of, offer, Brought, InSection, Best, SeenBy}
use Rattle.months.specs.Ending.{way_of, TakeAsked, Taken, WaysAsked, WaysTaken}
use Rattle.months.proofs.Raising.{numbered-there}
use Rattle.months.proofs.Bringing.{beside, afterward-inside}
use Rattle.months.proofs.Covering.{offers-sum, one_seen, none-new}

-- ---- what a way is asked with

module _ (f : Figures) (cap : Budgets) (at : Places) (t : ℕ) (was : List ℤ) (asked : WaysAsked f cap was at t) where
  abbrev g : Figures
  g = with_most f cap

  pub box-sound : Sound g
  box-sound = with-sound f cap asked.fits asked.sound

  small : (i : ℕ) → i < width f → nat_abs (get_or was (at.after + i) (pos 0)) ≤ 2 ^ 62
  small i h =
      let n = numbered-there f i h in
      let s = holds-small asked.ahead (asked.worth (cell_of f i)) (stored_at f was at.after (cell_of f i)) asked.few (asked.layer.holds (cell_of f i) n.0) in
      subst (λ (j : ℕ). nat_abs (get_or was (at.after + j) (pos 0)) ≤ 2 ^ 62) n.1 s

  module _ (j : ℕ) (h : j < width g) where
    abbrev from : Cell
    from = cell_of g j

    from-inside : InTable f from
    from-inside = let i = (numbered-there g j h).0 in record { state = i.state; left = within-within i.left asked.fits }

    -- what stands there
    stands : Holds asked.long (asked.ways from) (get_or was (at.work + j) (pos 0))
    stands =
        let n = numbered-there g j h in
        subst (λ (i : ℕ). Holds asked.long (asked.ways from) (get_or was (at.work + i) (pos 0))) n.1 (asked.rolled.holds from n.0)

    pub take-asked : TakeAsked f was at from t (told (get_or was (at.work + j) (pos 0)))
    take-asked gain e =
        let p = asked.placed in
        let v = told_is asked.long (asked.ways from) (get_or was (at.work + j) (pos 0)) asked.long-few stands in
        let k = subst (λ (x : BestProfit). Holds asked.long x (get_or was (at.work + j) (pos 0))) (sym v ∙ e) stands in
        record {
          sound = asked.sound;
          inside = from-inside;
          end = asked.end;
          apart = p.apart;
          here = omega (arith, p.here, p.work);
          after = omega (arith, p.after, p.work);
          small = small;
          gains = omega (arith, k.1, asked.long-few);
        }

  -- ---- one way more

  module _ (j : ℕ) (cells : List ℤ) (p : WaysTaken f cap at t j was cells) where
    -- what is read is as it was
    work-same : (i : ℕ) → i < width g → get_or cells (at.work + i) (pos 0) ≡ get_or was (at.work + i) (pos 0)
    work-same i h = p.apart (at.work + i) (inr (omega (arith, asked.placed.here)))

    after_same : (i : ℕ) → i < width f → get_or cells (at.after + i) (pos 0) ≡ get_or was (at.after + i) (pos 0)
    after_same i h =
        p.apart (at.after + i) (beside at.here at.after (width f) i asked.placed.apart h)

    pub ways-asked : WaysAsked f cap cells at t
    ways-asked =
        let q = asked.placed in
        record {
          sound = asked.sound;
          fits = asked.fits;
          placed = record { apart = q.apart; here = q.here; after = q.after; work = omega (arith, q.work, p.same) };
          end = asked.end;
          ways = asked.ways;
          long = asked.long;
          long-few = asked.long-few;
          rolled =
              record {
                holds = λ x i. subst (Holds asked.long (asked.ways x)) (sym (work-same (index g x) (index-lt g x i))) (asked.rolled.holds x i);
              };
          worth = asked.worth;
          ahead = asked.ahead;
          few = asked.few;
          layer =
              record {
                holds = λ z i. subst (Holds asked.ahead (asked.worth z)) (sym (after_same (index f z) (index-lt f z i))) (asked.layer.holds z i);
              };
        }

    module _ (h : j < width g) (now : List ℤ) (taken : Taken f at (cell_of g j) t (told (get_or cells (at.work + j) (pos 0))) cells now)
        (quarters : List Quarter) (worth : Cell → BestProfit) (n : ℕ) (few : n + length quarters ≤ most_intervals)
        (rolled : LayerAt g (length quarters) (value_at g (ends_in t) quarters) (stored_at g was at.work))
        (layer : LayerAt f n worth (stored_at f was at.after)) (z : Cell) (inside : InTable f z)
        (b : Best f cap quarters worth z (SeenBy f cap t j z) (n + length quarters) (stored_at f cells at.here z)) where
      abbrev spends : Cell
      spends = cell_of g j

      abbrev Next : Type 0
      Next = Best f cap quarters worth z (SeenBy f cap t (j + 1) z) (n + length quarters) (stored_at f now at.here z)

      -- the way of the place
      number : Holds (length quarters) (value_at f (ends_in t) quarters spends) (get_or cells (at.work + j) (pos 0))
      number =
          let k = numbered-there g j h in
          let there : get_or was (at.work + index g spends) (pos 0) ≡ get_or cells (at.work + j) (pos 0) =
          ap (λ (i : ℕ). get_or was (at.work + i) (pos 0)) k.1 ∙ sym (work-same j h) in
          rw (with_value f cap (ends_in t) quarters spends)
          at (subst (Holds (length quarters) (value_at g (ends_in t) quarters spends)) there (rolled.holds spends k.0))

      way-is : told (get_or cells (at.work + j) (pos 0)) ≡ value_at f (ends_in t) quarters spends
      way-is = told_is (length quarters) (value_at f (ends_in t) quarters spends) (get_or cells (at.work + j) (pos 0)) (omega arith) number

      -- a way that is new is that of the place
      is-new : (u : Cell) → InTable g u → SeenBy f cap t (j + 1) z u → ((u.state ≡ t) × (spending z u ≡ spends)) ⊎ SeenBy f cap t j z u
      is-new u i seen =
          ⊎_elim (λ (l : u.state < t). inr (inl l))
          (λ (s : (u.state ≡ t) × (index g (spending z u) < j + 1)).
          ⊎_elim
          (λ (e : index g (spending z u) ≡ j).
          inl
          (s.0, sym (cell-there g (spending z u) (record { state = inside.state; left = i.left })) ∙ ap (cell_of g) e))
          (λ (l : index g (spending z u) < j). inr (inr (s.0, l))) (last-or-before (index g (spending z u)) j s.1))
          seen

      without : told (get_or cells (at.work + j) (pos 0)) ≡ None → Next
      without e =
          record {
            value = b.value;
            covered =
                none-new f cap quarters worth z (SeenBy f cap t j z) (SeenBy f cap t (j + 1) z) b.value b.covered
                (λ u i w seen.
                ⊎_elim
                (λ (k : (u.state ≡ t) × (spending z u ≡ spends)).
                inl
                (ap₂ (λ (s : ℕ) (x : Cell). sum_of (value_at f (ends_in s) quarters x) (worth (afterward z u))) k.0 k.1
                ∙ ap (λ (v : BestProfit). sum_of v (worth (afterward z u))) (sym way-is ∙ e)))
                (λ (k : SeenBy f cap t j z u). inr k) (is-new u i seen));
            holds =
                subst (λ (l : List ℤ). Holds (n + length quarters) b.value (stored_at f l at.here z)) (sym (taken.none e)) b.holds;
          }

      module _ (gain : ℤ) (e : told (get_or cells (at.work + j) (pos 0)) ≡ Some gain) where
        abbrev brought : Brought f at (way_of spends t gain) (InSection (way_of spends t gain) (f.most.starts + 1)) cells now
        brought = taken.some gain e

        abbrev end : Cell
        end = record { state = t; left = spends.left }

        earned : nat_abs gain ≤ length quarters * swing
        earned = (subst (λ (v : BestProfit). Holds (length quarters) v (get_or cells (at.work + j) (pos 0))) (sym way-is ∙ e) number).1

        -- from a cell that has as much left
        module _ (own : InSection (way_of spends t gain) (f.most.starts + 1) z) where
          offered-is : offer f quarters worth z end ≡ plus gain (worth (afterward z end))
          offered-is =
              let same : spending z end ≡ spends = ap (λ (s : ℕ). cell s spends.left.starts spends.left.ons spends.left.blocks) own.state in
              ap (λ (x : Cell). sum_of (value_at f (ends_in t) quarters x) (worth (afterward z end))) same
              ∙ ap (λ (v : BestProfit). sum_of v (worth (afterward z end))) (sym way-is ∙ e)

          led-inside : InTable f (afterward z end)
          led-inside = afterward-inside f z end inside asked.end

          later : Holds n (worth (afterward z end)) (stored_at f cells at.after (afterward z end))
          later =
              subst (Holds n (worth (afterward z end))) (sym (after_same (index f (afterward z end)) (index-lt f (afterward z end) led-inside)))
              (layer.holds (afterward z end) led-inside)

          with_it : Next
          with_it =
              record {
                value = more b.value (offer f quarters worth z end);
                covered =
                    one_seen f cap quarters worth z (SeenBy f cap t j z) (SeenBy f cap t (j + 1) z) b.value b.covered end
                    (record { state = asked.end; left = (numbered-there g j h).0.left }) own.within
                    (λ u i seen.
                    ⊎_elim (λ (k : (u.state ≡ t) × (spending z u ≡ spends)). inl (is-end u k.0 k.1)) (λ (k : SeenBy f cap t j z u). inr k)
                    (is-new u i seen));
                holds =
                    rw (brought.raised z inside own, offered-is)
                    (holds_more (n + length quarters) b.value (plus gain (worth (afterward z end))) (stored_at f cells at.here z)
                    (stored_at f cells at.after (afterward z end) +ℤ gain) few b.holds
                    (offers-sum (length quarters) n gain (worth (afterward z end)) (stored_at f cells at.after (afterward z end)) few earned later));
              }
            where
              is-end : (u : Cell) → u.state ≡ t → spending z u ≡ spends → u ≡ end
              is-end u s k = ap₂ (λ (s : ℕ) (c : Cell). record { state = s; left = c.left }) s k

        -- from one that has not
        without-it : (InSection (way_of spends t gain) (f.most.starts + 1) z → ⊥) → Next
        without-it none =
            record {
              value = b.value;
              covered =
                  none-new f cap quarters worth z (SeenBy f cap t j z) (SeenBy f cap t (j + 1) z) b.value b.covered
                  (λ u i w seen.
                  ⊎_elim
                  (λ (k : (u.state ≡ t) × (spending z u ≡ spends)).
                  absurd
                  (none
                  (record {
                    state = ap (λ (c : Cell). c.state) k.1;
                    within = subst (λ (c : Cell). Within c.left z.left) k.1 w;
                    before = omega (arith, inside.left.starts);
                  })))
                  (λ (k : SeenBy f cap t j z u). inr k) (is-new u i seen));
              holds = rw (brought.others z inside none) b.holds;
            }

        -- which of the two
        decided : Next
        decided = by (eqb z.state spends.state) refl (leb spends.left.starts z.left.starts) refl (leb spends.left.ons z.left.ons) refl
            (leb spends.left.blocks z.left.blocks) refl
          where
            by : (a : Bool) → eqb z.state spends.state ≡ a → (b : Bool) → leb spends.left.starts z.left.starts ≡ b → (c : Bool)
                → leb spends.left.ons z.left.ons ≡ c → (d : Bool) → leb spends.left.blocks z.left.blocks ≡ d → Next
            by true i true k true l true m =
                with_it
                (record {
                  state = eqb-true z.state spends.state i;
                  within =
                      record {
                        starts = leb-true spends.left.starts z.left.starts k;
                        ons = leb-true spends.left.ons z.left.ons l;
                        blocks = leb-true spends.left.blocks z.left.blocks m;
                      };
                  before = omega (arith, inside.left.starts);
                })
            by false i b k c l d m = without-it (λ own. eqb-false z.state spends.state i own.state)
            by true i false k c l d m = without-it (λ own. omega (arith, leb-false spends.left.starts z.left.starts k, own.within.starts))
            by true i true k false l d m = without-it (λ own. omega (arith, leb-false spends.left.ons z.left.ons l, own.within.ons))
            by true i true k true l false m =
                without-it (λ own. omega (arith, leb-false spends.left.blocks z.left.blocks m, own.within.blocks))

      next-best : Next
      next-best = by (told (get_or cells (at.work + j) (pos 0))) refl
        where
          by : (v : BestProfit) → told (get_or cells (at.work + j) (pos 0)) ≡ v → Next
          by None e = without e
          by (Some gain) e = decided gain e

    pub way-taken : j < width g → (now : List ℤ) → length now ≡ length cells
        → Taken f at (cell_of g j) t (told (get_or cells (at.work + j) (pos 0))) cells now → WaysTaken f cap at t (j + 1) was now
    way-taken h now same taken =
        record {
          best = λ quarters worth n few rolled layer z i b.
              next-best h now taken quarters worth n few rolled layer z i (p.best quarters worth n few rolled layer z i b);
          apart = λ k out. unmoved k out (told (get_or cells (at.work + j) (pos 0))) refl ∙ p.apart k out;
          same = same ∙ p.same;
        }
      where
        unmoved : (k : ℕ) → (k < at.here) ⊎ (at.here + width f ≤ k) → (v : BestProfit) → told (get_or cells (at.work + j) (pos 0)) ≡ v
            → get_or now k (pos 0) ≡ get_or cells k (pos 0)
        unmoved k out None e = ap (λ (l : List ℤ). get_or l k (pos 0)) (taken.none e)
        unmoved k out (Some gain) e = (taken.some gain e).apart k out

  pub no-way-taken : WaysTaken f cap at t 0 was was
  no-way-taken = record { best = λ quarters worth n few rolled layer z i b. b; apart = λ k out. refl; same = refl }

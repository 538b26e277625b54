-- From interval to interval: a cell stands where the cell stands that its plan's first output leads to.
use Rattle.std.specs.Prelude.{None}
use mathlib.Core.Path.{◌≡◌, refl, sym, ap, ◌∙◌, subst}
use mathlib.Core.List.{List, [], ◌∷◌, ◌++◌}
use mathlib.Core.Logic.{inl, inr}
use Prim.Native.Nat.{ℕ, suc, ◌+◌, ◌*◌, ◌≤◌, ◌<◌}
use native.Mathlib.Nat.{add-zero}
use native.Mathlib.Omega.{arith}
use lib.IntN.{ℤ, pos, nat_abs, ◌+ℤ◌, +ℤ_idl}
use lib.ListN.{length}
use lib.Signed.{◌≤ℤ◌}
use Rattle.integers.proofs.Linear.{zarith, zsum}
use Rattle.commitment.specs.Types.{BestProfit}
use Rattle.commitment.specs.Bounds.{most_price, most_intervals}
use Rattle.commitment.specs.Best.{Plan, nothing, plan, profit_of}
use Rattle.optimality.specs.declared.Cell.{Cell}
use Rattle.optimality.specs.declared.Figures.{Figures}
use Rattle.optimality.specs.Machine.{Quarter, Step, earning, then, in_quarter, walk, after}
use Rattle.optimality.specs.Cells.{Sound, InTable, off_cell, cell_step, plan_at, value_at}
use Rattle.optimality.proofs.Turns.{plan-value, off-in-table}
use Rattle.geometry.specs.Geometry.{section, width, index}
use Rattle.geometry.specs.Layers.{infeasible, LayerAt}
use Rattle.geometry.proofs.Holding.{holds-small}
use Rattle.geometry.proofs.Places.{in-section, index-lt}
use Rattle.intervals.specs.Turns.{off_stored}
use Rattle.layers.proofs.Filling.{layer-earlier}
use Rattle.table.specs.Reading.{chosen, next_cell}
use Rattle.table.proofs.Choosing.{Chosen}
use Rattle.table.proofs.Plans.{read-layers, one_more}
use Rattle.marks.specs.Lines.{value_of, mark_of, Over}
use Rattle.marks.specs.Turning.{Turn}
use Rattle.marks.specs.declared.Step as steps
use Rattle.marks.specs.Passing.{Columns, Before, OwnNumbers}
use Rattle.marks.specs.Standing.{Stands, MarkedAt, Swept, Numbered}
use Rattle.marks.proofs.Pieces.{off-floored, small-floored}
use Rattle.marks.proofs.Meaning.{turn-value, turn-mark}

module _ (f : Figures) (ends : Cell → BestProfit) (later : List Quarter) where
  -- before any interval a plan stands where it begins
  pub stands_here : (c : Cell) → InTable f c → (value_at f ends later c ≡ None → ⊥) → Stands f ends [] later c c
  stands_here c i some = by (plan_at f ends later c) refl
    where
      by : (p : Plan) → plan_at f ends later c ≡ p → Stands f ends [] later c c
      by nothing e = absurd (some (sym (plan-value f ends later c) ∙ ap profit_of e))
      by (plan s p) e =
          record {
            inside = i;
            outputs = [];
            earned = pos 0;
            leads = refl;
            rest = s;
            profit = p;
            goes_on = e;
            whole = e ∙ ap (plan s) (sym (+ℤ_idl p));
          }

  pub stands-next : (q : Quarter) (front : List Quarter) (c : Cell) (k : ℕ) (at : Cell) → Chosen f ends q (front ++ later) c k
      → Stands f ends front later (next_cell f c k) at → Stands f ends (q ∷ front) later c at
  stands-next q front c k at choice s =
      record {
        inside = s.inside;
        outputs = (k * f.block) ∷ s.outputs;
        earned = choice.earns +ℤ s.earned;
        leads =
            ap (λ (t : Step Cell). then t (λ y. walk Cell Quarter (in_quarter (cell_step f)) front y s.outputs)) choice.steps
            ∙ ap (earning choice.earns) s.leads;
        rest = s.rest;
        profit = s.profit;
        goes_on = s.goes_on;
        whole = choice.is ∙ ap (after (k * f.block) choice.earns) s.whole ∙ ap (plan ((k * f.block) ∷ (s.outputs ++ s.rest))) sum;
      }
    where
      sum : choice.earns +ℤ (s.earned +ℤ s.profit) ≡ choice.earns +ℤ s.earned +ℤ s.profit
      sum =
          omega (
            zarith,
            zsum s.earned s.profit,
            zsum choice.earns (s.earned +ℤ s.profit),
            zsum choice.earns s.earned,
            zsum (choice.earns +ℤ s.earned) s.profit,
          )

  -- ---- a layer, one interval earlier

  module _ (ok : Sound f) (q : Quarter) (priced : nat_abs q.price ≤ most_price) (front : List Quarter) (n : ℕ) (few : n < most_intervals) (w : ℕ)
      (was now : List ℤ) (given : Cell → ℤ) (m : MarkedAt f n ends front later given (value_of f w was) (mark_of f w was))
      (turned : Columns f q w was now 0 (section f)) where
    turn : (c : Cell) → InTable f c → Turn f q (value_of f w was) (mark_of f w was) c (value_of f w now c) (mark_of f w now c)
    turn c i =
        turned.done c i (omega arith)
        (in-section f c.left.starts c.left.ons c.left.blocks i.left.starts i.left.ons i.left.blocks)

    floor : (c : Cell) → InTable f c → infeasible ≤ℤ off_stored f (value_of f w was) c
    floor c i =
        off-floored f (value_of f w was) c
        (λ g.
        let h = off-in-table f c i g in
        small-floored (value_of f w was (off_cell f c))
        (holds-small n (value_at f ends (front ++ later) (off_cell f c)) (value_of f w was (off_cell f c)) (omega (arith, few))
        (m.layer.holds (off_cell f c) h)))

    earlier : LayerAt f (suc n) (value_at f ends (q ∷ (front ++ later))) (value_of f w now)
    earlier =
        layer-earlier f ok ends q priced (front ++ later) n few (value_of f w was) (value_of f w now) m.layer
        (λ c i. turn-value f ok q (value_of f w was) (mark_of f w was) c (turn c i) (floor c i))

    pub marked_next : MarkedAt f (suc n) ends (q ∷ front) later given (value_of f w now) (mark_of f w now)
    marked_next =
        record {
          layer = earlier;
          marks = λ c i some.
              let r = read-layers f ends q (front ++ later) (value_of f w now) (value_of f w was) c ok priced n few earlier m.layer i some in
              let choice = r.choice in
              let k = chosen f (value_of f w was) c q.price (value_of f w now c) in
              let mark = turn-mark f ok q (value_of f w was) (mark_of f w was) c (turn c i) (floor c i) choice.inside in
              let one = one_more f ends q (front ++ later) c (next_cell f c k) (k * f.block) choice.earns choice.is some in
              let next = m.marks (next_cell f c k) choice.inside one.1 in
              record { at = next.at; stands = stands-next q front c k next.at choice next.stands; is = mark ∙ next.is };
        }

-- ---- several intervals

module _ (f : Figures) (w : ℕ) where
  pub swept_none : (was : List ℤ) → Swept f w was was []
  swept_none was =
      record {
        same = refl;
        beyond = λ j h. refl;
        marked = λ ends later n layer few.
            rw (add-zero n) (record { layer = layer; marks = λ c i some. record { at = c; stands = stands_here f ends later c i some; is = refl } });
      }

  pub swept-next : Sound f → (q : Quarter) → nat_abs q.price ≤ most_price → (was cur now : List ℤ) (front : List Quarter) → Swept f w was cur front
      → Columns f q w cur now 0 (section f) → Swept f w was now (q ∷ front)
  swept-next ok q priced was cur now front s turned =
      record {
        same = turned.same ∙ s.same;
        beyond = λ j h. turned.beyond j h ∙ s.beyond j h;
        marked = λ ends later n layer few.
            let one : suc (n + length front) ≡ n + suc (length front) = omega arith in
            subst (λ (k : ℕ). MarkedAt f k ends (q ∷ front) later (mark_of f w was) (value_of f w now) (mark_of f w now)) one
            (marked_next f ends later ok q priced front (n + length front) (omega (arith, few)) w cur now (mark_of f w was)
            (s.marked ends later n layer (omega (arith, few))) turned);
      }

-- what the next interval asks
pub before-swept : (t : steps.Step) (was cur : List ℤ) (front : List Quarter) → Over t → t.width + t.width ≤ length was
    → Swept t.figures t.width was cur front → (ends : Cell → BestProfit) (later : List Quarter) (n : ℕ)
    → LayerAt t.figures n (value_at t.figures ends later) (value_of t.figures t.width was) → n + length front ≤ most_intervals
    → Before t cur (section t.figures)
before-swept t was cur front over marks s ends later n layer few =
    record {
      over = over;
      marks = omega (arith, marks, s.same);
      small = λ c i h.
          let m = s.marked ends later n layer few in
          holds-small (n + length front) (value_at t.figures ends (front ++ later) c) (value_of t.figures t.width cur c)
          few (m.layer.holds c i);
    }

-- ---- from cells that have their own numbers

module _ (f : Figures) (w : ℕ) (wide : w ≡ width f) (was numbered : List ℤ) (n : OwnNumbers w was numbered w) where
  -- numbering leaves the values
  pub value-kept : {k : ℕ} {value : Cell → BestProfit} → LayerAt f k value (value_of f w was) → LayerAt f k value (value_of f w numbered)
  value-kept layer =
      record { holds = λ c i. rw (n.apart (index f c) (inl (omega (arith, index-lt f c i, wide)))) (layer.holds c i) }

  mark-own : (c : Cell) → InTable f c → mark_of f w numbered c ≡ pos (index f c)
  mark-own c i = n.own (index f c) (omega (arith, index-lt f c i, wide))

  pub numbered-swept : (now : List ℤ) (quarters : List Quarter) → Swept f w numbered now quarters → Numbered f w was now quarters
  numbered-swept now quarters s =
      record {
        same = s.same ∙ n.same;
        beyond = λ j h. s.beyond j h ∙ n.apart j (inr h);
        marked = λ ends later k layer few.
            let m = s.marked ends later k (value-kept layer) few in
            record {
              layer = m.layer;
              marks = λ c i some.
                  let one = m.marks c i some in
                  record { at = one.at; stands = one.stands; is = one.is ∙ mark-own one.at one.stands.inside };
            };
      }

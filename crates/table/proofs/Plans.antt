-- The plan read off the layers: interval by interval, what is written and the plan from the cell reached make the whole plan.
use Rattle.std.specs.Prelude.{None, Some}
use mathlib.Core.Path.{◌≡◌, refl, sym, ap, ap₂, ◌∙◌}
use mathlib.Core.Bool.{true}
use mathlib.Core.List.{List, [], ◌∷◌, ◌++◌, append_assoc, append-nil}
use Prim.Native.Nat.{ℕ, suc, ◌+◌, ◌*◌, ◌≤◌, ◌<◌}
use native.Mathlib.Numerals.{add-one}
use native.Mathlib.Omega.{arith}
use lib.IntN.{ℤ, pos, nat_abs}
use lib.ListN.{length, get_or, set, take, drop, length-drop, length-map, length-set, drop_of_length-le, get_or-map}
use lib.Seq.{drop-cons}
use lib.Signed.{lt_z}
use Rattle.commitment.specs.Bounds.{most_price, most_intervals}
use Rattle.lists.proofs.Fills.{take_next, kept_next, kept_whole}
use Rattle.commitment.specs.Tries.{tries_to, tries_over}
use Rattle.commitment.proofs.Tries.{tries-append, tries-in-blocks}
use Rattle.commitment.specs.Best.{Plan, nothing, plan, profit_of, schedule_of}
use Rattle.optimality.specs.declared.Figures.{Figures}
use Rattle.optimality.specs.declared.Cell.{Cell}
use Rattle.commitment.specs.Types.{BestProfit}
use Rattle.optimality.specs.Machine.{Quarter, ended, after}
use Rattle.optimality.specs.Cells.{Sound, InTable, plan_at, value_at}
use Rattle.optimality.proofs.Values.{no-earning}
use Rattle.optimality.proofs.Turns.{plan-value}
use Rattle.geometry.specs.Geometry.{width}
use Rattle.geometry.specs.Layers.{swing, Holds, stored_at, LayerAt, Filled}
use Rattle.intervals.specs.Turns.{off_stored, quarter_stored}
use Rattle.layers.proofs.Filling.{PricedOver}
use Rattle.optimality.proofs.Quarters.{no_quarter}
use Rattle.commitment.specs.Ranges.{Priced}
use Rattle.table.specs.Reading.{OnReaches, chosen, next_cell, PlanFrom}
use Rattle.intervals.proofs.Turning.{cell_holds}
use Rattle.table.proofs.Choosing.{Chosen, chosen_is, must-reach}

-- ---- quarters of these prices

module _ (f : Figures) (ends : Cell → BestProfit) (prices cells : List ℤ) (from : Cell) (quarters : List Quarter)
    (p : PlanFrom f ends prices cells from quarters) where
  pub as_many : length quarters ≡ length prices
  as_many = sym (length-map quarters (λ (q : Quarter). q.price)) ∙ ap (λ (ps : List ℤ). length ps) p.priced

  pub same-price : (t : ℕ) → (get_or quarters t no_quarter).price ≡ get_or prices t (pos 0)
  same-price t = sym (get_or-map (λ (q : Quarter). q.price) quarters t no_quarter) ∙ ap (λ (ps : List ℤ). get_or ps t (pos 0)) p.priced

  pub priced-over : Priced prices → PricedOver quarters
  priced-over priced t h = rw (same-price t) (priced t (omega (arith, h, as_many)))

-- ---- one interval

pub record ReadTurn (f : Figures) (ends : Cell → BestProfit) (q : Quarter) (quarters : List Quarter) (stored : Cell → ℤ) (c : Cell) (best : ℤ) : Type 0 where
  pub on : lt_z (off_stored f stored c) best ≡ true → OnReaches f stored c q.price best
  pub choice : Chosen f ends q quarters c (chosen f stored c q.price best)

-- by a layer and the one behind it
pub read-layers : (f : Figures) (ends : Cell → BestProfit) (q : Quarter) (rest : List Quarter) (here stored : Cell → ℤ) (c : Cell)
    → Sound f → nat_abs q.price ≤ most_price → (n : ℕ) → n < most_intervals
    → LayerAt f (suc n) (value_at f ends (q ∷ rest)) here → LayerAt f n (value_at f ends rest) stored
    → InTable f c → (value_at f ends (q ∷ rest) c ≡ None → ⊥)
    → ReadTurn f ends q rest stored c (here c)
read-layers f ends q rest here stored c ok priced n few layer next inside some = by (value_at f ends (q ∷ rest) c) refl (layer.holds c inside) some
  where
    by : (v : BestProfit) → value_at f ends (q ∷ rest) c ≡ v → Holds (suc n) v (here c) → (v ≡ None → ⊥)
        → ReadTurn f ends q rest stored c (here c)
    by None e h some = absurd (some refl)
    by (Some p) e h some =
        let made : Holds (suc n) (Some p) (quarter_stored f stored c q) = rw e at
        (cell_holds f ok q.price priced ends rest n few stored next c inside q.opens) in
        let is : quarter_stored f stored c q ≡ here c = made.0 ∙ sym h.0 in
        let bound : nat_abs (here c) ≤ suc n * swing = rw h.0 h.1 in
        let worth = e ∙ ap Some (sym h.0) in
        record {
          on = must-reach f ok q priced ends rest n few stored next c inside (here c) worth bound is;
          choice = chosen_is f ok q priced ends rest n few stored next c inside (here c) worth bound is;
        }

pub read-turn : (f : Figures) (ends : Cell → BestProfit) (quarters : List Quarter) (cells : List ℤ) (t : ℕ) (c : Cell)
    → Sound f → PricedOver quarters → length quarters ≤ most_intervals
    → Filled f ends quarters cells → t < length quarters
    → InTable f c → (value_at f ends (drop t quarters) c ≡ None → ⊥)
    → ReadTurn f ends (get_or quarters t no_quarter) (drop (suc t) quarters) (stored_at f cells (suc t * width f)) c (stored_at f cells (t * width f) c)
read-turn f ends quarters cells t c ok priced short filled inside here some =
    let d = drop-cons quarters t no_quarter inside in
    read-layers f ends (get_or quarters t no_quarter) (drop (suc t) quarters) (stored_at f cells (t * width f)) (stored_at f cells (suc t * width f)) c ok
    (priced t inside) (length (drop (suc t) quarters)) (omega (arith, length-drop (suc t) quarters)) (rw d at (filled.layers t (omega arith)))
    (filled.layers (suc t) inside) here
    (rw d at some)

-- ---- the plan so far

-- t outputs are written, and the rest of the plan is that of the cell reached
pub record Written (f : Figures) (ends : Cell → BestProfit) (quarters : List Quarter) (from : Cell) (old now : List ℕ) (t : ℕ) (c : Cell) : Type 0 where
  pub inside : InTable f c
  pub some : value_at f ends (drop t quarters) c ≡ None → ⊥
  pub whole : take t now ++ schedule_of (plan_at f ends (drop t quarters) c) ≡ schedule_of (plan_at f ends quarters from)
  pub kept : drop t now ≡ drop t old
  pub same : length now ≡ length old

pub written_none : (f : Figures) (ends : Cell → BestProfit) (quarters : List Quarter) (from : Cell) (old : List ℕ) → InTable f from
    → (value_at f ends quarters from ≡ None → ⊥) → Written f ends quarters from old old 0 from
written_none f ends quarters from old inside some = record { inside = inside; some = some; whole = refl; kept = refl; same = refl }

-- a plan with one interval in front
pub one_more : (f : Figures) (ends : Cell → BestProfit) (q : Quarter) (rest : List Quarter) (c next : Cell) (m : ℕ) (g : ℤ)
    → plan_at f ends (q ∷ rest) c ≡ after m g (plan_at f ends rest next)
    → (value_at f ends (q ∷ rest) c ≡ None → ⊥)
    → (schedule_of (plan_at f ends (q ∷ rest) c) ≡ m ∷ schedule_of (plan_at f ends rest next)) × (value_at f ends rest next ≡ None → ⊥)
one_more f ends q rest c next m g is some = by (plan_at f ends rest next) refl
  where
    by : (p : Plan) → plan_at f ends rest next ≡ p
        → (schedule_of (plan_at f ends (q ∷ rest) c) ≡ m ∷ schedule_of (plan_at f ends rest next)) × (value_at f ends rest next ≡ None → ⊥)
    by nothing e = absurd (some (sym (plan-value f ends (q ∷ rest) c) ∙ ap profit_of (is ∙ ap (after m g) e)))
    by (plan s p) e = (
      ap schedule_of (is ∙ ap (after m g) e) ∙ ap (λ (q : Plan). m ∷ schedule_of q) (sym e),
      λ none. no-earning
          (sym none ∙ sym (plan-value f ends rest next) ∙ ap profit_of e),
    )

pub written_next : (f : Figures) (ends : Cell → BestProfit) (quarters : List Quarter) (from : Cell) (old now : List ℕ) (t : ℕ) (c : Cell) (k : ℕ)
    → t < length quarters
    → t < length now
    → Written f ends quarters from old now t c → Chosen f ends (get_or quarters t no_quarter) (drop (suc t) quarters) c k
    → Written f ends quarters from old (set now t (k * f.block)) (t + 1) (next_cell f c k)
written_next f ends quarters from old now t c k inside room w choice =
    let d = drop-cons quarters t no_quarter inside in
    let q = get_or quarters t no_quarter in
    let rest = drop (suc t) quarters in
    let one = one_more f ends q rest c (next_cell f c k) (k * f.block) choice.earns choice.is (rw d at w.some) in
    record {
      inside = choice.inside;
      some = rw (add-one t) one.1;
      whole =
          ap₂ (λ (xs : List ℕ) (j : ℕ). xs ++ schedule_of (plan_at f ends (drop j quarters) (next_cell f c k))) (take_next now t (k * f.block) room) (add-one t)
          ∙ append_assoc (take t now) ((k * f.block) ∷ []) (schedule_of (plan_at f ends rest (next_cell f c k)))
          ∙ ap (λ (xs : List ℕ). take t now ++ xs) (sym one.0 ∙ ap (λ (qs : List Quarter). schedule_of (plan_at f ends qs c)) (sym d))
          ∙ w.whole;
      kept = kept_next now old t (k * f.block) w.kept;
      same = length-set now t (k * f.block) ∙ w.same;
    }

-- what its outputs take, one more being written
pub tries-next : (block pmin : ℕ) (now : List ℕ) (t k : ℕ) {tries more : ℕ} → 1 ≤ block → t < length now → tries ≡ tries_over block pmin (take t now)
    → more ≡ tries_to pmin k → tries + more ≡ tries_over block pmin (take (t + 1) (set now t (k * block)))
tries-next block pmin now t k block-some room so_far one =
    let e = ap (tries_over block pmin) (take_next now t (k * block) room) ∙ tries-append block pmin (take t now) ((k * block) ∷ []) in
    omega (arith, e, so_far, one, tries-in-blocks block pmin k block-some)

-- however a plan ends, no output is left
none_left : (v : BestProfit) → schedule_of (ended v) ≡ []
none_left None = refl
none_left (Some p) = refl

-- all are
module _ (f : Figures) (ends : Cell → BestProfit) (quarters : List Quarter) (from : Cell) (old now : List ℕ) (t : ℕ) (c : Cell) (e : t ≡ length quarters)
    (w : Written f ends quarters from old now t c) where
  pub front-all : take t now ≡ schedule_of (plan_at f ends quarters from)
  unfolding plan_at
  front-all =
      let d : drop t quarters ≡ [] = drop_of_length-le quarters {i = t} (omega arith) in
      sym (append-nil (take t now)) ∙ (rw (d, none_left (ends c)) at w.whole)

  pub written_all : now ≡ schedule_of (plan_at f ends quarters from) ++ drop (length quarters) old
  written_all = kept_whole now old t w.kept ∙ ap₂ (λ (xs : List ℕ) (j : ℕ). xs ++ drop j old) front-all e

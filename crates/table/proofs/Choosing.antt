-- The output that is read off a cell is the plan's: the first that reaches the cell's number is the first that reaches its value.
use Rattle.std.specs.Prelude.{Some}
use mathlib.Core.Path.{◌≡◌, refl, sym, ap, subst, ◌∙◌}
use mathlib.Core.Bool.{Bool, true, false, cond, not, true≢false, false≢true}
use mathlib.Core.List.{List, ◌∷◌}
use mathlib.Core.Logic.{⊎_elim}
use Prim.Native.Nat.{ℕ, zero, suc, ◌+◌, ◌-◌, ◌*◌, ◌≤◌, ◌<◌}
use native.Mathlib.Nat.{zero-mul}
use native.Mathlib.Omega.{arith}
use lib.IntN.{ℤ, pos, nat_abs, ◌-ℤ◌}
use lib.Signed.{lt_z, ◌≤ℤ◌, ≤ℤ_refl}
use Rattle.commitment.specs.Types.{BestProfit}
use Rattle.commitment.specs.Bounds.{most_price, most_intervals}
use Rattle.integers.proofs.Order.{≤ℤ-antisym, lt_z-false, le-lt_z}
use Rattle.lists.proofs.Conjunctions.{both}
use Rattle.optimality.specs.declared.Figures.{Figures}
use Rattle.optimality.specs.declared.Cell.{Cell}
use Rattle.optimality.specs.Machine.{Quarter, go, in_quarter, after}
use Rattle.optimality.specs.Cells.{Sound, InTable, start_pays, gain, may_run, on_cell, rungs, cell_step, plan_at, value_at, off_value, on_value}
use Rattle.optimality.proofs.Values.{no-earning}
use Rattle.optimality.proofs.Turns.{off-turn, on-turn, some_turn, off-in-table, on-in-table}
use Rattle.geometry.specs.Layers.{swing, LayerAt}
use Rattle.intervals.specs.Turns.{raised, off_stored, room_for, on_stored, cell_stored, quarter_stored}
use Rattle.table.specs.Reading.{reaches_on, first_on, OnReaches, chosen, next_cell, Allowed}
use Rattle.intervals.proofs.Stretches.{last-or-before}
use Rattle.intervals.proofs.Raising.{raised-above, raised-reach}
use Rattle.geometry.proofs.Holding.{Offers, offered, offers-best, offers-earning}
use Rattle.intervals.proofs.Turning.{off-holds, on-is, on-offers}

-- ---- the first that reaches

module _ (f : Figures) (stored : Cell → ℤ) (c : Cell) (price best : ℤ) where
  passed_over : (n k count : ℕ) → ((j : ℕ) → k ≤ j → j < k + n → reaches_on f stored c price best j ≡ false)
      → first_on f stored c price best k (n + count) ≡ first_on f stored c price best (k + n) count
  unfolding first_on
  passed_over zero k count h = let e : 0 + count ≡ count = omega arith in let i : k + 0 ≡ k = omega arith in rw (e, i)
  passed_over (suc n) k count h =
      let e : suc n + count ≡ suc (n + count) = omega arith in
      let i : suc k + n ≡ k + suc n = omega arith in
      let m : reaches_on f stored c price best k ≡ false = h k (omega arith) (omega arith) in
      ap (first_on f stored c price best k) e ∙ (rw m) ∙ passed_over n (suc k) count (λ j lo hi. h j (omega arith) (omega arith))
      ∙ ap (λ (j : ℕ). first_on f stored c price best j count) i

  pub first-at : (k : ℕ) → f.pmin ≤ k → k ≤ f.pmax → ((j : ℕ) → f.pmin ≤ j → j < k → reaches_on f stored c price best j ≡ false)
      → reaches_on f stored c price best k ≡ true
      → first_on f stored c price best f.pmin (rungs f) ≡ k
  unfolding first_on
  first-at k lo hi short e =
      let n : rungs f ≡ k - f.pmin + suc (f.pmax - k) = omega arith in
      let i : f.pmin + (k - f.pmin) ≡ k = omega arith in
      ap (first_on f stored c price best f.pmin) n ∙ passed_over (k - f.pmin) f.pmin (suc (f.pmax - k)) (λ j l u. short j l (omega arith))
      ∙ ap (λ (j : ℕ). first_on f stored c price best j (suc (f.pmax - k))) i
      ∙ (rw e)

  -- ---- the numbers of the outputs are at most the cell's

  module _ (is : cell_stored f stored c price ≡ best) where
    off-below : off_stored f stored c ≤ℤ best
    unfolding cell_stored
    off-below = subst (λ (v : ℤ). off_stored f stored c ≤ℤ v) is (by (may_run f c))
      where
        by : (t : Bool)
            → off_stored f stored c
            ≤ℤ cond t (raised (room_for f stored c) (on_stored f stored c price) (off_stored f stored c) f.pmin (rungs f)) (off_stored f stored c)
        by true = raised-above (room_for f stored c) (on_stored f stored c price) (off_stored f stored c) f.pmin (rungs f)
        by false = ≤ℤ_refl (off_stored f stored c)

    on_below : may_run f c ≡ true → (k : ℕ) → f.pmin ≤ k → k ≤ f.pmax → room_for f stored c k ≡ true → on_stored f stored c price k ≤ℤ best
    unfolding cell_stored
    on_below may k lo hi room =
        let e : raised (room_for f stored c) (on_stored f stored c price) (off_stored f stored c) f.pmin (rungs f) ≡ best = rw may at is in
        subst (λ (v : ℤ). on_stored f stored c price k ≤ℤ v) e
        (raised-reach (room_for f stored c) (on_stored f stored c price) (off_stored f stored c) f.pmin (rungs f) k lo (omega arith) room)

    -- where off falls short the unit may run
    open-runs : lt_z (off_stored f stored c) best ≡ true → may_run f c ≡ true
    unfolding cell_stored
    open-runs short = by (may_run f c) refl is
      where
        by : (t : Bool) → may_run f c ≡ t
            → cond t (raised (room_for f stored c) (on_stored f stored c price) (off_stored f stored c) f.pmin (rungs f)) (off_stored f stored c) ≡ best
            → may_run f c ≡ true
        by true e i = e
        by false e i = absurd (false≢true (sym (le-lt_z best best (≤ℤ_refl best)) ∙ (rw i at short)))

-- ---- the output read off

-- what so many blocks make of a cell, where they are the plan's
pub record Chosen (f : Figures) (ends : Cell → BestProfit) (q : Quarter) (quarters : List Quarter) (c : Cell) (k : ℕ) : Type 0 where
  pub inside : InTable f (next_cell f c k)
  pub allowed : Allowed f c k
  pub most : k ≤ f.pmax
  pub earns : ℤ
  pub steps : in_quarter (cell_step f) c q (k * f.block) ≡ go earns (next_cell f c k)
  pub is : plan_at f ends (q ∷ quarters) c ≡ after (k * f.block) earns (plan_at f ends quarters (next_cell f c k))

module _ (f : Figures) (ok : Sound f) (q : Quarter) (small : nat_abs q.price ≤ most_price) (ends : Cell → BestProfit) (quarters : List Quarter)
    (n : ℕ) (short : n < most_intervals) (stored : Cell → ℤ)
    (layer : LayerAt f n (value_at f ends quarters) stored) (c : Cell) (here : InTable f c) (best : ℤ)
    (worth : value_at f ends (q ∷ quarters) c ≡ Some best)
    (bound : nat_abs best ≤ suc n * swing) where
  off-offers : Offers (suc n) (off_value f (value_at f ends quarters) c) (off_stored f stored c)
  off-offers =
      offered (suc n) (off_value f (value_at f ends quarters) c) (off_stored f stored c)
      (off-holds f ok q.price small ends quarters n short stored layer c here)

  -- off, open or shut
  off-chosen : off_stored f stored c ≡ best → Chosen f ends q quarters c 0
  off-chosen i =
      let v = offers-best (suc n) (off_value f (value_at f ends quarters) c) best short bound (rw i at off-offers) in
      let t = off-turn f ok ends q quarters c best worth v in
      record {
        inside = off-in-table f c here t.leads;
        allowed = λ nay. absurd (nay refl);
        most = omega arith;
        earns = pos 0;
        steps = ap (in_quarter (cell_step f) c q) (zero-mul f.block) ∙ t.steps;
        is = t.is ∙ ap (λ (m : ℕ). after m (pos 0) (plan_at f ends quarters (next_cell f c 0))) (sym (zero-mul f.block));
      }

  module _ (opened : q.opens ≡ true) (is : cell_stored f stored c q.price ≡ best) (falls : lt_z (off_stored f stored c) best ≡ true) where
    may : may_run f c ≡ true
    may = open-runs f stored c q.price best is falls

    off-short : off_value f (value_at f ends quarters) c ≡ Some best → ⊥
    off-short v =
        let i = offers-earning (suc n) (off_value f (value_at f ends quarters) c) (off_stored f stored c) best off-offers v in
        false≢true (sym (le-lt_z best best (≤ℤ_refl best)) ∙ (rw i at falls))

    -- an output meets the test exactly where it reaches the value
    met : (k : ℕ) → f.pmin ≤ k → k ≤ f.pmax → reaches_on f stored c q.price best k ≡ true → on_value f (value_at f ends quarters) c q.price k ≡ Some best
    met k lo hi e =
        let b = both (room_for f stored c k) (not (lt_z (on_stored f stored c q.price k) best)) e in
        let l = lt_z-false (on_stored f stored c q.price k) best (not-true' (lt_z (on_stored f stored c q.price k) best) b.1) in
        let i : on_stored f stored c q.price k ≡ best = ≤ℤ-antisym (on_below f stored c q.price best is may k lo hi b.0) l in
        let h = on-offers f ok q.price small ends quarters n short stored layer c here may k hi b.0 in
        offers-best (suc n) (on_value f (value_at f ends quarters) c q.price k) best short bound (rw i at h)
      where
        not-true' : (t : Bool) → not t ≡ true → t ≡ false
        not-true' true e = absurd (false≢true e)
        not-true' false e = refl

    unmet : (k : ℕ) → k ≤ f.pmax → reaches_on f stored c q.price best k ≡ false → on_value f (value_at f ends quarters) c q.price k ≡ Some best → ⊥
    unmet k hi e v = by (room_for f stored c k) refl
      where
        by : (t : Bool) → room_for f stored c k ≡ t → ⊥
        by false r = no-earning (sym (on-is f ok q.price small ends quarters n short stored layer c here may k false r) ∙ v)
        by true r =
            let i = offers-earning (suc n) (on_value f (value_at f ends quarters) c q.price k) (on_stored f stored c q.price k) best
            (on-offers f ok q.price small ends quarters n short stored layer c here may k hi r) v in
            let m : reaches_on f stored c q.price best k ≡ true = rw (r, i, le-lt_z best best (≤ℤ_refl best)) in
            true≢false (sym m ∙ e)

    record Found : Type 0 where
      at : ℕ
      low : f.pmin ≤ at
      high : at ≤ f.pmax
      passed : (j : ℕ) → f.pmin ≤ j → j < at → reaches_on f stored c q.price best j ≡ false
      meeting : reaches_on f stored c q.price best at ≡ true

    found : (n k : ℕ) → k + n ≡ suc f.pmax → f.pmin ≤ k → ((j : ℕ) → f.pmin ≤ j → j < k → reaches_on f stored c q.price best j ≡ false) → Found
    found zero k e lo passed =
        absurd (some_turn f ok ends q quarters c best worth opened off-short (λ j l h. unmet j h (passed j l (omega arith))))
    found (suc n) k e lo passed = by (λ more. found n (suc k) (omega arith) (omega arith) more) (reaches_on f stored c q.price best k) refl
      where
        by : (((j : ℕ) → f.pmin ≤ j → j < suc k → reaches_on f stored c q.price best j ≡ false) → Found)
            → (t : Bool) → reaches_on f stored c q.price best k ≡ t → Found
        by later true m = record { at = k; low = lo; high = omega arith; passed = passed; meeting = m }
        by later false m = later (λ j l h. ⊎_elim (λ (i : j ≡ k). rw i m) (λ (i : j < k). passed j l i) (last-or-before j k (omega arith)))

    first : Found
    first = found (rungs f) f.pmin (omega (arith, ok.pmax)) (omega arith) (λ j l h. absurd (omega arith))

    on-reaches : OnReaches f stored c q.price best
    on-reaches = record { may = may; at = first.at; low = first.low; high = first.high; meets = first.meeting }

    on-chosen : Chosen f ends q quarters c (first_on f stored c q.price best f.pmin (rungs f))
    on-chosen =
        let r = first in
        subst (Chosen f ends q quarters c) (sym (first-at f stored c q.price best r.at r.low r.high r.passed r.meeting)) (made r.at r refl)
      where
        made : (k : ℕ) → (r : Found) → r.at ≡ k → Chosen f ends q quarters c r.at
        made zero r e = absurd (omega (arith, r.low, ok.pmin))
        made (suc k) r e =
            let t = on-turn f ok ends q quarters c best worth opened off-short r.at r.low r.high
            (λ j l h. unmet j (omega (arith, r.high)) (r.passed j l h)) (met r.at r.low r.high r.meeting) in
            let n : next_cell f c r.at ≡ on_cell f c r.at = rw e in
            record {
              inside = rw n (on-in-table f c r.at here t.leads);
              allowed = λ nay. (t.starts, t.ons, t.blocks);
              most = r.high;
              earns = gain f q.price r.at -ℤ pos (start_pays f c.state);
              steps = rw n t.steps;
              is = rw n t.is;
            }

  open-chosen : q.opens ≡ true → cell_stored f stored c q.price ≡ best → Chosen f ends q quarters c (chosen f stored c q.price best)
  unfolding chosen
  open-chosen opened is = by (lt_z (off_stored f stored c) best) refl
    where
      by : (t : Bool) → lt_z (off_stored f stored c) best ≡ t
          → Chosen f ends q quarters c (cond t (first_on f stored c q.price best f.pmin (rungs f)) 0)
      by true e = on-chosen opened is e
      by false e = off-chosen (≤ℤ-antisym (off-below f stored c q.price best is) (lt_z-false (off_stored f stored c) best e))

  shut-chosen : off_stored f stored c ≡ best → Chosen f ends q quarters c (chosen f stored c q.price best)
  unfolding chosen
  shut-chosen i = rw (i, le-lt_z best best (≤ℤ_refl best)) (off-chosen i)

  pub chosen_is : quarter_stored f stored c q ≡ best → Chosen f ends q quarters c (chosen f stored c q.price best)
  chosen_is is = by q.opens refl is
    where
      by : (t : Bool) → q.opens ≡ t → cond t (cell_stored f stored c q.price) (off_stored f stored c) ≡ best
          → Chosen f ends q quarters c (chosen f stored c q.price best)
      by true opened is = open-chosen opened is
      by false shut is = shut-chosen is

  -- where off falls short the quarter is open, and some output reaches the number
  pub must-reach : quarter_stored f stored c q ≡ best → lt_z (off_stored f stored c) best ≡ true → OnReaches f stored c q.price best
  must-reach is falls = by q.opens refl is
    where
      by : (t : Bool) → q.opens ≡ t → cond t (cell_stored f stored c q.price) (off_stored f stored c) ≡ best → OnReaches f stored c q.price best
      by true opened is = on-reaches opened is falls
      by false shut is = absurd (false≢true (sym (le-lt_z best best (≤ℤ_refl best)) ∙ (rw is at falls)))

-- A cell that is made from a layer that holds the values of its cells holds its own value, one interval earlier.
use mathlib.Core.Path.{◌≡◌, refl, subst}
use mathlib.Core.Bool.{Bool, true, false, cond, ◌&&◌}
use mathlib.Core.List.{List, ◌∷◌}
use Prim.Native.Nat.{ℕ, zero, suc, ◌+◌, ◌*◌, ◌≤◌, ◌<◌}
use native.Mathlib.Nat.{mul-le-mul, mul-le-mul_left, mul-le-mul_right}
use native.Mathlib.Omega.{arith}
use borrow.Author.Tests.{leb-true, ltb-true}
use lib.Dec.{leb, ltb}
use lib.IntN.{ℤ, pos, nat_abs}
use Rattle.commitment.specs.Bounds.{most_price, most_intervals}
use Rattle.integers.specs.Maximum.{maxℤ}
use Rattle.integers.proofs.Ranges.{Within, within-at, within-weaken, within-diff, abs-within}
use Rattle.lists.proofs.Conjunctions.{both}
use Rattle.commitment.proofs.Margins.{margin-within, most_margin}
use Rattle.optimality.specs.declared.Figures.{Figures}
use Rattle.optimality.specs.declared.Cell.{Cell}
use Rattle.commitment.specs.Types.{BestProfit}
use Rattle.optimality.specs.Machine.{Quarter, quarter, go, allow, more, value_along}
use Rattle.optimality.specs.Cells.{Sound, InTable, states, after_off, after_on, start_takes, start_pays, may_run, gain}
use Rattle.optimality.specs.Cells.{off_cell, on_cell, rungs, value_at, off_value, on_value, on_best}
use Rattle.optimality.proofs.Values.{more-assoc}
use Rattle.optimality.proofs.Turns.{more-none, value-turn, value-shut, may-not-run, off-in-table, on-in-table}
use Rattle.geometry.specs.Layers.{infeasible, swing, Holds, LayerAt, most_pays}
use Rattle.intervals.specs.Turns.{net, slope, raised, off_stored, room_for, on_stored, cell_stored, quarter_stored}
use Rattle.intervals.proofs.Raising.{raised-none, raised-next}
use Rattle.geometry.proofs.Holding.{Offers, holds_more, offers-plus, holds-stay, holds-none}

-- ---- where the unit may run

pub record Runs (f : Figures) (c : Cell) : Type 0 where
  pub leads : after_on f c.state < states f
  pub starts : start_takes f c.state ≤ c.left.starts
  pub ons : f.takes.ons ≤ c.left.ons

pub runs : (f : Figures) (c : Cell) → may_run f c ≡ true → Runs f c
runs f c e =
    let last = both (ltb (after_on f c.state) (states f) && leb (start_takes f c.state) c.left.starts) (leb f.takes.ons c.left.ons) e in
    let two = both (ltb (after_on f c.state) (states f)) (leb (start_takes f c.state) c.left.starts) last.0 in
    record {
      leads = ltb-true (after_on f c.state) (states f) two.0;
      starts = leb-true (start_takes f c.state) c.left.starts two.1;
      ons = leb-true f.takes.ons c.left.ons last.1;
    }

-- ---- what one interval adds is below the swing

pub pays-most : (f : Figures) → Sound f → (s : ℕ) → start_pays f s ≤ most_pays
pays-most f ok s = by (ltb s f.mot)
  where
    by : (t : Bool) → cond t 0 (4 * f.suc) ≤ most_pays
    by true = omega arith
    by false = omega (arith, ok.suc)

pub takes-most : (f : Figures) → Sound f → (s : ℕ) → start_takes f s ≤ 1
takes-most f ok s = by (ltb s f.mot)
  where
    by : (t : Bool) → cond t 0 f.takes.starts ≤ 1
    by true = omega arith
    by false = ok.takes.starts

pub pmax-most : (f : Figures) → Sound f → f.pmax ≤ 500
pmax-most f ok = let a : f.pmax * 1 ≤ f.pmax * f.block = mul-le-mul_left f.pmax ok.block in omega (arith, ok.top)

pub block-most : (f : Figures) → Sound f → f.block ≤ 500
block-most f ok =
    let a : 1 * f.block ≤ f.pmax * f.block = mul-le-mul_right f.block (omega (arith, ok.pmin, ok.pmax)) in omega (arith, ok.top)

-- what an output takes of the blocks
pub blocks-most : (f : Figures) → Sound f → (k : ℕ) → k ≤ f.pmax → k * f.takes.blocks ≤ 500
blocks-most f ok k h =
    let a : k * f.takes.blocks ≤ f.pmax * f.block = mul-le-mul h (one f.takes.blocks f.block ok.takes.blocks ok.block) in
    omega (arith, ok.top)
  where
    one : (p b : ℕ) → p ≤ 1 → 1 ≤ b → p ≤ b
    one p b h k = omega arith

module _ (f : Figures) (ok : Sound f) (price : ℤ) (small : nat_abs price ≤ most_price) where
  pub output-most : (k : ℕ) → k ≤ f.pmax → k * f.block ≤ 500
  output-most k h = omega (arith, mul-le-mul_right f.block h, ok.top)

  gain-within : (k : ℕ) → k ≤ f.pmax → Within most_margin (gain f price k)
  gain-within k h =
      margin-within price (k * f.block) f.vec (f.pmin * f.block) f.mlc small (output-most k h) ok.vec (output-most f.pmin ok.pmax) ok.mlc

  pub net-within : (pays k : ℕ) → pays ≤ most_pays → k ≤ f.pmax → Within swing (net f price pays k)
  net-within pays k p h = within-diff (gain-within k h) (within-weaken p (within-at pays))

  pub net-small : (pays k : ℕ) → pays ≤ most_pays → k ≤ f.pmax → nat_abs (net f price pays k) ≤ swing
  net-small pays k p h = omega (arith, abs-within (net-within pays k p h))

  pub slope-small : nat_abs (slope f price) ≤ swing
  slope-small =
      omega (arith, abs-within (margin-within price f.block f.vec 0 0 small (block-most f ok) ok.vec (omega arith) (omega arith)))

  -- ---- one interval from a cell

  module _ (ends : Cell → BestProfit) (quarters : List Quarter) (n : ℕ) (short : n < most_intervals) (stored : Cell → ℤ)
      (layer : LayerAt f n (value_at f ends quarters) stored)
      (c : Cell) (here : InTable f c) where
    pub off-holds : Holds (suc n) (off_value f (value_at f ends quarters) c) (off_stored f stored c)
    unfolding off_stored
    off-holds = by (ltb (after_off f c.state) (states f)) refl
      where
        by : (t : Bool) → ltb (after_off f c.state) (states f) ≡ t
            → Holds (suc n) (value_along (allow t (go (pos 0) (off_cell f c))) (value_at f ends quarters))
            (cond t (stored (off_cell f c)) infeasible)
        by true e =
            holds-stay n (value_at f ends quarters (off_cell f c)) (stored (off_cell f c)) short
            (layer.holds (off_cell f c) (off-in-table f c here (ltb-true (after_off f c.state) (states f) e)))
        by false e = holds-none (suc n) short

    module _ (may : may_run f c ≡ true) where
      pub on-is : (k : ℕ) (t : Bool) → room_for f stored c k ≡ t
          → on_value f (value_at f ends quarters) c price k
          ≡ value_along (allow t (go (net f price (start_pays f c.state) k) (on_cell f c k))) (value_at f ends quarters)
      on-is k t e = rw (may, e)

      pub on-offers : (k : ℕ) → k ≤ f.pmax → room_for f stored c k ≡ true
          → Offers (suc n) (on_value f (value_at f ends quarters) c price k) (on_stored f stored c price k)
      on-offers k h e =
          rw (on-is k true e)
          (offers-plus n (value_at f ends quarters (on_cell f c k)) (stored (on_cell f c k)) (net f price (start_pays f c.state) k) short
          (net-small (start_pays f c.state) k (pays-most f ok c.state) h)
          (layer.holds (on_cell f c k) (on-in-table f c k here (runs f c may).leads)))

      raised-holds : (k count : ℕ) → k + count ≤ suc f.pmax → (v : BestProfit) (base : ℤ) → Holds (suc n) v base
          → Holds (suc n) (more v (on_best f (value_at f ends quarters) c price k count))
          (raised (room_for f stored c) (on_stored f stored c price) base k count)
      raised-holds k zero hi v base h = rw (more-none v, raised-none (room_for f stored c) (on_stored f stored c price) base k) h
      raised-holds k (suc count) hi v base h =
          rw (raised-next (room_for f stored c) (on_stored f stored c price) base k count)
          (by (λ w next. raised-holds (suc k) count (omega arith) w next) (room_for f stored c k) refl)
        where
          rest : BestProfit
          rest = on_best f (value_at f ends quarters) c price (suc k) count

          by : ((w : BestProfit) (next : ℤ) → Holds (suc n) w next
              → Holds (suc n) (more w rest) (raised (room_for f stored c) (on_stored f stored c price) next (suc k) count))
              → (t : Bool) → room_for f stored c k ≡ t
              → Holds (suc n) (more v (more (on_value f (value_at f ends quarters) c price k) rest))
              (raised (room_for f stored c) (on_stored f stored c price) (cond t (maxℤ base (on_stored f stored c price k)) base) (suc k) count)
          by later true e =
              let o = on_value f (value_at f ends quarters) c price k in
              subst (λ (w : BestProfit). Holds (suc n) w
              (raised (room_for f stored c) (on_stored f stored c price) (maxℤ base (on_stored f stored c price k)) (suc k) count))
              (more-assoc v o rest)
              (later (more v o) (maxℤ base (on_stored f stored c price k))
              (holds_more (suc n) v o base (on_stored f stored c price k) short h (on-offers k (omega arith) e)))
          by later false e = rw (on-is k false e) (later v base h)

    open-holds : (q : Quarter) → q.opens ≡ true → q.price ≡ price
        → Holds (suc n) (value_at f ends (q ∷ quarters) c) (cell_stored f stored c price)
    unfolding cell_stored
    open-holds q opened priced = rw (value-turn f ok ends q quarters c opened, priced) (by (may_run f c) refl)
      where
        by : (t : Bool) → may_run f c ≡ t
            → Holds (suc n) (more (off_value f (value_at f ends quarters) c) (on_best f (value_at f ends quarters) c price f.pmin (rungs f)))
            (cond t (raised (room_for f stored c) (on_stored f stored c price) (off_stored f stored c) f.pmin (rungs f)) (off_stored f stored c))
        by true e = raised-holds e f.pmin (rungs f) (omega (arith, ok.pmax)) (off_value f (value_at f ends quarters) c) (off_stored f stored c) off-holds
        by false e =
            rw (may-not-run f ok ends (value_at f ends quarters) c price f.pmin (rungs f) e, more-none (off_value f (value_at f ends quarters) c)) off-holds

    pub cell_holds : (opened : Bool)
        → Holds (suc n) (value_at f ends (quarter price opened ∷ quarters) c) (quarter_stored f stored c (quarter price opened))
    cell_holds true = open-holds (quarter price true) refl refl
    cell_holds false = rw (value-shut f ok ends (quarter price false) quarters c refl) off-holds

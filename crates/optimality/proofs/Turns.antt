-- One interval of the cells' machine, in blocks: a cell's value by the values of the cells after it, and the plan's output read off them.
use Rattle.std.specs.Prelude.{None, Some}
use mathlib.Core.Path.{◌≡◌, refl, sym, ap, ap₂, ◌∙◌}
use mathlib.Core.Bool.{Bool, true, false, cond, ◌&&◌}
use mathlib.Core.List.Memᴰ
use mathlib.Core.List.{List, [], ◌∷◌, ◌++◌, map, Memᴰ}
use mathlib.Core.Logic.{◌⊎◌, ⊎_elim, inl, inr}
use Prim.Native.Nat.{ℕ, zero, suc, ◌+◌, ◌-◌, ◌*◌, ◌/◌, ◌≤◌, ◌<◌}
use native.Mathlib.Nat.{mul-div_cancel, mul-le-mul}
use native.Mathlib.Omega.{arith}
use borrow.Author.Tests.{ltb-true, leb-true, ne_eqb}
use lib.Dec.{leb, ltb}
use lib.IntN.{ℤ, pos, ◌-ℤ◌}
use lib.Signed.{lt_z}
use Rattle.commitment.specs.Best.{ladder, profit_of}
use Rattle.lists.proofs.Conjunctions.{both}
use Rattle.optimality.specs.declared.Figures.{Figures}
use Rattle.optimality.specs.declared.Cell.{Cell}
use Rattle.commitment.specs.Types.{BestProfit}
use Rattle.optimality.specs.Machine.{Step, Quarter, in_quarter, go, allow, after, along, more, most, value_along}
use Rattle.optimality.specs.Cells.{taking, Sound, InTable, states, after_off, after_on, start_takes, start_pays, gain, may_run}
use Rattle.optimality.specs.Cells.{off_cell, on_cell, off_step, on_step, cell_step, rungs, choices, plan_at, value_at, off_value, on_value, on_best}
use Rattle.optimality.proofs.Within.{within-within, less-within}
use Rattle.optimality.proofs.Outputs.{ladder-is, blocks-join}
use Rattle.optimality.proofs.Values.{no-earning, value-from, first-reaching}

-- the best plan's profit is the value
pub plan-value : (f : Figures) (ends : Cell → BestProfit) (quarters : List Quarter) (c : Cell)
    → profit_of (plan_at f ends quarters c) ≡ value_at f ends quarters c
unfolding plan_at value_at
plan-value f ends quarters c = value-from Cell Quarter (in_quarter (cell_step f)) ends (choices f) quarters c

-- after the last interval
pub value-end : (f : Figures) (ends : Cell → BestProfit) (c : Cell) → value_at f ends [] c ≡ ends c
unfolding value_at
value-end f ends c = refl

pub more-none : (v : BestProfit) → more v None ≡ v
more-none None = refl
more-none (Some p) = refl

-- ---- outputs in blocks

ladder-split : (block first a b : ℕ)
    → ladder block first (a + suc b) ≡ ladder block first a ++ ((first + a * block) ∷ ladder block (first + a * block + block) b)
ladder-split block first zero b =
    let e : 0 + suc b ≡ suc b = omega arith in
    let i : first + 0 * block ≡ first = omega arith in
    rw (e, i)
ladder-split block first (suc a) b =
    let e : suc a + suc b ≡ suc (a + suc b) = omega arith in
    let i : first + block + a * block ≡ first + suc a * block = omega arith in
    ap (ladder block first) e ∙ ap (◌∷◌ first) (rw i at (ladder-split block (first + block) a b))

-- ---- what the plan's output makes of a cell

pub record OffTurn (f : Figures) (ends : Cell → BestProfit) (q : Quarter) (quarters : List Quarter) (c : Cell) : Type 0 where
  pub leads : after_off f c.state < states f
  pub steps : in_quarter (cell_step f) c q 0 ≡ go (pos 0) (off_cell f c)
  pub is : plan_at f ends (q ∷ quarters) c ≡ after 0 (pos 0) (plan_at f ends quarters (off_cell f c))

pub record OnTurn (f : Figures) (ends : Cell → BestProfit) (q : Quarter) (quarters : List Quarter) (c : Cell) (k : ℕ) : Type 0 where
  pub leads : after_on f c.state < states f
  pub starts : start_takes f c.state ≤ c.left.starts
  pub ons : f.takes.ons ≤ c.left.ons
  pub blocks : k * f.takes.blocks ≤ c.left.blocks
  pub steps : in_quarter (cell_step f) c q (k * f.block) ≡ go (gain f q.price k -ℤ pos (start_pays f c.state)) (on_cell f c k)
  pub is : plan_at f ends (q ∷ quarters) c
      ≡ after (k * f.block) (gain f q.price k -ℤ pos (start_pays f c.state)) (plan_at f ends quarters (on_cell f c k))

-- a step with a value is allowed
leads-on : (t : Bool) (g : ℤ) (y : Cell) (rest : Cell → BestProfit) (p : ℤ) → value_along (allow t (go g y)) rest ≡ Some p → t ≡ true
leads-on true g y rest p e = refl
leads-on false g y rest p e = absurd (no-earning e)

-- the table has the cell that follows
pub off-in-table : (f : Figures) (c : Cell) → InTable f c → after_off f c.state < states f → InTable f (off_cell f c)
off-in-table f c h t = record { state = t; left = h.left }

pub on-in-table : (f : Figures) (c : Cell) (k : ℕ) → InTable f c → after_on f c.state < states f → InTable f (on_cell f c k)
on-in-table f c k h t =
    record { state = t; left = within-within (less-within c.left (taking f c.state k)) h.left }

module _ (f : Figures) (ok : Sound f) (ends : Cell → BestProfit) where
  in_blocks : (c : Cell) (q : Quarter) (k : ℕ) → 1 ≤ k → in_quarter (cell_step f) c q (k * f.block) ≡ allow q.opens (on_step f c q.price k)
  in_blocks c q k h =
      let p : 1 * 1 ≤ k * f.block = mul-le-mul h ok.block in
      let d : k * f.block / f.block ≡ k = mul-div_cancel k ok.block in
      rw (ne_eqb (k * f.block) 0 (λ e. omega arith), d)

  open_blocks : (c : Cell) (q : Quarter) (k : ℕ) → q.opens ≡ true → 1 ≤ k → in_quarter (cell_step f) c q (k * f.block) ≡ on_step f c q.price k
  open_blocks c q k opened h = in_blocks c q k h ∙ ap (λ (t : Bool). allow t (on_step f c q.price k)) opened

  -- ---- a cell's value by the values of the cells after it

  ladder-best : (rest : Cell → BestProfit) (c : Cell) (q : Quarter) (k count : ℕ) → q.opens ≡ true → 1 ≤ k
      → most (map (λ m. value_along (in_quarter (cell_step f) c q m) rest) (ladder f.block (k * f.block) count)) ≡ on_best f rest c q.price k count
  ladder-best rest c q k zero opened h = refl
  ladder-best rest c q k (suc count) opened h =
      let e : k * f.block + f.block ≡ suc k * f.block = omega arith in
      ap₂ more (ap (λ (t : Step Cell). value_along t rest) (open_blocks c q k opened h))
      (ap (λ (m : ℕ). most (map (λ m. value_along (in_quarter (cell_step f) c q m) rest) (ladder f.block m count))) e
      ∙ ladder-best rest c q (suc k) count opened (omega arith))

  pub value-turn : (q : Quarter) (quarters : List Quarter) (c : Cell) → q.opens ≡ true
      → value_at f ends (q ∷ quarters) c
      ≡ more (off_value f (value_at f ends quarters) c) (on_best f (value_at f ends quarters) c q.price f.pmin (rungs f))
  unfolding value_at
  value-turn q quarters c opened =
      ap (more (off_value f (value_at f ends quarters) c)) (ladder-best (value_at f ends quarters) c q f.pmin (rungs f) opened ok.pmin)

  -- in a quarter that is shut, off is all there is
  ladder-shut : (rest : Cell → BestProfit) (c : Cell) (q : Quarter) (k count : ℕ) → q.opens ≡ false → 1 ≤ k
      → most (map (λ m. value_along (in_quarter (cell_step f) c q m) rest) (ladder f.block (k * f.block) count)) ≡ None
  ladder-shut rest c q k zero shut h = refl
  ladder-shut rest c q k (suc count) shut h =
      let e : k * f.block + f.block ≡ suc k * f.block = omega arith in
      ap₂ more (ap (λ (t : Step Cell). value_along t rest) (in_blocks c q k h ∙ ap (λ (t : Bool). allow t (on_step f c q.price k)) shut))
      (ap (λ (m : ℕ). most (map (λ m. value_along (in_quarter (cell_step f) c q m) rest) (ladder f.block m count))) e
      ∙ ladder-shut rest c q (suc k) count shut (omega arith))

  pub value-shut : (q : Quarter) (quarters : List Quarter) (c : Cell) → q.opens ≡ false
      → value_at f ends (q ∷ quarters) c ≡ off_value f (value_at f ends quarters) c
  unfolding value_at
  value-shut q quarters c shut =
      ap (more (off_value f (value_at f ends quarters) c)) (ladder-shut (value_at f ends quarters) c q f.pmin (rungs f) shut ok.pmin)
      ∙ more-none (off_value f (value_at f ends quarters) c)

  -- where the unit may not run, no output has a value
  pub may-not-run : (rest : Cell → BestProfit) (c : Cell) (price : ℤ) (k count : ℕ) → may_run f c ≡ false → on_best f rest c price k count ≡ None
  may-not-run rest c price k zero e = refl
  may-not-run rest c price k (suc count) e = rw e (may-not-run rest c price (suc k) count e)

  -- ---- the plan's output, by the values: off where that reaches the cell's value, else the first number of blocks that does

  module _ (q : Quarter) (quarters : List Quarter) (c : Cell) (best : ℤ) (worth : value_at f ends (q ∷ quarters) c ≡ Some best) where
    -- the values of the cells after it
    abbrev rest : Cell → BestProfit
    rest = value_at f ends quarters

    plan-off : off_value f rest c ≡ Some best → plan_at f ends (q ∷ quarters) c ≡ along 0 (off_step f c) (plan_at f ends quarters)
    unfolding plan_at value_at
    plan-off h =
        first-reaching Cell Quarter (in_quarter (cell_step f)) ends (choices f) q quarters c [] 0 (ladder f.block (f.pmin * f.block) (rungs f)) refl
        (λ n i. absurd (Memᴰ.not-nil i))
        (h ∙ sym worth)

    plan-on : q.opens ≡ true → (off_value f rest c ≡ Some best → ⊥) → (k : ℕ) → f.pmin ≤ k → k ≤ f.pmax
        → ((j : ℕ) → f.pmin ≤ j → j < k → on_value f rest c q.price j ≡ Some best → ⊥) → on_value f rest c q.price k ≡ Some best
        → plan_at f ends (q ∷ quarters) c ≡ along (k * f.block) (on_step f c q.price k) (plan_at f ends quarters)
    unfolding plan_at value_at
    plan-on opened off k lo hi short h =
        first-reaching Cell Quarter (in_quarter (cell_step f)) ends (choices f) q quarters c
        (0 ∷ ladder f.block (f.pmin * f.block) (k - f.pmin)) (k * f.block)
        (ladder f.block (k * f.block + f.block) (f.pmax - k))
        split
        passed
        (ap (λ (t : Step Cell). value_along t rest) (open_blocks c q k opened (omega (arith, ok.pmin))) ∙ h ∙ sym worth)
        ∙ ap (λ (t : Step Cell). along (k * f.block) t (plan_at f ends quarters)) (open_blocks c q k opened (omega (arith, ok.pmin)))
      where
        split : choices f
            ≡ (0 ∷ ladder f.block (f.pmin * f.block) (k - f.pmin)) ++ ((k * f.block) ∷ ladder f.block (k * f.block + f.block) (f.pmax - k))
        split =
            let n : rungs f ≡ k - f.pmin + suc (f.pmax - k) = omega arith in
            let m : f.pmin * f.block + (k - f.pmin) * f.block ≡ k * f.block = blocks-join f.pmin k f.block lo in
            ap (◌∷◌ 0) (ap (ladder f.block (f.pmin * f.block)) n ∙ (rw m at (ladder-split f.block (f.pmin * f.block) (k - f.pmin) (f.pmax - k))))

        passed : (n : ℕ) → Memᴰ n (0 ∷ ladder f.block (f.pmin * f.block) (k - f.pmin))
            → value_along (in_quarter (cell_step f) c q n) rest ≡ value_at f ends (q ∷ quarters) c → ⊥
        passed n i e =
            ⊎_elim (λ (z : n ≡ 0). off (rw z at e ∙ worth))
            (λ (t : Memᴰ n (ladder f.block (f.pmin * f.block) (k - f.pmin))).
            let r = ladder-is (k - f.pmin) (f.pmin * f.block) f.block n t in
            let m : n ≡ (f.pmin + r.0) * f.block = omega (arith, r.2) in
            short (f.pmin + r.0) (omega arith) (omega (arith, r.1, lo))
            (ap (λ (t : Step Cell). value_along t rest) (sym (open_blocks c q (f.pmin + r.0) opened (omega (arith, ok.pmin))))
            ∙ (rw m at e) ∙ worth))
            (Memᴰ.cases_cons i)

    reached : (v w : BestProfit) → more v w ≡ Some best → (v ≡ Some best) ⊎ (w ≡ Some best)
    reached None w e = inr e
    reached (Some p) None e = inl e
    reached (Some p) (Some q) e = by (lt_z p q) e
      where
        by : (t : Bool) → cond t (Some q) (Some p) ≡ Some best → (Some p ≡ Some best) ⊎ (Some q ≡ Some best)
        by true e = inr e
        by false e = inl e

    one_on : (k count : ℕ) → on_best f rest c q.price k count ≡ Some best
        → (j : ℕ) × (k ≤ j) × (j < k + count) × (on_value f rest c q.price j ≡ Some best)
    one_on k zero e = absurd (no-earning e)
    one_on k (suc count) e =
        ⊎_elim (λ (h : on_value f rest c q.price k ≡ Some best). (k, omega arith, omega arith, h))
        (λ (h : on_best f rest c q.price (suc k) count ≡ Some best).
        let r = one_on (suc k) count h in
        (r.0, omega (arith, r.1), omega (arith, r.2), r.3))
        (reached (on_value f rest c q.price k) (on_best f rest c q.price (suc k) count) e)

    -- some output reaches it
    pub some_turn : q.opens ≡ true → (off_value f rest c ≡ Some best → ⊥)
        → ((k : ℕ) → f.pmin ≤ k → k ≤ f.pmax → on_value f rest c q.price k ≡ Some best → ⊥) → ⊥
    some_turn opened off on =
        ⊎_elim (λ (h : off_value f rest c ≡ Some best). off h)
        (λ (h : on_best f rest c q.price f.pmin (rungs f) ≡ Some best).
        let r = one_on f.pmin (rungs f) h in
        on r.0 r.1 (omega (arith, r.2, ok.pmax)) r.3)
        (reached (off_value f rest c) (on_best f rest c q.price f.pmin (rungs f)) (sym (value-turn q quarters c opened) ∙ worth))

    -- off is the plan's output where it reaches the cell's value
    pub off-turn : off_value f rest c ≡ Some best → OffTurn f ends q quarters c
    off-turn h =
        let t = leads-on (ltb (after_off f c.state) (states f)) (pos 0) (off_cell f c) rest best h in
        record { leads = ltb-true (after_off f c.state) (states f) t; steps = rw t; is = plan-off h ∙ (rw t) }

    -- where off does not, the first number of blocks that reaches it is the plan's
    pub on-turn : q.opens ≡ true → (off_value f rest c ≡ Some best → ⊥) → (k : ℕ) → f.pmin ≤ k → k ≤ f.pmax
        → ((j : ℕ) → f.pmin ≤ j → j < k → on_value f rest c q.price j ≡ Some best → ⊥) → on_value f rest c q.price k ≡ Some best
        → OnTurn f ends q quarters c k
    on-turn opened off k lo hi short h =
        let room = leb (k * f.takes.blocks) c.left.blocks in
        let t = leads-on (may_run f c && room) (gain f q.price k -ℤ pos (start_pays f c.state)) (on_cell f c k) rest best h in
        let all = both (may_run f c) room t in
        let run = both _ (leb f.takes.ons c.left.ons) all.0 in
        let start = both (ltb (after_on f c.state) (states f)) (leb (start_takes f c.state) c.left.starts) run.0 in
        record {
          leads = ltb-true (after_on f c.state) (states f) start.0;
          starts = leb-true (start_takes f c.state) c.left.starts start.1;
          ons = leb-true f.takes.ons c.left.ons run.1;
          blocks = leb-true (k * f.takes.blocks) c.left.blocks all.1;
          steps = open_blocks c q k opened (omega (arith, ok.pmin)) ∙ (rw t);
          is = plan-on opened off k lo hi short h ∙ (rw t);
        }

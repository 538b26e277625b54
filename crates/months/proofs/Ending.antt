-- The value of a cell by the cells where its plans end: no way to an end earns more with what the end is worth, and one earns as much.
use Rattle.std.specs.Prelude.{None, Some}
use mathlib.Core.Path.{◌≡◌, refl, sym, ap, ap₂, ◌∙◌, subst}
use mathlib.Core.Bool.{Bool, true, false, cond, ◌&&◌, ◌||◌}
use mathlib.Core.List.{List, [], ◌∷◌, append-nil}
use mathlib.Core.Logic.{◌⊎◌, ⊎_elim}
use Prim.Native.Nat.{ℕ, ◌+◌, ◌-◌, ◌*◌, ◌/◌, ◌≤◌, ◌<◌}
use native.Mathlib.Nat.{mul-le-mul_right, one-mul}
use native.Mathlib.Omega.{arith}
use borrow.Author.Tests.{eqb-true, eqb-false, eq-eqb, ne_eqb, ltb-true}
use lib.Dec.{eqb, ltb, leb}
use lib.IntN.{ℤ, pos, ◌+ℤ◌, ◌-ℤ◌, +ℤ_idr}
use lib.Signed.{◌≤ℤ◌, ◌<ℤ◌}
use Rattle.integers.proofs.Linear.{zarith}
use Rattle.lists.proofs.Conjunctions.{both}
use Rattle.commitment.specs.Types.{BestProfit}
use Rattle.commitment.specs.Best.{Plan, nothing, plan, profit_of}
use Rattle.commitment.specs.Order.{earlier}
use Rattle.optimality.specs.declared.Cell.{Cell}
use Rattle.optimality.specs.declared.Figures.{Figures}
use Rattle.optimality.specs.Machine.{Step, go, allow, Quarter, in_quarter, walk, run, ended, best_from}
use Rattle.optimality.specs.Cells.{Sound, Within, InTable, cell, states, after_off, after_on, start_pays, gain, may_run, off_cell, on_cell, off_step, on_step, cell_step}
use Rattle.optimality.specs.Cells.{choices, rungs, plan_at, value_at}
use Rattle.optimality.proofs.Rival.{not-plan, Beats, Ascending, attained, no_rival}
use Rattle.optimality.proofs.Outputs.{ladder-after-zero}
use Rattle.optimality.proofs.Values.{no-earning}
use Rattle.optimality.proofs.Turns.{plan-value, off-in-table, on-in-table}
use Rattle.optimality.proofs.Split.{go-parts, no_step, parts, Cut, cut, run_on}
use Rattle.optimality.proofs.Shift.{lifted, Below, shift}
use Rattle.marks.specs.Standing.{Stands, ends_in, spent}
use Rattle.marks.proofs.Halving.{spends-within, earlier-half}

-- ---- plans end in a cell alone

abbrev only : Cell → Cell → BestProfit
only at z =
    cond (eqb z.state at.state && eqb z.left.starts at.left.starts && eqb z.left.ons at.left.ons && eqb z.left.blocks
    at.left.blocks) (Some (pos 0)) None

eqb-more : (a b : ℕ) → eqb a 0 ≡ eqb (a + b) b
eqb-more a b = by (eqb a 0) refl
  where
    by : (t : Bool) → eqb a 0 ≡ t → eqb a 0 ≡ eqb (a + b) b
    by true e = e ∙ sym (eq-eqb (a + b) b (let z = eqb-true a 0 e in omega arith))
    by false e = e ∙ sym (ne_eqb (a + b) b (λ h. let z = eqb-false a 0 e in z (omega arith)))

lifted-ends : (at d : Cell) → ends_in at.state d ≡ only at (lifted at d)
lifted-ends at d = rw (eqb-more d.left.starts at.left.starts, eqb-more d.left.ons at.left.ons, eqb-more d.left.blocks at.left.blocks)

is-only : (at y : Cell) (q : ℤ) → only at y ≡ Some q → (y ≡ at) × (q ≡ pos 0)
is-only at y q e = by (eqb y.state at.state && eqb y.left.starts at.left.starts && eqb y.left.ons at.left.ons && eqb
    y.left.blocks at.left.blocks) refl e
  where
    by : (t : Bool) → (eqb y.state at.state && eqb y.left.starts at.left.starts && eqb y.left.ons at.left.ons && eqb
        y.left.blocks at.left.blocks) ≡ t
        → cond t (Some (pos 0)) None ≡ Some q → (y ≡ at) × (q ≡ pos 0)
    by false k e = absurd (no-earning e)
    by true k e =
        let a = both _ (eqb y.left.blocks at.left.blocks) k in
        let b = both _ (eqb y.left.ons at.left.ons) a.0 in
        let c = both (eqb y.state at.state) (eqb y.left.starts at.left.starts) b.0 in
        let same : cell y.state y.left.starts y.left.ons y.left.blocks ≡ cell at.state at.left.starts at.left.ons at.left.blocks =
        rw (
          eqb-true y.state at.state c.0,
          eqb-true y.left.starts at.left.starts c.1,
          eqb-true y.left.ons at.left.ons b.1,
          eqb-true y.left.blocks at.left.blocks a.1,
        ) in
        (same, earned e)
      where
        earned : Some (pos 0) ≡ Some q → q ≡ pos 0
        earned e = cc

only_above : (at z : Cell) → Below at z → only at z ≡ None
only_above at z b = by (only at z) refl
  where
    by : (v : BestProfit) → only at z ≡ v → only at z ≡ None
    by None e = e
    by (Some q) e =
        let k = (is-only at z q e).0 in
        absurd
        (⊎_elim (λ (l : z.left.starts < at.left.starts). omega (arith, ap (λ (y : Cell). y.left.starts) k))
        (λ (r : (z.left.ons < at.left.ons) ⊎ (z.left.blocks < at.left.blocks)).
        ⊎_elim (λ (l : z.left.ons < at.left.ons). omega (arith, ap (λ (y : Cell). y.left.ons) k))
        (λ (l : z.left.blocks < at.left.blocks). omega (arith, ap (λ (y : Cell). y.left.blocks) k)) r) b)

-- ---- walks stay in the table

abbrev step : Figures → Cell → Quarter → ℕ → Step Cell
step f = in_quarter (cell_step f)

module _ (f : Figures) where
  allowed : (t : Bool) (g h : ℤ) (x y : Cell) → allow t (go h x) ≡ go g y → (t ≡ true) × (x ≡ y)
  allowed true g h x y e = (refl, (go-parts e).1)
  allowed false g h x y e = absurd (no_step e)

  step-inside : (c : Cell) (q : Quarter) (m : ℕ) (g : ℤ) (y : Cell) → InTable f c → in_quarter (cell_step f) c q m ≡ go g y → InTable f y
  step-inside c q m g y i e = whether (eqb m 0 || q.opens) e
    where
      on : on_step f c q.price (m / f.block) ≡ go g y → InTable f y
      on e =
          let k = m / f.block in
          let a = allowed (may_run f c && leb (k * f.takes.blocks) c.left.blocks) g (gain f q.price k -ℤ pos (start_pays f c.state))
          (on_cell f c k) y e in
          let run = (both (may_run f c) (leb (k * f.takes.blocks) c.left.blocks) a.0).0 in
          let starts = (both _ (leb f.takes.ons c.left.ons) run).0 in
          let leads = (both (ltb (after_on f c.state) (states f)) _ starts).0 in
          subst (InTable f) a.1 (on-in-table f c k i (ltb-true (after_on f c.state) (states f) leads))

      off : off_step f c ≡ go g y → InTable f y
      off e =
          let a = allowed (ltb (after_off f c.state) (states f)) g (pos 0) (off_cell f c) y e in
          subst (InTable f) a.1 (off-in-table f c i (ltb-true (after_off f c.state) (states f) a.0))

      either : (t : Bool) → cond t (off_step f c) (on_step f c q.price (m / f.block)) ≡ go g y → InTable f y
      either true e = off e
      either false e = on e

      whether : (t : Bool) → allow t (cell_step f c q.price m) ≡ go g y → InTable f y
      whether true e = either (eqb m 0) e
      whether false e = absurd (no_step e)

  walk_inside : (is : List Quarter) (c : Cell) (s : List ℕ) (g : ℤ) (y : Cell) → InTable f c → walk Cell Quarter (step f) is c s ≡ go g y
      → InTable f y
  walk_inside [] c [] g y i e = subst (InTable f) (go-parts e).1 i
  walk_inside [] c (m ∷ s) g y i e = absurd (no_step e)
  walk_inside (q ∷ is) c [] g y i e = absurd (no_step e)
  walk_inside (q ∷ is) c (m ∷ s) g y i e =
      let k = parts (in_quarter (cell_step f) c q m) (λ z. walk Cell Quarter (step f) is z s) g y e in
      walk_inside is k.at s k.second y (step-inside c q m k.first k.at i k.steps) k.goes

-- ---- where a run arrives, and what that is worth

module _ (f : Figures) (ends : Cell → BestProfit) where
  record Arrives (is : List Quarter) (c : Cell) (s : List ℕ) (p : ℤ) : Type 0 where
    at : Cell
    earned : ℤ
    profit : ℤ
    leads : walk Cell Quarter (step f) is c s ≡ go earned at
    worth : ends at ≡ Some profit
    sum : earned +ℤ profit ≡ p

  arrives : (is : List Quarter) (c : Cell) (s : List ℕ) (p : ℤ) → run Cell Quarter (step f) ends is c s ≡ plan s p → Arrives is c s p
  arrives is c s p e = by k.back (ends k.at) refl refl k.runs
    where
      k : Cut Cell Quarter (step f) ends is [] c s p
      k = cut Cell Quarter (step f) ends is [] c s p (rw (append-nil is) e)

      by : (b : List ℕ) (v : BestProfit) → k.back ≡ b → ends k.at ≡ v → run Cell Quarter (step f) ends [] k.at k.back ≡ plan k.back k.rest
          → Arrives is c s p
      by (m ∷ b) v i j r = absurd (not-plan (rw i at r))
      by [] None i j r = absurd (not-plan (rw (i, j) at r))
      by [] (Some z) i j r =
          let n : plan [] z ≡ plan [] k.rest = rw (i, j) at r in
          let rest : z ≡ k.rest = cc in
          let whole : k.front ≡ s = sym (append-nil k.front) ∙ (rw i at k.whole) in
          record {
            at = k.at;
            earned = k.earned;
            profit = k.rest;
            leads = ap (walk Cell Quarter (step f) is c) (sym whole) ∙ k.leads;
            worth = j ∙ ap Some rest;
            sum = k.sum;
          }

-- a profit is that of a plan
planned : (p : Plan) (v : ℤ) → profit_of p ≡ Some v → (s : List ℕ) × (p ≡ plan s v)
planned nothing v e = absurd (no-earning e)
planned (plan s q) v e = let i : q ≡ v = cc in (s, ap (plan s) i)

choices-ascending : (f : Figures) → Sound f → Ascending (choices f)
choices-ascending f ok =
    let m : 1 * f.block ≤ f.pmin * f.block = mul-le-mul_right f.block ok.pmin in
    ladder-after-zero (rungs f) (f.pmin * f.block) f.block ok.block (omega (arith, m, one-mul f.block, ok.block))

-- as much of each again
lifted-again : (c at : Cell) → Within at.left c.left → lifted at (spent c at) ≡ c
lifted-again c at w =
    let x : c.left.starts - at.left.starts + at.left.starts ≡ c.left.starts = omega (arith, w.starts) in
    let y : c.left.ons - at.left.ons + at.left.ons ≡ c.left.ons = omega (arith, w.ons) in
    let z : c.left.blocks - at.left.blocks + at.left.blocks ≡ c.left.blocks = omega (arith, w.blocks) in
    rw (x, y, z)

-- ---- the value by the ends

module _ (f : Figures) (ok : Sound f) (ends : Cell → BestProfit) (quarters : List Quarter) (c : Cell) where
  -- a plan of the cell ends in `at`, and earns so much with what that is worth
  pub record Meets (u : ℤ) : Type 0 where
    pub at : Cell
    pub inside : InTable f at
    pub within : Within at.left c.left
    pub earned : ℤ
    pub profit : ℤ
    pub way : value_at f (ends_in at.state) quarters (spent c at) ≡ Some earned
    pub worth : ends at ≡ Some profit
    pub sum : earned +ℤ profit ≡ u

  -- the plan, and where it arrives
  module _ (i : InTable f c) (u : ℤ) (s : List ℕ) (p : plan_at f ends quarters c ≡ plan s u) (a : Arrives f ends quarters c s u) where
    stands : Stands f ends quarters [] c a.at
    unfolding plan_at
    stands =
        record {
          inside = walk_inside f quarters c s a.earned a.at i a.leads;
          outputs = s;
          earned = a.earned;
          leads = a.leads;
          rest = [];
          profit = a.profit;
          goes_on = ap ended a.worth;
          whole = rw (append-nil quarters, append-nil s, a.sum) p;
        }

    meeting : Meets u
    unfolding stands
    meeting =
        record {
          at = a.at;
          inside = stands.inside;
          within = spends-within f ok ends quarters [] c a.at stands;
          earned = a.earned;
          profit = a.profit;
          way = sym (plan-value f (ends_in a.at.state) quarters (spent c a.at))
              ∙ ap profit_of (earlier-half f ok ends quarters [] c a.at stands);
          worth = a.worth;
          sum = a.sum;
        }

  pub meets : InTable f c → (u : ℤ) → value_at f ends quarters c ≡ Some u → Meets u
  unfolding plan_at
  meets i u e =
      let p = planned (plan_at f ends quarters c) u (plan-value f ends quarters c ∙ e) in
      let r = attained Cell Quarter (step f) ends (choices f) quarters c p.0 u p.1 in
      meeting i u p.0 p.1 (arrives f ends quarters c p.0 u r.0)

  -- no way to an end earns more with it
  pub record Least (p : ℤ) : Type 0 where
    pub value : ℤ
    pub is : value_at f ends quarters c ≡ Some value
    pub least : p ≤ℤ value

  module _ (at : Cell) (p v : ℤ) (w : Within at.left c.left) (worth : ends at ≡ Some v) (s : List ℕ) where
    -- the way as one that ends in the cell alone
    there : plan_at f (ends_in at.state) quarters (spent c at) ≡ plan s p
        → best_from Cell Quarter (step f) (only at) (choices f) quarters c ≡ plan s p
    unfolding plan_at
    there way =
        ap (best_from Cell Quarter (step f) (only at) (choices f) quarters) (sym (lifted-again c at w))
        ∙ sym (shift f at (choices f) (ends_in at.state) (only at) (lifted-ends at) (only_above at) quarters (spent c at)) ∙ way

    module _ (a : Arrives f (only at) quarters c s p) where
      leads : walk Cell Quarter (step f) quarters c s ≡ go p at
      leads =
          let o = is-only at a.at a.profit a.worth in
          let sum : a.earned ≡ p = sym (+ℤ_idr a.earned) ∙ (rw o.1 at a.sum) in
          a.leads ∙ ap₂ go sum o.0

      runs : run Cell Quarter (step f) ends quarters c s ≡ plan s (p +ℤ v)
      runs =
          let j = run_on Cell Quarter (step f) ends quarters [] c s [] p at leads in
          (rw (append-nil quarters, append-nil s, worth) at j) ∙ ap (λ (z : List ℕ). plan z (p +ℤ v)) (append-nil s)

    beaten : (b : Plan) → plan_at f ends quarters c ≡ b → Beats b s (p +ℤ v) → Least (p +ℤ v)
    beaten nothing e h = absurd h
    beaten (plan t u) e h =
        record {
          value = u;
          is = sym (plan-value f ends quarters c) ∙ ap profit_of e;
          least =
              ⊎_elim (λ (k : (p +ℤ v) <ℤ u). omega zarith) (λ (k : (p +ℤ v ≡ u) × (earlier s t ≡ false)). omega (zarith, k.0)) h;
        }

    rival : plan_at f (ends_in at.state) quarters (spent c at) ≡ plan s p → Least (p +ℤ v)
    unfolding plan_at
    rival way =
        let r = attained Cell Quarter (step f) (only at) (choices f) quarters c s p (there way) in
        beaten (plan_at f ends quarters c) refl
        (no_rival Cell Quarter (step f) ends (choices f) (choices-ascending f ok) quarters c s (p +ℤ v) r.1
        (runs (arrives f (only at) quarters c s p r.0)))

  pub reaches : (at : Cell) (p v : ℤ) → Within at.left c.left → value_at f (ends_in at.state) quarters (spent c at) ≡ Some p → ends at ≡ Some v
      → Least (p +ℤ v)
  reaches at p v w way worth =
      let s = planned (plan_at f (ends_in at.state) quarters (spent c at)) p (plan-value f (ends_in at.state) quarters (spent c at) ∙ way) in
      rival at p v w worth s.0 s.1

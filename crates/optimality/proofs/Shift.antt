-- Budgets that are not touched change nothing: the plans from a cell to an end with nothing left are those from a cell with more of everything to an end
-- with just that more left.
use Rattle.std.specs.Prelude.{None}
use mathlib.Core.Path.{◌≡◌, refl, sym, ap, ap₂, ◌∙◌}
use mathlib.Core.Bool.{Bool, true, false, cond, ◌&&◌, ◌||◌, true≢false}
use mathlib.Core.List.{List, [], ◌∷◌, map}
use mathlib.Core.Logic.{◌⊎◌, ⊎_elim, inl, inr}
use Prim.Native.Nat.{ℕ, ◌+◌, ◌-◌, ◌*◌, ◌/◌, ◌≤◌, ◌<◌}
use native.Mathlib.Omega.{arith}
use borrow.Author.Tests.{leb-true, leb-false, le-leb}
use lib.Dec.{leb, ltb, eqb}
use lib.IntN.{ℤ, pos, ◌-ℤ◌}
use Rattle.lists.proofs.Conjunctions.{both}
use Rattle.commitment.specs.Types.{BestProfit}
use Rattle.commitment.specs.Best.{Plan, nothing, better, first_best}
use Rattle.optimality.specs.declared.Figures.{Figures}
use Rattle.optimality.specs.declared.Cell.{Cell}
use Rattle.optimality.specs.Machine.{Step, stop, go, allow, Quarter, in_quarter, ended, after, along, best_from}
use Rattle.optimality.specs.Cells.{cell, states, after_off, after_on, start_takes, start_pays, gain, may_run, off_cell, on_cell, off_step, on_step, cell_step}

-- with as much more as `at` has left
abbrev pub lifted : Cell → Cell → Cell
lifted at d = cell d.state (d.left.starts + at.left.starts) (d.left.ons + at.left.ons) (d.left.blocks + at.left.blocks)

-- less of something than `at` has left
abbrev pub Below : Cell → Cell → Type 0
Below at z = (z.left.starts < at.left.starts) ⊎ ((z.left.ons < at.left.ons) ⊎ (z.left.blocks < at.left.blocks))

-- a step that leads below, if it leads anywhere
abbrev StepsBelow : Cell → Step Cell → Type 0
StepsBelow at stop = Unit
StepsBelow at (go g y) = Below at y

-- a step and that of the lifted cell: the same, or one that leads below
abbrev Lifts : Cell → Step Cell → Step Cell → Type 0
Lifts at stop t = StepsBelow at t
Lifts at (go g y) t = t ≡ go g (lifted at y)

-- ---- one step

module _ (f : Figures) (at : Cell) where
  below-allowed : (t : Bool) (s : Step Cell) → StepsBelow at s → StepsBelow at (allow t s)
  below-allowed true s h = h
  below-allowed false s h = tt

  on_below : (z : Cell) (price : ℤ) (k : ℕ) → Below at z → StepsBelow at (on_step f z price k)
  on_below z price k b =
      below-allowed (may_run f z && leb (k * f.takes.blocks) z.left.blocks) (go (gain f price k -ℤ pos (start_pays f z.state)) (on_cell f z k))
      (⊎_elim (λ (l : z.left.starts < at.left.starts). inl (omega arith))
      (λ (r : (z.left.ons < at.left.ons) ⊎ (z.left.blocks < at.left.blocks)).
      inr (⊎_elim (λ (l : z.left.ons < at.left.ons). inl (omega arith)) (λ (l : z.left.blocks < at.left.blocks). inr (omega arith)) r)) b)

  step-below : (z : Cell) (q : Quarter) (m : ℕ) → Below at z → StepsBelow at (in_quarter (cell_step f) z q m)
  step-below z q m b = below-allowed (eqb m 0 || q.opens) (cell_step f z q.price m) (by (eqb m 0))
    where
      by : (t : Bool) → StepsBelow at (cond t (off_step f z) (on_step f z q.price (m / f.block)))
      by true = below-allowed (ltb (after_off f z.state) (states f)) (go (pos 0) (off_cell f z)) b
      by false = on_below z q.price (m / f.block) b

  lifts-allowed : (t : Bool) (s r : Step Cell) → Lifts at s r → Lifts at (allow t s) (allow t r)
  lifts-allowed true s r h = h
  lifts-allowed false s r h = tt

  off-lifts : (d : Cell) → Lifts at (off_step f d) (off_step f (lifted at d))
  off-lifts d = by (ltb (after_off f d.state) (states f))
    where
      by : (t : Bool) → Lifts at (allow t (go (pos 0) (off_cell f d))) (allow t (go (pos 0) (off_cell f (lifted at d))))
      by true = refl
      by false = tt

  whether : (t : Bool) (g : ℤ) (y : Cell) → (t ≡ true → Below at y) → StepsBelow at (allow t (go g y))
  whether true g y h = h refl
  whether false g y h = tt

  module _ (d : Cell) (price : ℤ) (k : ℕ) where
    abbrev takes : ℕ
    takes = start_takes f d.state

    abbrev earns : ℤ
    earns = gain f price k -ℤ pos (start_pays f d.state)

    -- what the lifted cell allows
    abbrev may : Bool
    may = may_run f (lifted at d) && leb (k * f.takes.blocks) (d.left.blocks + at.left.blocks)

    has : may ≡ true → (takes ≤ d.left.starts + at.left.starts) × (f.takes.ons ≤ d.left.ons + at.left.ons) ×
        (k * f.takes.blocks ≤ d.left.blocks + at.left.blocks)
        × (ltb (after_on f d.state) (states f) ≡ true)
    has e =
        let all = both (may_run f (lifted at d)) (leb (k * f.takes.blocks) (d.left.blocks + at.left.blocks)) e in
        let run = both _ (leb f.takes.ons (d.left.ons + at.left.ons)) all.0 in
        let start = both (ltb (after_on f d.state) (states f)) (leb takes (d.left.starts + at.left.starts)) run.0 in (
          leb-true takes (d.left.starts + at.left.starts) start.1,
          leb-true f.takes.ons (d.left.ons + at.left.ons) run.1,
          leb-true (k * f.takes.blocks) (d.left.blocks + at.left.blocks) all.1,
          start.0,
        )

    on-lifts : Lifts at (on_step f d price k) (on_step f (lifted at d) price k)
    on-lifts =
        by (ltb (after_on f d.state) (states f)) refl (leb takes d.left.starts) refl (leb f.takes.ons d.left.ons) refl
        (leb (k * f.takes.blocks) d.left.blocks) refl
      where
        by : (t : Bool) → ltb (after_on f d.state) (states f) ≡ t → (a : Bool) → leb takes d.left.starts ≡ a → (b : Bool) → leb f.takes.ons
            d.left.ons ≡ b
            → (c : Bool) → leb (k * f.takes.blocks) d.left.blocks ≡ c
            → Lifts at (allow (t && a && b && c) (go earns (on_cell f d k))) (on_step f (lifted at d) price k)
        by true t true a true b true c =
            let ha = leb-true takes d.left.starts a in
            let hb = leb-true f.takes.ons d.left.ons b in
            let hc = leb-true (k * f.takes.blocks) d.left.blocks c in
            let x : d.left.starts + at.left.starts - takes ≡ d.left.starts - takes + at.left.starts = omega arith in
            let y : d.left.ons + at.left.ons - f.takes.ons ≡ d.left.ons - f.takes.ons + at.left.ons = omega arith in
            let z : d.left.blocks + at.left.blocks - k * f.takes.blocks ≡ d.left.blocks - k * f.takes.blocks + at.left.blocks = omega arith in
            rw (
              t,
              le-leb takes (d.left.starts + at.left.starts) (omega arith),
              le-leb f.takes.ons (d.left.ons + at.left.ons) (omega arith),
              le-leb (k * f.takes.blocks) (d.left.blocks + at.left.blocks) (omega arith),
              x,
              y,
              z,
            )
        by true t true a true b false c =
            let hc = leb-false (k * f.takes.blocks) d.left.blocks c in
            whether may earns (on_cell f (lifted at d) k) (λ e. let h = has e in inr (inr (omega (arith, h.2))))
        by true t true a false b c i =
            let hb = leb-false f.takes.ons d.left.ons b in
            whether may earns (on_cell f (lifted at d) k) (λ e. let h = has e in inr (inl (omega (arith, h.1))))
        by true t false a b i c j =
            let ha = leb-false takes d.left.starts a in
            whether may earns (on_cell f (lifted at d) k) (λ e. let h = has e in inl (omega (arith, h.0)))
        by false t a i b j c l = whether may earns (on_cell f (lifted at d) k) (λ e. absurd (true≢false (sym (has e).3 ∙ t)))

  step-lifts : (d : Cell) (q : Quarter) (m : ℕ) → Lifts at (in_quarter (cell_step f) d q m) (in_quarter (cell_step f) (lifted at d) q m)
  step-lifts d q m = lifts-allowed (eqb m 0 || q.opens) (cell_step f d q.price m) (cell_step f (lifted at d) q.price m) (by (eqb m 0))
    where
      by : (t : Bool)
          → Lifts at (cond t (off_step f d) (on_step f d q.price (m / f.block)))
          (cond t (off_step f (lifted at d)) (on_step f (lifted at d) q.price (m / f.block)))
      by true = off-lifts d
      by false = on-lifts d q.price (m / f.block)

-- ---- plans

best-same : (outputs : List ℕ) (a b : ℕ → Plan) → ((m : ℕ) → a m ≡ b m) → first_best (map a outputs) ≡ first_best (map b outputs)
best-same [] a b h = refl
best-same (m ∷ ms) a b h = ap₂ better (h m) (best-same ms a b h)

best_none : (outputs : List ℕ) (a : ℕ → Plan) → ((m : ℕ) → a m ≡ nothing) → first_best (map a outputs) ≡ nothing
best_none [] a h = refl
best_none (m ∷ ms) a h = ap₂ better (h m) (best_none ms a h)

module _ (f : Figures) (at : Cell) (outputs : List ℕ) (ends there : Cell → BestProfit) (same : (d : Cell) → ends d ≡ there (lifted at d))
    (none : (z : Cell) → Below at z → there z ≡ None) where
  pub below_none : (is : List Quarter) (z : Cell) → Below at z → best_from Cell Quarter (in_quarter (cell_step f)) there outputs is z ≡ nothing
  below_none [] z b = ap ended (none z b)
  below_none (q ∷ is) z b =
      best_none outputs (λ m. along m (in_quarter (cell_step f) z q m) (best_from Cell Quarter (in_quarter (cell_step f)) there outputs is))
      (λ m. by m (λ y h. below_none is y h) (in_quarter (cell_step f) z q m) (step-below f at z q m b))
    where
      by : (m : ℕ) → ((y : Cell) → Below at y → best_from Cell Quarter (in_quarter (cell_step f)) there outputs is y ≡ nothing) → (s : Step Cell)
          → StepsBelow at s → along m s (best_from Cell Quarter (in_quarter (cell_step f)) there outputs is) ≡ nothing
      by m later stop h = refl
      by m later (go g y) h = ap (after m g) (later y h)

  pub shift : (is : List Quarter) (d : Cell)
      → best_from Cell Quarter (in_quarter (cell_step f)) ends outputs is d ≡ best_from Cell Quarter (in_quarter (cell_step f)) there outputs is (lifted at d)
  shift [] d = ap ended (same d)
  shift (q ∷ is) d =
      best-same outputs (λ m. along m (in_quarter (cell_step f) d q m) (best_from Cell Quarter (in_quarter (cell_step f)) ends outputs is))
      (λ m. along m (in_quarter (cell_step f) (lifted at d) q m) (best_from Cell Quarter (in_quarter (cell_step f)) there outputs is))
      (λ m. by m (λ y. shift is y) (in_quarter (cell_step f) d q m) (in_quarter (cell_step f) (lifted at d) q m) (step-lifts f at d q m))
    where
      by : (m : ℕ)
          → ((y : Cell)
          → best_from Cell Quarter (in_quarter (cell_step f)) ends outputs is y ≡ best_from Cell Quarter (in_quarter (cell_step f)) there outputs is (lifted at y))
          → (s r : Step Cell) → Lifts at s r
          → along m s (best_from Cell Quarter (in_quarter (cell_step f)) ends outputs is)
          ≡ along m r (best_from Cell Quarter (in_quarter (cell_step f)) there outputs is)
      by m later stop stop h = refl
      by m later stop (go g z) h = sym (ap (after m g) (below_none is z h))
      by m later (go g y) r h =
          ap (after m g) (later y)
          ∙ ap (λ (t : Step Cell). along m t (best_from Cell Quarter (in_quarter (cell_step f)) there outputs is)) (sym h)

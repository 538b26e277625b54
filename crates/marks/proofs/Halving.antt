-- A plan cut at the cell where it stands: the earlier part is the best plan from what is spent to the cell's state with nothing left.
use Rattle.std.specs.Prelude.{None, Some}
use mathlib.Core.Path.{◌≡◌, refl, sym, ap, ap₂, ◌∙◌}
use mathlib.Core.Bool.{Bool, true, false, cond, ◌&&◌}
use mathlib.Core.List.{List, [], ◌∷◌, ◌++◌}
use mathlib.Core.Logic.{◌⊎◌, ⊎_elim, inl, inr}
use Prim.Native.Nat.{ℕ, ◌+◌, ◌-◌, ◌*◌, ◌≤◌, ◌<◌}
use native.Mathlib.Nat.{mul-le-mul_right, one-mul}
use native.Mathlib.Omega.{arith}
use borrow.Author.Tests.{eqb-true, eqb-false, eq-eqb, ne_eqb, ltb-true, ltb-false}
use lib.Dec.{eqb, ltb}
use lib.IntN.{ℤ, pos, ◌+ℤ◌}
use lib.ListN.{length}
use Rattle.lists.proofs.Conjunctions.{both}
use Rattle.commitment.specs.Types.{BestProfit}
use Rattle.commitment.specs.Best.{plan}
use Rattle.optimality.specs.declared.Cell.{Cell}
use Rattle.optimality.specs.declared.Figures.{Figures}
use Rattle.optimality.specs.Machine.{Step, Quarter, go, in_quarter, walk, best_from}
use Rattle.optimality.specs.Cells.{Sound, Within, cell, cell_step, choices, rungs, plan_at}
use Rattle.optimality.proofs.Rival.{not-plan, Ascending}
use Rattle.optimality.proofs.Outputs.{ladder-after-zero}
use Rattle.optimality.proofs.Values.{no-earning}
use Rattle.optimality.proofs.Split.{go-parts, walk-length, Cut, halves, front-best}
use Rattle.optimality.proofs.Shift.{lifted, Below, below_none, shift}
use Rattle.marks.specs.Standing.{Stands, ends_in, spent}

-- plans end in a cell alone
abbrev only : Cell → Cell → BestProfit
only at z =
    cond (eqb z.state at.state && eqb z.left.starts at.left.starts && eqb z.left.ons at.left.ons && eqb z.left.blocks
    at.left.blocks) (Some (pos 0)) None

-- more of both changes nothing
eqb-more : (a b : ℕ) → eqb a 0 ≡ eqb (a + b) b
eqb-more a b = by (eqb a 0) refl
  where
    by : (t : Bool) → eqb a 0 ≡ t → eqb a 0 ≡ eqb (a + b) b
    by true e = e ∙ sym (eq-eqb (a + b) b (let z = eqb-true a 0 e in omega arith))
    by false e = e ∙ sym (ne_eqb (a + b) b (λ h. let z = eqb-false a 0 e in z (omega arith)))

lifted-ends : (at d : Cell) → ends_in at.state d ≡ only at (lifted at d)
lifted-ends at d = rw (eqb-more d.left.starts at.left.starts, eqb-more d.left.ons at.left.ons, eqb-more d.left.blocks at.left.blocks)

-- one cell
is-only : (at y : Cell) (q : ℤ) → only at y ≡ Some q → (y ≡ at) × (q ≡ pos 0)
is-only at y q e = by (eqb y.state at.state && eqb y.left.starts at.left.starts && eqb y.left.ons at.left.ons && eqb
    y.left.blocks at.left.blocks) refl e
  where
    by : (t : Bool) → (eqb y.state at.state && eqb y.left.starts at.left.starts && eqb y.left.ons at.left.ons && eqb
        y.left.blocks at.left.blocks) ≡ t
        → cond t (Some (pos 0)) None ≡ Some q → (y ≡ at) × (q ≡ pos 0)
    by false k e = absurd (no-earning e)
    by true k e =
        let a = both _ (eqb y.left.blocks at.left.blocks) k in
        let b = both _ (eqb y.left.ons at.left.ons) a.0 in
        let c = both (eqb y.state at.state) (eqb y.left.starts at.left.starts) b.0 in
        let same : cell y.state y.left.starts y.left.ons y.left.blocks ≡ cell at.state at.left.starts at.left.ons at.left.blocks =
        rw (
          eqb-true y.state at.state c.0,
          eqb-true y.left.starts at.left.starts c.1,
          eqb-true y.left.ons at.left.ons b.1,
          eqb-true y.left.blocks at.left.blocks a.1,
        ) in
        (same, earned e)
      where
        earned : Some (pos 0) ≡ Some q → q ≡ pos 0
        earned e = cc

only-itself : (at : Cell) → only at at ≡ Some (pos 0)
only-itself at =
    rw (
      eq-eqb at.state at.state refl,
      eq-eqb at.left.starts at.left.starts refl,
      eq-eqb at.left.ons at.left.ons refl,
      eq-eqb
          at.left.blocks at.left.blocks refl,
    )

only_above : (at z : Cell) → Below at z → only at z ≡ None
only_above at z b = by (only at z) refl
  where
    by : (v : BestProfit) → only at z ≡ v → only at z ≡ None
    by None e = e
    by (Some q) e =
        let k = (is-only at z q e).0 in
        absurd
        (⊎_elim (λ (l : z.left.starts < at.left.starts). omega (arith, ap (λ (y : Cell). y.left.starts) k))
        (λ (r : (z.left.ons < at.left.ons) ⊎ (z.left.blocks < at.left.blocks)).
        ⊎_elim (λ (l : z.left.ons < at.left.ons). omega (arith, ap (λ (y : Cell). y.left.ons) k))
        (λ (l : z.left.blocks < at.left.blocks). omega (arith, ap (λ (y : Cell). y.left.blocks) k)) r) b)

same_parts : (a b c d : List ℕ) → length a ≡ length c → a ++ b ≡ c ++ d → (a ≡ c) × (b ≡ d)
same_parts [] b [] d n e = (refl, e)
same_parts [] b (x ∷ c) d n e = absurd (omega arith)
same_parts (x ∷ a) b [] d n e = absurd (omega arith)
same_parts (x ∷ a) b (y ∷ c) d n e =
    let head : x ≡ y = cc in
    let tail : a ++ b ≡ c ++ d = cc in
    let r = same_parts a b c d (omega arith) tail in
    (ap₂ ◌∷◌ head r.0, r.1)

choices-ascending : (f : Figures) → Sound f → Ascending (choices f)
choices-ascending f ok =
    let m : 1 * f.block ≤ f.pmin * f.block = mul-le-mul_right f.block ok.pmin in
    ladder-after-zero (rungs f) (f.pmin * f.block) f.block ok.block (omega (arith, m, one-mul f.block, ok.block))

module _ (f : Figures) (ok : Sound f) (ends : Cell → BestProfit) (front later : List Quarter) (c at : Cell) (s : Stands f ends front later c at) where
  abbrev step : Cell → Quarter → ℕ → Step Cell
  step = in_quarter (cell_step f)

  asc : Ascending (choices f)
  asc = choices-ascending f ok

  best : best_from Cell Quarter step ends (choices f) (front ++ later) c ≡ plan (s.outputs ++ s.rest) (s.earned +ℤ s.profit)
  unfolding plan_at
  best = s.whole

  -- the cut is where it stands
  abbrev here : Cut Cell Quarter step ends front later c (s.outputs ++ s.rest) (s.earned +ℤ s.profit)
  here = halves Cell Quarter step ends (choices f) asc front later c (s.outputs ++ s.rest) (s.earned +ℤ s.profit) best

  fronts : here.front ≡ s.outputs
  fronts =
      (same_parts here.front here.back s.outputs s.rest
      (walk-length Cell Quarter step front c here.front here.earned here.at here.leads
      ∙ sym (walk-length Cell Quarter step front c s.outputs s.earned at s.leads)) here.whole).0

  ends-here : ◌≡◌ {A = Step Cell} (go here.earned here.at) (go s.earned at)
  ends-here = sym here.leads ∙ ap (walk Cell Quarter step front c) fronts ∙ s.leads

  at_here : here.at ≡ at
  at_here = (go-parts ends-here).1

  only_here : (y : Cell) (q : ℤ) → only at y ≡ Some q → (y ≡ here.at) × (q ≡ pos 0)
  only_here y q e = let k = is-only at y q e in (k.0 ∙ sym at_here, k.1)

  there : only at here.at ≡ Some (pos 0)
  there = ap (only at) at_here ∙ only-itself at

  to-the-middle : best_from Cell Quarter step (only at) (choices f) front c ≡ plan s.outputs s.earned
  to-the-middle =
      front-best Cell Quarter step ends (choices f) asc front later c (s.outputs ++ s.rest) (s.earned +ℤ s.profit) best (only at) there only_here
      ∙ ap₂ plan fronts (go-parts ends-here).0

  -- a plan spends: no budget of `at` is above c's
  not-below : Below at c → ⊥
  not-below b = not-plan (sym (below_none f at (choices f) (ends_in at.state) (only at) (lifted-ends at) (only_above at) front c b) ∙ to-the-middle)

  spends : lifted at (spent c at) ≡ c
  spends =
      let x : c.left.starts - at.left.starts + at.left.starts ≡ c.left.starts = up c.left.starts at.left.starts (λ l. not-below (inl l)) in
      let y : c.left.ons - at.left.ons + at.left.ons ≡ c.left.ons = up c.left.ons at.left.ons (λ l. not-below (inr (inl l))) in
      let z : c.left.blocks - at.left.blocks + at.left.blocks ≡ c.left.blocks = up c.left.blocks at.left.blocks
      (λ l. not-below (inr (inr l))) in
      rw (x, y, z)
    where
      up : (a b : ℕ) → (a < b → ⊥) → a - b + b ≡ a
      up a b h = by (ltb a b) refl
        where
          by : (t : Bool) → ltb a b ≡ t → a - b + b ≡ a
          by true e = absurd (h (ltb-true a b e))
          by false e = let l = ltb-false a b e in omega arith

  pub spends-within : Within at.left c.left
  spends-within =
      let x = ap (λ (z : Cell). z.left.starts) spends in
      let y = ap (λ (z : Cell). z.left.ons) spends in
      let z = ap (λ (z : Cell). z.left.blocks) spends in
      record { starts = omega (arith, x); ons = omega (arith, y); blocks = omega (arith, z) }

  pub earlier-half : plan_at f (ends_in at.state) front (spent c at) ≡ plan s.outputs s.earned
  unfolding plan_at
  earlier-half =
      shift f at (choices f) (ends_in at.state) (only at) (lifted-ends at) (only_above at) front (spent c at)
      ∙ ap (best_from Cell Quarter step (only at) (choices f) front) spends ∙ to-the-middle

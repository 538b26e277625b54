-- An output that is 0, and one that is not, as the code tests them.
use mathlib.Core.Path.{◌≡◌, refl, ap}
use mathlib.Core.Bool.{Bool, true, false, ◌&&◌, cond}
use Prim.Native.Nat.{ℕ, zero, suc, ◌*◌, ◌%◌, ◌+◌}
use native.Mathlib.Omega.{arith}
use lib.Dec.{leb, eqb}
use lib.IntN.{ℤ, pos, ◌-ℤ◌}
use Rattle.commitment.specs.declared.Generator.{Generator}
use Rattle.commitment.specs.declared.UnitRecord.{UnitRecord}
use Rattle.commitment.specs.Profit.{margin, start_cost}
use Rattle.commitment.specs.Schedule.{is_output}
use Rattle.assessment.specs.declared.Walk.{Walk}
use Rattle.assessment.specs.Walking.{spell_kept, rested, ran, advanced, stepped}

module _ (g : Generator) where
  pub output_on : (m : ℕ) → (m ≡ 0 → ⊥)
      → is_output g m ≡ (eqb (m % g.block) 0 && leb (g.pmin * g.block) m && leb m (g.pmax * g.block))
  output_on zero h = absurd (h refl)
  output_on (suc m) h = refl

  pub spell-off : (on t : Bool) (spent m : ℕ) → on ≡ t → m ≡ 0 → spell_kept g on spent m ≡ cond t (leb g.mot spent) true
  spell-off true t spent zero h e = ap (λ (b : Bool). cond b (leb g.mot spent) true) h
  spell-off false t spent zero h e = ap (λ (b : Bool). cond b (leb g.mot spent) true) h
  spell-off on t spent (suc m) h e = absurd (omega arith)

  pub spell-on : (on t : Bool) (spent m : ℕ) → on ≡ t → (m ≡ 0 → ⊥) → spell_kept g on spent m ≡ cond t true (leb g.mdt spent)
  spell-on on t spent zero h e = absurd (e refl)
  spell-on true t spent (suc m) h e = ap (λ (b : Bool). cond b true (leb g.mdt spent)) h
  spell-on false t spent (suc m) h e = ap (λ (b : Bool). cond b true (leb g.mdt spent)) h

module _ (u : UnitRecord) where
  module _ (at : Walk) (price : ℤ) where
    pub step-off : (t : Bool) (m : ℕ) → at.on ≡ t → m ≡ 0 → stepped u at price m ≡ cond t (rested at 1) (rested at (at.spent + 1))
    unfolding stepped
    step-off t zero h e = after at.on h
      where
        after : (on : Bool) → on ≡ t → advanced u at price on 0 ≡ cond t (rested at 1) (rested at (at.spent + 1))
        after true h = ap (λ (b : Bool). cond b (rested at 1) (rested at (at.spent + 1))) h
        after false h = ap (λ (b : Bool). cond b (rested at 1) (rested at (at.spent + 1))) h
    step-off t (suc m) h e = absurd (omega arith)

    abbrev gain : ℕ → ℤ
    gain m = margin price m u.costs.vec (u.generator.pmin * u.generator.block) u.costs.mlc

    -- on for one interval more, and on for the first
    abbrev on-more : ℕ → Walk
    on-more m = ran at (at.spent + 1) at.starts m (gain m)

    abbrev on-first : ℕ → Walk
    on-first m = ran at 1 (at.starts + 1) m (gain m -ℤ pos (start_cost u.costs))

    pub step-on : (t : Bool) (m : ℕ) → at.on ≡ t → (m ≡ 0 → ⊥) → stepped u at price m ≡ cond t (on-more m) (on-first m)
    unfolding stepped
    step-on t zero h e = absurd (e refl)
    step-on t (suc m) h e = after at.on h
      where
        after : (on : Bool) → on ≡ t → advanced u at price on (suc m) ≡ cond t (on-more (suc m)) (on-first (suc m))
        after true h = ap (λ (b : Bool). cond b (on-more (suc m)) (on-first (suc m))) h
        after false h = ap (λ (b : Bool). cond b (on-more (suc m)) (on-first (suc m))) h

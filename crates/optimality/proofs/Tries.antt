-- The outputs tried from 0 upwards, to the first that reaches the best remaining profit, are the plan's, each with the tries that it takes.
use Rattle.std.specs.Prelude.{Some}
use mathlib.Core.Path.{◌≡◌, refl, sym, ap, ap₂, ◌∙◌, fun_ext}
use mathlib.Core.Bool.{Bool, true, false, cond}
use mathlib.Core.List.{List, [], ◌∷◌, ◌++◌, map, append_assoc}
use mathlib.Core.Logic.{⊎_elim}
use Prim.Native.Nat.{ℕ, zero, suc, ◌+◌, ◌-◌, ◌*◌, ◌≤◌}
use native.Mathlib.Omega.{arith}
use lib.IntN.{ℤ}
use lib.ListN.{length, length-append}
use lib.Signed.{◌≤ℤ◌, ◌<ℤ◌, lt_z, ≤ℤ_refl}
use Rattle.integers.proofs.Order.{lt_z-dec, le-lt_z}
use Rattle.commitment.specs.declared.Generator.{Generator}
use Rattle.commitment.specs.declared.UnitRecord.{UnitRecord}
use Rattle.commitment.specs.Keeping.{keeps_case}
use Rattle.commitment.specs.Profit.{profit}
use Rattle.commitment.specs.Best.{Plan, nothing, plan, profit_of, ladder, outputs, lists, better, first_best, candidate, best}
use Rattle.commitment.specs.Tries.{tries_for, best_after, reaching, first_that, next_after, read_from}
use Rattle.commitment.proofs.Tries.{tries-on, tries-in-blocks}
use Rattle.optimality.proofs.Machine.{best-prefixed}
use Rattle.optimality.proofs.Rival.{not-plan, pick, found}

-- ---- an output's place among those tried is what it takes

nothing-there : {m : ℕ} {ms : List ℕ} → ◌≡◌ {A = List ℕ} [] (m ∷ ms) → ⊥
nothing-there e = let z : ◌≡◌ {A = ℕ} 0 1 = cc in omega arith

ladder-place : (block first count : ℕ) (passed : List ℕ) (m : ℕ) (later : List ℕ) → ladder block first count ≡ passed ++ (m ∷ later)
    → m ≡ first + length passed * block
ladder-place block first zero [] m later e = absurd (nothing-there e)
ladder-place block first zero (n ∷ passed) m later e = absurd (nothing-there e)
ladder-place block first (suc count) [] m later e = let i : first ≡ m = cc in omega arith
ladder-place block first (suc count) (n ∷ passed) m later e =
    let i : ladder block (first + block) count ≡ passed ++ (m ∷ later) = cc in
    omega (arith, ladder-place block (first + block) count passed m later i)

place : (g : Generator) → 1 ≤ g.block → 1 ≤ g.pmin → (passed : List ℕ) (m : ℕ) (later : List ℕ) → outputs g ≡ passed ++ (m ∷ later)
    → suc (length passed) ≡ tries_for g.block g.pmin m
place g block pmin [] m later e =
    let z : 0 ≡ m = cc in
    let i : 0 * g.block ≡ m = omega arith in
    sym (tries-in-blocks g.block g.pmin 0 block) ∙ ap (tries_for g.block g.pmin) i
place g block pmin (n ∷ passed) m later e =
    let i : ladder g.block (g.pmin * g.block) (suc g.pmax - g.pmin) ≡ passed ++ (m ∷ later) = cc in
    let k = g.pmin + length passed in
    let at : k * g.block ≡ m = omega (arith, ladder-place g.block (g.pmin * g.block) (suc g.pmax - g.pmin) passed m later i) in
    omega (arith, tries-on g.pmin k (omega arith), tries-in-blocks g.block g.pmin k block, ap (tries_for g.block g.pmin) at)

-- ---- the first of several whose plan earns what the best of them does

record FirstOf (f : ℕ → Plan) (before : ℕ) (ms : List ℕ) (p : ℤ) : Type 0 where
  passed : List ℕ
  at : ℕ
  later : List ℕ
  split : ms ≡ passed ++ (at ∷ later)
  tried : first_that (λ m. reaching (Some p) (profit_of (f m))) before ms ≡ (at, suc (before + length passed))
  is : first_best (map f ms) ≡ f at

this-one : (f : ℕ → Plan) (before m : ℕ) (ms : List ℕ) (p : ℤ) → reaching (Some p) (profit_of (f m)) ≡ true → first_best (map f (m ∷ ms)) ≡ f m
    → FirstOf f before (m ∷ ms) p
this-one f before m ms p reaches is =
    let n : before + 0 ≡ before = omega arith in
    record { passed = []; at = m; later = ms; split = refl; tried = simp reaches (ap (λ (n : ℕ). (m, suc n)) (sym n)); is = is }

one_later : (f : ℕ → Plan) (before m : ℕ) (ms : List ℕ) (p : ℤ) → reaching (Some p) (profit_of (f m)) ≡ false
    → first_best (map f (m ∷ ms)) ≡ first_best (map f ms) → FirstOf f (suc before) ms p → FirstOf f before (m ∷ ms) p
one_later f before m ms p short is r =
    let n : suc before + length r.passed ≡ before + suc (length r.passed) = omega arith in
    record {
      passed = m ∷ r.passed;
      at = r.at;
      later = r.later;
      split = ap (◌∷◌ m) r.split;
      tried = simp short (r.tried ∙ ap (λ (n : ℕ). (r.at, suc n)) n);
      is = is ∙ r.is;
    }

first_of : (f : ℕ → Plan) (before : ℕ) (ms : List ℕ) (s : List ℕ) (p : ℤ) → first_best (map f ms) ≡ plan s p → FirstOf f before ms p
first_of f before [] s p e = absurd (not-plan e)
first_of f before (m ∷ ms) s p e = by (f m) (first_best (map f ms)) refl refl e (first_of f (suc before) ms s p)
  where
    by : (a b : Plan) → f m ≡ a → first_best (map f ms) ≡ b → better a b ≡ plan s p → (first_best (map f ms) ≡ plan s p → FirstOf f (suc before) ms p)
        → FirstOf f before (m ∷ ms) p
    by nothing b i j e more = one_later f before m ms p (rw i) (rw i) (more (j ∙ e))
    by (plan t q) nothing i j e more =
        let k : q ≡ p = cc in
        this-one f before m ms p (rw (i, k, le-lt_z p p (≤ℤ_refl p))) (rw (i, j))
    by (plan t q) (plan t' q') i j e more =
        ⊎_elim
        (λ (w : (lt_z q q' ≡ true) × (q <ℤ q')).
        let e' : plan t' q' ≡ plan s p = rw w.0 at e in
        let k : q' ≡ p = cc in
        one_later f before m ms p (rw (i, ← k, w.0)) (rw (i, j, w.0)) (more (j ∙ e')))
        (λ (w : (lt_z q q' ≡ false) × (q' ≤ℤ q)).
        let e' : plan t q ≡ plan s p = rw w.0 at e in
        let k : q ≡ p = cc in
        this-one f before m ms p (rw (i, k, le-lt_z p p (≤ℤ_refl p))) (rw (i, j, w.0)))
        (lt_z-dec q q')

-- ---- interval by interval

same_next : (begun : List ℕ) (m n : ℕ) (s t : List ℕ) → begun ++ (m ∷ s) ≡ begun ++ (n ∷ t) → m ≡ n
same_next [] m n s t e = cc
same_next (k ∷ begun) m n s t e = let i : begun ++ (m ∷ s) ≡ begun ++ (n ∷ t) = cc in same_next begun m n s t i

module _ (u : UnitRecord) (prices : List ℤ) (block : 1 ≤ u.generator.block) (pmin : 1 ≤ u.generator.pmin) where
  abbrev with_tries : ℕ → ℕ × ℕ
  with_tries m = (m, tries_for u.generator.block u.generator.pmin m)

  -- the best of the schedules that begin so and go on for n intervals
  abbrev plan_after : List ℕ → ℕ → Plan
  plan_after begun n = first_best (map (λ s. candidate u prices (begun ++ s)) (lists (outputs u.generator) n))

  one_more : (begun : List ℕ) (n : ℕ) → plan_after begun (suc n) ≡ first_best (map (λ m. plan_after (begun ++ (m ∷ [])) n) (outputs u.generator))
  one_more begun n =
      let ms = outputs u.generator in
      best-prefixed (λ s. candidate u prices (begun ++ s)) ms (lists ms n)
      ∙ ap (λ (f : ℕ → List ℕ → Plan). first_best (map (λ m. first_best (map (f m) (lists ms n))) ms))
      (fun_ext (λ m. fun_ext (λ s. ap (candidate u prices) (sym (append_assoc begun (m ∷ []) s)))))

  own : (s t : List ℕ) (p : ℤ) → candidate u prices s ≡ plan t p → s ≡ t
  own s t p e = by (keeps_case u s) e
    where
      by : (k : Bool) → cond k (plan s (profit u prices s)) nothing ≡ plan t p → s ≡ t
      by true e = cc
      by false e = absurd (not-plan e)

  -- it begins so
  begins : (begun : List ℕ) (n : ℕ) (t : List ℕ) (p : ℤ) → plan_after begun n ≡ plan t p → (s : List ℕ) × (begun ++ s ≡ t)
  begins begun n t p e =
      let f : List ℕ → Plan = λ s. candidate u prices (begun ++ s) in
      let ss = lists (outputs u.generator) n in
      let r = found f ss (plan t p) (pick (map f ss) t p e) in
      (r.0, own (begun ++ r.0) t p r.2)

  -- the first output that reaches the best is the plan's
  next-is : (begun : List ℕ) (n m : ℕ) (rest : List ℕ) (p : ℤ) → length begun + suc n ≡ length prices → plan_after begun (suc n) ≡ plan (begun ++ (m ∷ rest)) p
      → (next_after u prices begun ≡ with_tries m) × (plan_after (begun ++ (m ∷ [])) n ≡ plan (begun ++ (m ∷ rest)) p)
  next-is begun n m rest p room is =
      let ms = outputs u.generator in
      let f : ℕ → Plan = λ j. plan_after (begun ++ (j ∷ [])) n in
      let r = first_of f 0 ms (begun ++ (m ∷ rest)) p (sym (one_more begun n) ∙ is) in
      let there : f r.at ≡ plan (begun ++ (m ∷ rest)) p = sym r.is ∙ sym (one_more begun n) ∙ is in
      let b = begins (begun ++ (r.at ∷ [])) n (begun ++ (m ∷ rest)) p there in
      let same : r.at ≡ m = same_next begun r.at m b.0 rest (sym (append_assoc begun (r.at ∷ []) b.0) ∙ b.1) in
      let left : length prices - length begun ≡ suc n = omega arith in
      let whole : best_after u prices begun ≡ Some p = ap (λ (k : ℕ). profit_of (plan_after begun k)) left ∙ ap profit_of is in
      let after : (j : ℕ) → best_after u prices (begun ++ (j ∷ [])) ≡ profit_of (f j) =
      λ j.
      let less : length prices - length (begun ++ (j ∷ [])) ≡ n = omega (arith, length-append begun (j ∷ [])) in
      ap (λ (k : ℕ). profit_of (plan_after (begun ++ (j ∷ [])) k)) less in
      let tries = place u.generator block pmin r.passed r.at r.later r.split in (
        ap (λ (reaches : ℕ → Bool). first_that reaches 0 ms) (fun_ext (λ j. ap₂ reaching whole (after j)))
            ∙ r.tried
            ∙ ap (λ (k : ℕ). (r.at, k)) (omega (arith, tries))
            ∙ ap with_tries same,
        ap (λ (j : ℕ). plan_after (begun ++ (j ∷ [])) n) (sym same) ∙ there,
      )

  read-rest : (n : ℕ) (begun rest : List ℕ) (p : ℤ) → length rest ≡ n → length begun + n ≡ length prices → plan_after begun n ≡ plan (begun ++ rest) p
      → read_from u prices begun n ≡ map with_tries rest
  read-rest zero begun [] p many room is = refl
  read-rest zero begun (m ∷ rest) p many room is = absurd (omega arith)
  read-rest (suc n) begun [] p many room is = absurd (omega arith)
  read-rest (suc n) begun (m ∷ rest) p many room is =
      let next = next-is begun n m rest p room is in
      ap (λ (found : ℕ × ℕ). found ∷ read_from u prices (begun ++ (found.0 ∷ [])) n) next.0
      ∙ ap (◌∷◌ (with_tries m))
      (read-rest n (begun ++ (m ∷ [])) rest p (omega arith) (omega (arith, length-append begun (m ∷ [])))
      (next.1 ∙ ap (λ (s : List ℕ). plan s p) (sym (append_assoc begun (m ∷ []) rest))))

  -- each output of the plan comes with its tries
  pub plan-with-tries : (s : List ℕ) (p : ℤ) → length s ≡ length prices → best u prices ≡ plan s p
      → read_from u prices [] (length prices) ≡ map (λ (m : ℕ). (m, tries_for u.generator.block u.generator.pmin m)) s
  plan-with-tries s p many is = read-rest (length prices) [] s p many (omega arith) is

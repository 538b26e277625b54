-- The case as a machine of steps with exact counters: a list of outputs that keeps the case is a run of it, and earns what the run earns.
-- So the best of all schedules is found step by step.
use Rattle.std.specs.Prelude.{None, Some}
use mathlib.Core.Path.{◌≡◌, refl, sym, ap, ap₂, ◌∙◌}
use mathlib.Core.Bool.{Bool, true, false, cond, ◌&&◌, and-false}
use mathlib.Core.List.{List, [], ◌∷◌, ◌++◌, map}
use Prim.Native.Nat.{ℕ, zero, suc, ◌+◌, ◌-◌, ◌*◌}
use native.Mathlib.Nat.{zero-add, mul-zero}
use native.Mathlib.Numerals.{one-add}
use native.Mathlib.Omega.{arith}
use borrow.Author.Tests.{le-leb, lt-leb, leb-true, leb-false, ne_eqb}
use lib.Dec.{leb, leb-zero}
use lib.IntN.{ℤ, pos, ◌+ℤ◌, ◌-ℤ◌}
use lib.ListN.{length}
use Rattle.integers.proofs.Linear.{zarith, zsum, zdiff, up_pos, dn-pos}
use Rattle.commitment.specs.Types.{Limit}
use Rattle.commitment.specs.declared.UnitRecord.{UnitRecord}
use Rattle.commitment.specs.Limits.{within}
use Rattle.commitment.specs.Keeping.{was_on, starts_in, runs_last, spells_last, on_intervals, output_sum}
use Rattle.commitment.specs.Keeping.{opens_in, off_where_shut, keeps_starts, keeps_runs, keeps_spells, keeps_hours, keeps_mwh, keeps_window}
use Rattle.commitment.specs.Profit.{earned, earned_in, start_cost, profit}
use Rattle.commitment.specs.Best.{Plan, nothing, plan, first_best, prefixed, lists, candidate, outputs, best}
use Rattle.optimality.specs.Machine.{Step, stop, go, allow, anywhere, Quarter, quarter, quarters_from, in_quarter, after, along, run, best_from}
use Rattle.optimality.specs.Cells.{quarters_of}
use Rattle.optimality.proofs.Machine.{map-map, map-append, along-ext, optimal}
use Rattle.optimality.proofs.Quarters.{quarters-length}

-- ---- what is left of a limitation

abbrev pub affords : Limit → ℕ → Bool
affords None n = true
affords (Some left) n = leb n left

abbrev pub spend : Limit → ℕ → Limit
spend None n = None
spend (Some left) n = Some (left - n)

-- in counts, of which a unit of the limitation is worth so many
abbrev pub scaled : ℕ → Limit → Limit
scaled unit None = None
scaled unit (Some limit) = Some (unit * limit)

pub within-counted : (unit n : ℕ) (l : Limit) → within unit n l ≡ affords (scaled unit l) n
within-counted unit n None = refl
within-counted unit n (Some limit) = refl

pub affords-none : (l : Limit) → affords l 0 ≡ true
affords-none None = refl
affords-none (Some left) = leb-zero left

-- some, and then some more
pub affords-sum : (l : Limit) (j n : ℕ) → affords l (j + n) ≡ (affords l j && affords (spend l j) n)
affords-sum None j n = refl
affords-sum (Some left) j n = test (leb j left) refl (leb n (left - j)) refl
  where
    test : (s : Bool) → leb j left ≡ s → (t : Bool) → leb n (left - j) ≡ t → leb (j + n) left ≡ (leb j left && leb n (left - j))
    test true e true f = simp (e, f, le-leb (j + n) left (omega (arith, leb-true j left e, leb-true n (left - j) f)))
    test true e false f = simp (e, f, lt-leb (j + n) left (omega (arith, leb-true j left e, leb-false n (left - j) f)))
    test false e t f = simp (e, lt-leb (j + n) left (omega (arith, leb-false j left e)))

pub affords-one : (l : Limit) (n : ℕ) → affords l (suc n) ≡ (affords l 1 && affords (spend l 1) n)
affords-one l n = ap (affords l) (sym (one-add n)) ∙ affords-sum l 1 n

-- ---- the machine: on or off, for how long, and what is left of the starts, the on-intervals and the outputs

pub data Status : Type 0 where
  status : Bool → ℕ → Limit → Limit → Limit → Status

abbrev pub commit : UnitRecord → Status → ℤ → ℕ → Step Status
commit u (status true spent a b c) price zero = allow (leb u.generator.mot spent) (go (pos 0) (status false 1 a b c))
commit u (status false spent a b c) price zero = go (pos 0) (status false (suc spent) a b c)
commit u (status true spent a b c) price (suc m) =
    allow (affords b 1 && affords c (suc m)) (go (earned u.generator u.costs price (suc m)) (status true (suc spent) a (spend b 1) (spend c (suc m))))
commit u (status false spent a b c) price (suc m) =
    allow (affords a 1 && leb u.generator.mdt spent && affords b 1 && affords c (suc m))
    (go (earned u.generator u.costs price (suc m) -ℤ pos (start_cost u.costs)) (status true 1 (spend a 1) (spend b 1) (spend c (suc m))))

-- before interval 1
abbrev pub before : UnitRecord → Status
before u = status (was_on u.opening) u.opening.held (scaled 1 u.limits.starts) (scaled 4 u.limits.hours) (scaled 4 u.limits.mwh)

-- ---- keeping the case but for its hours, and Profit, from any status

abbrev keeps_from : UnitRecord → Status → List ℕ → Bool
keeps_from u (status on spent a b c) s =
    affords a (starts_in on s) && runs_last u.generator.mot on spent s && spells_last u.generator.mdt on spent s
    && affords b (on_intervals s) && affords c (output_sum s)

abbrev profit_from : UnitRecord → Status → List ℤ → List ℕ → ℤ
profit_from u (status on spent a b c) prices s = earned_in u.generator u.costs prices s -ℤ pos (start_cost u.costs * starts_in on s)

abbrev candidate_from : UnitRecord → List ℤ → List ℕ → Status → Plan
candidate_from u prices s x = cond (keeps_from u x s) (plan s (profit_from u x prices s)) nothing

-- ---- the tests of the first interval, pulled to the front; what it earns, likewise

pull-off : (t A R S B C : Bool) → (A && (t && R) && S && B && C) ≡ (t && (A && R && S && B && C))
pull-off true A R S B C = refl
pull-off false A R S B C = simp and-false

pull-on : (b c A R S B C : Bool) → (A && R && S && (b && B) && (c && C)) ≡ (b && c && (A && R && S && B && C))
pull-on true true A R S B C = refl
pull-on true false A R S B C = simp and-false
pull-on false c A R S B C = simp and-false

pull-start : (a t b c A R S B C : Bool) → (a && A && R && (t && S) && (b && B) && (c && C)) ≡ (a && t && b && c && (A && R && S && B && C))
pull-start true true true true A R S B C = refl
pull-start true true true false A R S B C = simp and-false
pull-start true true false c A R S B C = simp and-false
pull-start true false b c A R S B C = simp and-false
pull-start false t b c A R S B C = refl

earn-on : (e r : ℤ) (x : ℕ) → e +ℤ r -ℤ pos x ≡ e +ℤ (r -ℤ pos x)
earn-on e r x = omega (zarith, zsum e r, zdiff (e +ℤ r) (pos x), zdiff r (pos x), zsum e (r -ℤ pos x))

earn-start : (e r : ℤ) (k n : ℕ) → e +ℤ r -ℤ pos (k * suc n) ≡ (e -ℤ pos k) +ℤ (r -ℤ pos (k * n))
earn-start e r k n =
    omega (
      zarith,
      zsum e r,
      zdiff (e +ℤ r) (pos (k * suc n)),
      zdiff e (pos k),
      zdiff r (pos (k * n)),
      zsum (e -ℤ pos k) (r -ℤ pos (k * n)),
      up_pos (k * suc n),
      dn-pos (k * suc n),
      up_pos k,
      dn-pos k,
      up_pos (k * n),
      dn-pos (k * n),
    )

-- ---- one interval in front

allowed : (t k : Bool) (m : ℕ) (g p : ℤ) (s : List ℕ) (y : Status) (f : Status → Plan) → f y ≡ cond k (plan s p) nothing
    → cond (t && k) (plan (m ∷ s) (g +ℤ p)) nothing ≡ along m (allow t (go g y)) f
allowed true true m g p s y f e = ap (after m g) (sym e)
allowed true false m g p s y f e = ap (after m g) (sym e)
allowed false k m g p s y f e = refl

-- a step held to whether its interval is open, and the rest to theirs
held : (opened rest : Bool) (m : ℕ) (step : Step Status) (f : Status → Plan)
    → cond (opened && rest) (along m step f) nothing ≡ along m (allow opened step) (λ y. cond rest (f y) nothing)
held true true m s f = refl
held true false m stop f = refl
held true false m (go g x) f = refl
held false rest m s f = refl

pub hours-last : (rules hours : Bool) (p : Plan) → cond (rules && hours) p nothing ≡ cond hours (cond rules p nothing) nothing
hours-last true true p = refl
hours-last true false p = refl
hours-last false true p = refl
hours-last false false p = refl

module _ (u : UnitRecord) where
  -- an interval whose test is t, that earns g and leads from x to y
  interval : (x y : Status) (t : Bool) (g price : ℤ) (prices : List ℤ) (m : ℕ) (s : List ℕ)
      → keeps_from u x (m ∷ s) ≡ (t && keeps_from u y s)
      → profit_from u x (price ∷ prices) (m ∷ s) ≡ g +ℤ profit_from u y prices s
      → candidate_from u (price ∷ prices) (m ∷ s) x ≡ along m (allow t (go g y)) (candidate_from u prices s)
  interval x y t g price prices m s keeps earns =
      ap₂ (λ (k : Bool) (p : ℤ). cond k (plan (m ∷ s) p) nothing) keeps earns
      ∙ allowed t (keeps_from u y s) m g (profit_from u y prices s) s y (candidate_from u prices s) refl

  one-step : (x : Status) (price : ℤ) (prices : List ℤ) (m : ℕ) (s : List ℕ)
      → candidate_from u (price ∷ prices) (m ∷ s) x ≡ along m (commit u x price m) (candidate_from u prices s)
  one-step (status true spent a b c) price prices zero s =
      let g = u.generator in
      let runs = runs_last g.mot false 1 s in
      let spells = spells_last g.mdt false 1 s in
      interval (status true spent a b c) (status false 1 a b c) (leb g.mot spent) (pos 0) price prices 0 s
      (rw (zero-add (output_sum s))
      (pull-off (leb g.mot spent) (affords a (starts_in false s)) runs spells (affords b (on_intervals s)) (affords c (output_sum s))))
      (earn-on (pos 0) (earned_in g u.costs prices s) (start_cost u.costs * starts_in false s))
  one-step (status false spent a b c) price prices zero s =
      interval (status false spent a b c) (status false (suc spent) a b c) true (pos 0) price prices 0 s (rw (zero-add (output_sum s)))
      (earn-on (pos 0) (earned_in u.generator u.costs prices s) (start_cost u.costs * starts_in false s))
  one-step (status true spent a b c) price prices (suc m) s =
      let g = u.generator in
      let c' = spend c (suc m) in
      let runs = runs_last g.mot true (suc spent) s in
      let spells = spells_last g.mdt true (suc spent) s in
      let gain = earned g u.costs price (suc m) in
      interval (status true spent a b c) (status true (suc spent) a (spend b 1) c') (affords b 1 && affords c (suc m)) gain price prices (suc m) s
      (rw (affords-one b (on_intervals s), affords-sum c (suc m) (output_sum s))
      (pull-on (affords b 1) (affords c (suc m))
      (affords a (starts_in true s)) runs spells (affords (spend b 1) (on_intervals s)) (affords c' (output_sum s))))
      (earn-on gain (earned_in g u.costs prices s) (start_cost u.costs * starts_in true s))
  one-step (status false spent a b c) price prices (suc m) s =
      let g = u.generator in
      let c' = spend c (suc m) in
      let runs = runs_last g.mot true 1 s in
      let spells = spells_last g.mdt true 1 s in
      let gain = earned g u.costs price (suc m) in
      let cost = start_cost u.costs in
      interval (status false spent a b c) (status true 1 (spend a 1) (spend b 1) c')
      (affords a 1 && leb g.mdt spent && affords b 1 && affords c (suc m)) (gain -ℤ pos cost) price prices (suc m) s
      (rw (affords-one a (starts_in true s), affords-one b (on_intervals s), affords-sum c (suc m) (output_sum s))
      (pull-start (affords a 1) (leb g.mdt spent) (affords b 1) (affords c (suc m))
      (affords (spend a 1) (starts_in true s)) runs spells (affords (spend b 1) (on_intervals s)) (affords c' (output_sum s))))
      (earn-start gain (earned_in g u.costs prices s) cost (starts_in true s))

  at-end : (x : Status) → candidate_from u [] [] x ≡ plan [] (pos 0)
  at-end (status on spent a b c) = simp (affords-none a, affords-none b, affords-none c, mul-zero)

  -- ---- the whole list, held to the hours

  candidate_in : (ℕ → Bool) → ℕ → List ℤ → List ℕ → Status → Plan
  candidate_in opens i prices s x = cond (off_where_shut opens i s) (candidate_from u prices s x) nothing

  quarter-step : (opens : ℕ → Bool) (i : ℕ) (price : ℤ) (prices : List ℤ) (m : ℕ) (s : List ℕ) (x : Status)
      → candidate_in opens i (price ∷ prices) (m ∷ s) x
      ≡ along m (in_quarter (commit u) x (quarter price (opens i)) m) (candidate_in opens (suc i) prices s)
  unfolding candidate_in
  quarter-step opens i price prices zero s x =
      ap (λ (p : Plan). cond (off_where_shut opens (suc i) s) p nothing) (one-step x price prices zero s)
      ∙ held true (off_where_shut opens (suc i) s) zero (commit u x price zero) (candidate_from u prices s)
  quarter-step opens i price prices (suc m) s x =
      rw (ne_eqb (suc m) 0 (λ o. omega arith))
      (ap (λ (p : Plan). cond (opens i && off_where_shut opens (suc i) s) p nothing) (one-step x price prices (suc m) s)
      ∙ held (opens i) (off_where_shut opens (suc i) s) (suc m) (commit u x price (suc m)) (candidate_from u prices s))

  run-from : (opens : ℕ → Bool) (i : ℕ) (prices : List ℤ) (s : List ℕ) (x : Status) → length s ≡ length prices
      → candidate_in opens i prices s x ≡ run Status Quarter (in_quarter (commit u)) anywhere (quarters_from opens i prices) x s
  unfolding candidate_in
  run-from opens i [] [] x e = at-end x
  run-from opens i [] (m ∷ s) x e = absurd (omega arith)
  run-from opens i (price ∷ prices) [] x e = absurd (omega arith)
  run-from opens i (price ∷ prices) (m ∷ s) x e =
      quarter-step opens i price prices m s x
      ∙ along-ext m (in_quarter (commit u) x (quarter price (opens i)) m) (candidate_in opens (suc i) prices s)
      (λ y. run Status Quarter (in_quarter (commit u)) anywhere (quarters_from opens (suc i) prices) y s)
      (λ y. run-from opens (suc i) prices s y (omega arith))

  -- a list of outputs, one for each interval, is a candidate exactly where it is a run
  pub candidate-run : (prices : List ℤ) (s : List ℕ) → length s ≡ length prices
      → candidate u prices s ≡ run Status Quarter (in_quarter (commit u)) anywhere (quarters_of u prices) (before u) s
  unfolding candidate_in
  candidate-run prices s e =
      hours-last (keeps_starts u s && keeps_runs u s && keeps_spells u s && keeps_hours u s && keeps_mwh u s) (keeps_window u s) (plan s (profit u prices s))
      ∙ simp within-counted (run-from (opens_in u.permit) 0 prices s (before u) e)

-- two functions that agree on lists of one length agree on all lists of so many outputs
pub lists-ext : (ms : List ℕ) (n : ℕ) (f g : List ℕ → Plan) → ((s : List ℕ) → length s ≡ n → f s ≡ g s) → map f (lists ms n) ≡ map g (lists ms n)
lists-ext ms zero f g h = ap (λ (a : Plan). a ∷ []) (h [] refl)
lists-ext ms (suc n) f g h = each (λ m. lists-ext ms n (λ s. f (m ∷ s)) (λ s. g (m ∷ s)) (λ s e. h (m ∷ s) (ap suc e))) ms
  where
    each : ((m : ℕ) → map (λ s. f (m ∷ s)) (lists ms n) ≡ map (λ s. g (m ∷ s)) (lists ms n)) → (js : List ℕ)
        → map f (prefixed js (lists ms n)) ≡ map g (prefixed js (lists ms n))
    each k [] = refl
    each k (j ∷ js) =
        map-append f (map (λ s. j ∷ s) (lists ms n)) (prefixed js (lists ms n))
        ∙ ap₂ ◌++◌ (map-map f (λ s. j ∷ s) (lists ms n) ∙ k j ∙ sym (map-map g (λ s. j ∷ s) (lists ms n))) (each k js)
        ∙ sym (map-append g (map (λ s. j ∷ s) (lists ms n)) (prefixed js (lists ms n)))

-- the best of all schedules is found step by step
pub best-steps : (u : UnitRecord) (prices : List ℤ)
    → best u prices ≡ best_from Status Quarter (in_quarter (commit u)) anywhere (outputs u.generator) (quarters_of u prices) (before u)
best-steps u prices =
    let ms = outputs u.generator in
    let runs = run Status Quarter (in_quarter (commit u)) anywhere (quarters_of u prices) (before u) in
    ap first_best (lists-ext ms (length prices) (candidate u prices) runs (λ s e. candidate-run u prices s e))
    ∙ ap (λ (n : ℕ). first_best (map runs (lists ms n))) (sym (quarters-length (opens_in u.permit) 0 prices))
    ∙ optimal Status Quarter (in_quarter (commit u)) anywhere ms (quarters_of u prices) (before u)

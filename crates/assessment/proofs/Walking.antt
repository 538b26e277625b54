-- The walk over a schedule finds what the definitions of commitment say: whether it keeps the case, and its profit.
use Rattle.std.specs.Prelude.{Err, None, Ok, Some}
use mathlib.Core.Path.{◌≡◌, refl, sym, ap, ◌∙◌}
use mathlib.Core.Bool.{Bool, true, false, ◌&&◌, cond, and_assoc, and-false, and-true}
use mathlib.Core.List.{List, [], ◌∷◌}
use Prim.Native.Nat.{ℕ, zero, suc, ◌+◌, ◌*◌, ◌<◌, ◌≤◌}
use native.Mathlib.Nat.{add-zero, zero-add}
use native.Mathlib.Numerals.{add-one}
use native.Mathlib.Omega.{arith}
use borrow.Author.Tests.{eq-eqb}
use lib.Dec.{leb}
use lib.IntN.{ℤ, pos, ◌+ℤ◌, ◌-ℤ◌, +ℤ_idl}
use lib.ListN.{length, drop, get_or, drop_of_length-le}
use Rattle.lists.proofs.Fills.{drop-next}
use Rattle.integers.proofs.Linear.{zarith, zsum, zdiff, up_pos, dn-pos}
use Rattle.commitment.specs.declared.Cause.TheVariants.{NotKept}
use Rattle.commitment.specs.declared.UnitRecord.{UnitRecord}
use Rattle.commitment.specs.Causes.{unless}
use Rattle.commitment.specs.Keeping.{was_on, starts_in, runs_last, spells_last, on_intervals, output_sum}
use Rattle.commitment.specs.Keeping.{keeps_starts, keeps_runs, keeps_spells, keeps_hours, keeps_mwh, keeps_window, keeps_case}
use Rattle.commitment.specs.Profit.{earned, earned_in, start_cost, profit}
use Rattle.lists.specs.Every.{every}
use Rattle.commitment.specs.Schedule.{is_output, is_schedule}
use Rattle.assessment.specs.Types.{Assessed}
use Rattle.assessment.specs.declared.Walk.{Walk}
use Rattle.assessment.specs.Types.{Walked}
use Rattle.assessment.specs.Assessed.{assessed_by}
use Rattle.assessment.specs.Walking.{opening_walk, may_follow, stepped, walk_from, settled, concluded}

abbrev standing : Bool → ℕ → ℕ → ℕ → ℕ → ℤ → Walk
standing on spent starts running output p =
    record { on = on; spent = spent; starts = starts; running = running; output = output; profit = p }

-- no interval more brings nothing
no-gain : (p : ℤ) (k : ℕ) → p +ℤ (pos 0 -ℤ pos (k * 0)) ≡ p
no-gain p k =
    omega (zarith, zdiff (pos 0) (pos (k * 0)), zsum p (pos 0 -ℤ pos (k * 0)), up_pos 0, dn-pos 0, up_pos (k * 0), dn-pos (k * 0))

-- one interval's gain in front of the rest
gain-next : (p g rest cost : ℤ) → p +ℤ (g +ℤ rest -ℤ cost) ≡ (p +ℤ g) +ℤ (rest -ℤ cost)
gain-next p g rest cost =
    omega
    (zarith, zsum g rest, zdiff (g +ℤ rest) cost, zsum p (g +ℤ rest -ℤ cost), zsum p g, zdiff rest cost, zsum (p +ℤ g) (rest -ℤ cost))

-- and where it is a start
gain-start : (p g rest : ℤ) (k n : ℕ) → p +ℤ (g +ℤ rest -ℤ pos (k * suc n)) ≡ (p +ℤ (g -ℤ pos k)) +ℤ (rest -ℤ pos (k * n))
gain-start p g rest k n =
    omega (
      zarith,
      zsum g rest,
      zdiff (g +ℤ rest) (pos (k * suc n)),
      zsum p (g +ℤ rest -ℤ pos (k * suc n)),
      zdiff g (pos k),
      zsum p (g -ℤ pos k),
      zdiff rest (pos (k * n)),
      zsum (p +ℤ (g -ℤ pos k)) (rest -ℤ pos (k * n)),
      up_pos (k * suc n),
      dn-pos (k * suc n),
      up_pos k,
      dn-pos k,
      up_pos (k * n),
      dn-pos (k * n),
    )

-- the tests of the first interval, pulled to the front
pull-run : (o t e r z : Bool) → (o && e && (t && r) && z) ≡ (o && t && (e && r && z))
pull-run true true e r z = refl
pull-run true false e r z = simp and-false
pull-run false t e r z = refl

pull-spell : (o t e r z : Bool) → (o && e && r && (t && z)) ≡ (o && t && (e && r && z))
pull-spell true true e r z = refl
pull-spell true false e r z = simp and-false
pull-spell false t e r z = refl

-- the outputs and the rules, in the order of the walk and in that of the specification
in_order : (a r z b d e : Bool) → (e && r && z && (a && b && d)) ≡ (e && (a && r && z && b && d))
in_order a r z b d false = refl
in_order true r z b d true = simp and_assoc
in_order false r z b d true = simp and-false

-- two tests in a row are one of both
told : (t k : Bool) (p : ℤ) → cond t (cond k (Ok p) (Err NotKept)) (Err NotKept) ≡ assessed_by (unless (t && k) NotKept (Ok tt)) p
told true true p = refl
told true false p = refl
told false k p = refl

module _ (u : UnitRecord) where
  -- outputs of the unit, in runs and off spells that last
  abbrev pub lasting : Bool → ℕ → List ℕ → Bool
  lasting on spent s = every (is_output u.generator) s && runs_last u.generator.mot on spent s && spells_last u.generator.mdt on spent s

  -- what a schedule earns from a state
  abbrev pub profit_from : Bool → List ℤ → List ℕ → ℤ
  profit_from on prices s = earned_in u.generator u.costs prices s -ℤ pos (start_cost u.costs * starts_in on s)

  -- ---- what the walk concludes

  -- an interval that may follow where t holds, before a rest that ends in a
  lead : (t g : Bool) (w : Walked) (a b : Assessed) → concluded u w ≡ cond g a (Err NotKept) → a ≡ b
      → concluded u (cond t w None) ≡ cond (t && g) b (Err NotKept)
  lead true g w a b e f = e ∙ ap (λ (x : Assessed). cond g x (Err NotKept)) f
  lead false g w a b e f = refl

  same-totals : {a a' b b' d d' : ℕ} {p p' : ℤ} → a ≡ a' → b ≡ b' → d ≡ d' → p ≡ p' → settled u.limits a b d p ≡ settled u.limits a' b' d' p'
  same-totals e f g h = cc

  -- what the walk concludes from any state, of the rest of the schedule
  walk_from_lem : (on : Bool) (spent starts running output : ℕ) (p : ℤ) (prices : List ℤ) (s : List ℕ) → length s ≡ length prices
      → concluded u (walk_from u (standing on spent starts running output p) prices s)
      ≡ cond (lasting on spent s)
      (settled u.limits (starts + starts_in on s) (running + on_intervals s) (output + output_sum s) (p +ℤ profit_from on prices s)) (Err NotKept)
  unfolding may_follow stepped
  walk_from_lem on spent starts running output p [] [] e = simp (add-zero, no-gain p (start_cost u.costs))
  walk_from_lem on spent starts running output p [] (m ∷ s) e = absurd (omega arith)
  walk_from_lem on spent starts running output p (l ∷ ls) [] e = absurd (omega arith)
  walk_from_lem true spent starts running output p (l ∷ ls) (zero ∷ s) e =
      let g = u.generator in
      rw (pull-run true (leb g.mot spent) (every (is_output g) s) (runs_last g.mot false 1 s) (spells_last g.mdt false 1 s))
      (lead (leb g.mot spent) (lasting false 1 s) (walk_from u (standing false 1 starts running output p) ls s) _ _
      (walk_from_lem false 1 starts running output p ls s (omega arith))
      (rw (zero-add (output_sum s), +ℤ_idl (earned_in g u.costs ls s))))
  walk_from_lem false spent starts running output p (l ∷ ls) (zero ∷ s) e =
      rw (zero-add (output_sum s), +ℤ_idl (earned_in u.generator u.costs ls s), ← add-one spent)
      (walk_from_lem false (spent + 1) starts running output p ls s (omega arith))
  walk_from_lem true spent starts running output p (l ∷ ls) (suc m ∷ s) e =
      let g = u.generator in
      let runs = runs_last g.mot true (spent + 1) s in
      let gain = earned g u.costs l (suc m) in
      let later = pos (start_cost u.costs * starts_in true s) in
      rw (← add-one spent, pull-run (is_output g (suc m)) true (every (is_output g) s) runs (spells_last g.mdt true (spent + 1) s))
      (lead (is_output g (suc m) && true) (lasting true (spent + 1) s)
      (walk_from u (standing true (spent + 1) starts (running + 1) (output + suc m) (p +ℤ gain)) ls s) _ _
      (walk_from_lem true (spent + 1) starts (running + 1) (output + suc m) (p +ℤ gain) ls s (omega arith))
      (same-totals refl (omega arith) (omega arith) (sym (gain-next p gain (earned_in g u.costs ls s) later))))
  walk_from_lem false spent starts running output p (l ∷ ls) (suc m ∷ s) e =
      let g = u.generator in
      let cost = start_cost u.costs in
      let gain = earned g u.costs l (suc m) in
      let starting = p +ℤ (gain -ℤ pos cost) in
      let rest = earned_in g u.costs ls s in
      rw (pull-spell (is_output g (suc m)) (leb g.mdt spent) (every (is_output g) s) (runs_last g.mot true 1 s) (spells_last g.mdt true 1 s))
      (lead (is_output g (suc m) && leb g.mdt spent) (lasting true 1 s)
      (walk_from u (standing true 1 (starts + 1) (running + 1) (output + suc m) starting) ls s) _ _
      (walk_from_lem true 1 (starts + 1) (running + 1) (output + suc m) starting ls s (omega arith))
      (same-totals (omega arith) (omega arith) (omega arith) (sym (gain-start p gain rest cost (starts_in true s)))))

  -- the rules but for the hours
  abbrev pub keeps_rules : List ℕ → Bool
  keeps_rules s = keeps_starts u s && keeps_runs u s && keeps_spells u s && keeps_hours u s && keeps_mwh u s

  -- what the walk over a whole schedule concludes is what the definitions say
  pub walk_is : (prices : List ℤ) (s : List ℕ) → length s ≡ length prices
      → concluded u (walk_from u (opening_walk u.opening) prices s)
      ≡ assessed_by (unless (is_schedule u.generator (length prices) s && keeps_rules s) NotKept (Ok tt)) (profit u prices s)
  walk_is prices s e =
      let was = was_on u.opening in
      let totals = keeps_starts u s && keeps_hours u s && keeps_mwh u s in
      walk_from_lem was u.opening.held 0 0 0 (pos 0) prices s e
      ∙ rw (
        zero-add (starts_in was s),
        zero-add (on_intervals s),
        zero-add (output_sum s),
        +ℤ_idl (profit_from was prices s),
        eq-eqb (length s) (length prices) e,
      )
      (told (lasting was u.opening.held s) totals (profit u prices s)
      ∙ ap (λ (t : Bool). assessed_by (unless t NotKept (Ok tt)) (profit u prices s))
      (in_order (keeps_starts u s) (keeps_runs u s) (keeps_spells u s) (keeps_hours u s) (keeps_mwh u s) (every (is_output u.generator) s)))

  -- where the schedule is off wherever it is shut, the rules are all
  pub hours-also : (prices : List ℤ) (s : List ℕ) → keeps_window u s ≡ true
      → assessed_by (unless (is_schedule u.generator (length prices) s && keeps_rules s) NotKept (Ok tt)) (profit u prices s)
      ≡ assessed_by (unless (is_schedule u.generator (length prices) s && keeps_case u s) NotKept (Ok tt)) (profit u prices s)
  hours-also prices s off =
      ap (λ (k : Bool). assessed_by (unless (is_schedule u.generator (length prices) s && k) NotKept (Ok tt)) (profit u prices s))
      (sym (ap (λ (w : Bool). keeps_rules s && w) off ∙ and-true (keeps_rules s)))

  -- where it is not, it is refused
  pub hours-broken : (prices : List ℤ) (s : List ℕ) → keeps_window u s ≡ false
      → assessed_by (unless (is_schedule u.generator (length prices) s && keeps_case u s) NotKept (Ok tt)) (profit u prices s) ≡ Err NotKept
  hours-broken prices s on =
      ap (λ (k : Bool). assessed_by (unless k NotKept (Ok tt)) (profit u prices s))
      (ap (λ (w : Bool). is_schedule u.generator (length prices) s && (keeps_rules s && w)) on
      ∙ ap (λ (k : Bool). is_schedule u.generator (length prices) s && k) (and-false (keeps_rules s))
      ∙ and-false (is_schedule u.generator (length prices) s))

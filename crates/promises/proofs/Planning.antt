-- Planning and valuing, of the answers given: a plan is the best, and handed in it is passed with its profit; each outcome is what it says.
use Rattle.std.specs.Prelude.{Err, None, Ok, Some}
use mathlib.Core.Path.{◌≡◌, refl, sym, ap, ap₂, subst, ◌∙◌}
use mathlib.Core.Bool.{Bool, true}
use mathlib.Core.List.{List, ◌++◌}
use mathlib.Core.Logic.{◌↔◌}
use Prim.Native.Nat.{ℕ}
use native.Mathlib.Omega.{arith}
use lib.Dec.{leb}
use lib.IntN.{ℤ}
use lib.ListN.{length, take, drop}
use lib.Seq.{take-append_seam, drop-append_seam}
use Rattle.commitment.specs.Types.{Checked}
use Rattle.commitment.specs.declared.Limitation.{Limitation}
use Rattle.commitment.specs.declared.Limitation.TheVariants.{Starts, Hours, Mwh}
use Rattle.commitment.specs.declared.Outcome.{Outcome}
use Rattle.commitment.specs.declared.Outcome.TheVariants.{Never}
use Rattle.commitment.specs.declared.Outcome.TheVariants as outcome
use Rattle.commitment.specs.declared.Outcomes.{Outcomes}
use Rattle.commitment.specs.declared.UnitRecord.{UnitRecord}
use Rattle.commitment.specs.Best.{Plan, nothing, plan, best}
use Rattle.commitment.specs.Causes.{first_of}
use Rattle.commitment.specs.Ranges.{prices_kept, case_checked}
use Rattle.commitment.specs.Rivals.{Rival, IsBest}
use Rattle.commitment.specs.Valuing.{lowered, run_at, outcome_of, outcomes_of}
use Rattle.commitment.proofs.Causes.{then-passed}
use Rattle.commitment.proofs.Passing.{passing}
use Rattle.optimality.specs.Outcomes.{GapAt, Says}
use Rattle.optimality.proofs.Optimal.{plan-exactly, outcome-exactly}
use Rattle.assessment.specs.Assessed.{assessed}
use Rattle.assessment.proofs.Passed.{passed-exactly}
use Rattle.planner.specs.declared.Report.{Report}
use Rattle.planner.specs.Planning.{slices_checks, lent_checked, schedule_checked, plan_checked, planned_by, planned, schedule_after, schedule_left}
use Rattle.planner.specs.Reporting.{reported_by, reported}
use Rattle.planner.specs.Valuing.{value_lent, value_checked, valued_by, valued}
use Rattle.planner.proofs.Lent.{lent-turn, value_lent_lem, plan-turn, value-turn}
use Rattle.promises.specs.Causes.{NoRival, case_causes, table_causes, slices_causes}
use Rattle.promises.specs.Outcomes.{outcome_for, LowerRun}
use Rattle.promises.proofs.Causes.{valuing-answered, reporting-answered}
use Rattle.promises.proofs.FirstCause.{none-later}
use Rattle.promises.proofs.NoStart.{none-lower-none}
use Rattle.planner.specs.Types.{plan_with}
use Rattle.planner.specs.declared.BestPlan.{BestPlan}

module _ (u : UnitRecord) (prices : List ℤ) where
  abbrev InCase : Type 0
  InCase = case_checked u (prices_kept prices) (length prices) ≡ Ok tt

  lent-case : (long : Bool) (cells : ℕ) → lent_checked u prices long cells ≡ Ok tt → InCase
  lent-case long cells lent =
      let slices = first_of (slices_checks u (length prices) long cells) in
      (then-passed (case_checked u (prices_kept prices) (length prices)) slices (sym (lent-turn u prices long cells) ∙ lent)).0

  pub plan-case : (cells entries : ℕ) → plan_checked u prices cells entries ≡ Ok tt → InCase
  plan-case cells entries e =
      let lent = lent_checked u prices (leb (length prices) entries) cells in
      let turn = then-passed lent (schedule_checked u prices) (sym (plan-turn u prices cells entries) ∙ e) in
      lent-case (leb (length prices) entries) cells turn.0

  -- ---- a plan, and the schedule slice after it

  pub record Given (cells : ℕ) (was : List ℕ) (n : ℕ) (p : ℤ) : Type 0 where
    pub case : InCase
    pub best-is : best u prices ≡ plan (take n (schedule_left u prices cells was)) p
    pub rest : drop n (schedule_left u prices cells was) ≡ drop n was

  given_by : (cells : ℕ) (was : List ℕ) (s : List ℕ) (p : ℤ) → plan_checked u prices cells (length was) ≡ Ok tt
      → best u prices ≡ plan s p → Given cells was (length s) p
  given_by cells was s p i is =
      let left : schedule_left u prices cells was ≡ s ++ drop (length s) was = ap₂ (λ (k : Checked) (b : Plan). schedule_after k b was) i is in
      record {
        case = plan-case cells (length was) i;
        best-is = is ∙ ap (λ (t : List ℕ). plan t p) (sym (ap (take (length s)) left ∙ take-append_seam s (drop (length s) was)));
        rest = ap (drop (length s)) left ∙ drop-append_seam s (drop (length s) was);
      }

  pub plan-given : (cells : ℕ) (was : List ℕ) (n : ℕ) (p : ℤ) → planned u prices cells (length was) ≡ plan_with n p → Given cells was n p
  plan-given cells was n p e = by (plan_checked u prices cells (length was)) (best u prices) refl refl e
    where
      by : (k : Checked) (b : Plan) → plan_checked u prices cells (length was) ≡ k → best u prices ≡ b → planned_by k b ≡ plan_with n p → Given cells was n p
      by (Ok _) nothing i is e = let z : ◌≡◌ {A = ℕ} 0 1 = cc in absurd (omega arith)
      by (Ok _) (plan s q) i is e =
          let made : ◌≡◌ {A = BestPlan} (record { count = length s; profit = q }) (record { count = n; profit = p }) = cc in
          let count : length s ≡ n = ap (λ (b : BestPlan). b.count) made in
          let same : q ≡ p = ap (λ (b : BestPlan). b.profit) made in
          subst (λ (m : ℕ). Given cells was m p) count (given_by cells was s p i (is ∙ ap (plan s) same))
      by (Err cause) b i is e = let z : ◌≡◌ {A = ℕ} 0 1 = cc in absurd (omega arith)

  pub report-given : (cells : ℕ) (was : List ℕ) (r : Report) → reported u prices cells (length was) ≡ Ok r
      → Given cells was r.count r.profit × (r.outcomes ≡ outcomes_of u prices)
  report-given cells was r e = by (plan_checked u prices cells (length was)) (best u prices) refl refl e
    where
      by : (k : Checked) (b : Plan) → plan_checked u prices cells (length was) ≡ k → best u prices ≡ b → reported_by k b (outcomes_of u prices) ≡ Ok r
          → Given cells was r.count r.profit × (r.outcomes ≡ outcomes_of u prices)
      by (Ok _) nothing i is e = let z : ◌≡◌ {A = ℕ} 0 1 = cc in absurd (omega arith)
      by (Ok _) (plan s q) i is e =
          let same : record { count = length s; profit = q; outcomes = outcomes_of u prices } ≡ r = cc in
          (subst (λ (x : Report). Given cells was x.count x.profit) same (given_by cells was s q i is), sym (ap (λ (x : Report). x.outcomes) same))
      by (Err cause) b i is e = let z : ◌≡◌ {A = ℕ} 0 1 = cc in absurd (omega arith)

  pub given-is-best : (cells : ℕ) (was : List ℕ) (n : ℕ) (p : ℤ) → Given cells was n p → IsBest u prices (take n (schedule_left u prices cells was)) p
  given-is-best cells was n p g =
      let h = (passing u (prices_kept prices) (length prices) g.case).order in
      (plan-exactly u h.ranges h.shape prices (take n (schedule_left u prices cells was)) p).0 g.best-is

  pub given-is-passed : (cells : ℕ) (was : List ℕ) (n : ℕ) (p : ℤ) → Given cells was n p
      → assessed u prices (take n (schedule_left u prices cells was)) ≡ Ok p
  given-is-passed cells was n p g =
      let b = given-is-best cells was n p g in
      (passed-exactly u prices (take n (schedule_left u prices cells was)) p).1 (g.case, b.own, b.earns)

  -- ---- the outcomes

  pub value-case : (cells : ℕ) (o : Outcomes) → valued u prices cells ≡ Ok o → InCase × (o ≡ outcomes_of u prices)
  value-case cells o e = by (value_checked u prices cells) refl e
    where
      by : (k : Checked) → value_checked u prices cells ≡ k → valued_by k (outcomes_of u prices) ≡ Ok o → InCase × (o ≡ outcomes_of u prices)
      by (Ok _) i e =
          let same : outcomes_of u prices ≡ o = cc in
          let turn = then-passed (value_lent u prices cells) (schedule_checked u prices) (sym (value-turn u prices cells) ∙ i) in
          (lent-case true cells (value_lent_lem u prices cells ∙ turn.0), sym same)
      by (Err cause) i e = let z : ◌≡◌ {A = ℕ} 0 1 = cc in absurd (omega arith)

  outcomes-of : (o : Outcomes) → InCase → o ≡ outcomes_of u prices → (which : Limitation) → Says u prices which (outcome_for o which)
  outcomes-of o case is which =
      let h = (passing u (prices_kept prices) (length prices) case).order in
      (outcome-exactly u h.ranges h.shape prices which (outcome_for o which)).0 (by which)
    where
      by : (which : Limitation) → outcome_for o which ≡ outcome_of u prices which
      by Starts = ap (λ (x : Outcomes). x.starts) is
      by Hours = ap (λ (x : Outcomes). x.hours) is
      by Mwh = ap (λ (x : Outcomes). x.mwh) is

  pub value-says : (cells : ℕ) (o : Outcomes) → valued u prices cells ≡ Ok o → (which : Limitation) → Says u prices which (outcome_for o which)
  value-says cells o e = let f = value-case cells o e in outcomes-of o f.0 f.1

  pub report-says : (cells : ℕ) (was : List ℕ) (r : Report) → reported u prices cells (length was) ≡ Ok r
      → (which : Limitation) → Says u prices which (outcome_for r.outcomes which)
  report-says cells was r e = let f = report-given cells was r e in outcomes-of r.outcomes f.0.case f.1

  -- ---- a gap is given exactly where there is a lower run and it has a schedule

  gap-when : (which : Limitation) (o : Outcome) → Says u prices which o → ((gap : ℤ) × (o ≡ outcome.Gap gap)) ↔ LowerRun u prices which
  gap-when which o says = (λ given. lower given.0 (subst (Says u prices which) given.1 says), λ run. by o says run)
    where
      lower : (gap : ℤ) → GapAt u prices which gap → LowerRun u prices which
      lower gap g =
          record {
            figure = g.figure;
            less = g.less;
            limited = g.limited;
            nine-tenths = g.nine-tenths;
            schedule = g.lower-schedule;
            keeps = g.lower.own;
          }

      by : (o : Outcome) → Says u prices which o → LowerRun u prices which → (gap : ℤ) × (o ≡ outcome.Gap gap)
      by outcome.None none run =
          let clash : None ≡ Some run.figure = sym none ∙ run.limited in
          let z : ◌≡◌ {A = ℕ} 0 1 = cc in
          absurd (omega arith)
      by outcome.Empty empty run =
          let same : empty.figure ≡ run.figure = cc (empty.limited, run.limited) in
          absurd (omega (arith, sym empty.nine-tenths ∙ ap lowered same ∙ run.nine-tenths))
      by outcome.Never never run =
          let same : never.figure ≡ run.figure = cc (never.limited, run.limited) in
          let less : never.less ≡ run.less = omega (arith, sym never.nine-tenths ∙ ap lowered same ∙ run.nine-tenths) in
          absurd (never.none-lower run.schedule (subst (λ (n : ℕ). Rival (run_at u which n) prices run.schedule) (sym less) run.keeps))
      by (outcome.Gap gap) given run = (gap, refl)

  pub value-gap : (cells : ℕ) (o : Outcomes) → valued u prices cells ≡ Ok o
      → (which : Limitation) → ((gap : ℤ) × (outcome_for o which ≡ outcome.Gap gap)) ↔ LowerRun u prices which
  value-gap cells o e which = gap-when which (outcome_for o which) (value-says cells o e which)

  pub report-gap : (cells : ℕ) (was : List ℕ) (r : Report) → reported u prices cells (length was) ≡ Ok r
      → (which : Limitation) → ((gap : ℤ) × (outcome_for r.outcomes which ≡ outcome.Gap gap)) ↔ LowerRun u prices which
  report-gap cells was r e which = gap-when which (outcome_for r.outcomes which) (report-says cells was r e which)

  -- ---- `never` for starts

  starts-not-never : (o : Outcomes) → ((which : Limitation) → Says u prices which (outcome_for o which)) → (NoRival u prices → ⊥) → o.starts ≡ Never → ⊥
  starts-not-never o says some e =
      let never = subst (Says u prices Starts) e (says Starts) in
      some (none-lower-none u prices never.less never.none-lower)

  pub value-starts : (cells : ℕ) (o : Outcomes) → valued u prices cells ≡ Ok o → o.starts ≡ Never → ⊥
  value-starts cells o e =
      let given = e ∙ ap Ok (value-case cells o e).1 in
      starts-not-never o (value-says cells o e)
      (none-later (case_causes u prices) (table_causes u prices cells) ((valuing-answered u prices cells).0 given)).1.0

  pub report-starts : (cells : ℕ) (was : List ℕ) (r : Report) → reported u prices cells (length was) ≡ Ok r → r.outcomes.starts ≡ Never → ⊥
  report-starts cells was r e =
      starts-not-never r.outcomes (report-says cells was r e)
      (none-later (case_causes u prices) (slices_causes u prices cells (length was)) ((reporting-answered u prices cells (length was)).0 (r, e))).1.1.0

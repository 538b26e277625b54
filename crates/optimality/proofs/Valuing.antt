-- Valuing: under larger limitations every rival stays one, so the best profit does not fall; hence what each outcome says.
use Rattle.std.specs.Prelude.{None, Some}
use mathlib.Core.Path.{◌≡◌, refl, sym, ap, ap₂, ◌∙◌, subst}
use mathlib.Core.Bool.{true, ◌&&◌}
use mathlib.Core.List.{List}
use mathlib.Core.Logic.{◌↔◌}
use Prim.Native.Nat.{ℕ, zero, suc, ◌*◌}
use native.Mathlib.Nat.{mul-le-mul_left}
use native.Mathlib.Omega.{arith}
use borrow.Author.Tests.{le-leb, leb-true}
use lib.IntN.{ℤ}
use lib.Signed.{◌≤ℤ◌}
use Rattle.integers.proofs.Linear.{zarith, zdiff, up_pos, dn-pos}
use Rattle.lists.proofs.Conjunctions.{both}
use Rattle.commitment.specs.Types.{BestProfit}
use Rattle.commitment.specs.Types.{Limit}
use Rattle.commitment.specs.declared.Limits.{Limits}
use Rattle.commitment.specs.declared.Limitation.{Limitation}
use Rattle.commitment.specs.declared.Limitation.TheVariants.{Starts, Hours, Mwh}
use Rattle.commitment.specs.declared.Outcome.{Outcome}
use Rattle.commitment.specs.declared.Outcome.TheVariants as outcome
use Rattle.commitment.specs.declared.UnitRecord.{UnitRecord}
use Rattle.commitment.specs.Limits.{within, limit_for, with_limit, limited}
use Rattle.commitment.specs.Keeping.{was_on, starts_in, on_intervals, output_sum, keeps_runs, keeps_spells, keeps_window}
use Rattle.commitment.specs.Profit.{profit}
use Rattle.commitment.specs.Best.{Plan, nothing, plan, best, profit_of}
use Rattle.commitment.specs.Rivals.{Rival, IsBest}
use Rattle.commitment.specs.Valuing.{lowered, run_at, gap_between, gap_at, gap_under, outcome_of}
use Rattle.optimality.specs.Runs.{AtMost, Under}
use Rattle.optimality.specs.Outcomes.{Says}
use Rattle.optimality.proofs.Ranges.{Ranged}
use Rattle.optimality.proofs.Rival.{not-plan}
use Rattle.optimality.proofs.Best.{plan-best, no-plan, no-rivals, best-plan}
use Rattle.optimality.proofs.Opening.{under-with}

-- ---- larger limitations

within_more : (unit count : ℕ) (k l : Limit) → AtMost k l → within unit count k ≡ true → within unit count l ≡ true
within_more unit count None None h e = refl
within_more unit count None (Some m) h e = absurd h
within_more unit count (Some k) None h e = absurd h
within_more unit count (Some k) (Some m) h e =
    le-leb count (unit * m) (omega (arith, leb-true count (unit * k) e, mul-le-mul_left unit h))

module _ (u : UnitRecord) (prices : List ℤ) (a b : Limits) (under : Under a b) where
  -- the limitations have no part in what an output is, nor in what a schedule earns
  rival-more : (s : List ℕ) → Rival (limited u a) prices s → Rival (limited u b) prices s
  rival-more s r =
      let starts = starts_in (was_on u.opening) s in
      let A = within 1 starts a.starts in
      let B = within 4 (on_intervals s) a.hours in
      let C = within 4 (output_sum s) a.mwh in
      let hours = both (A && keeps_runs u s && keeps_spells u s && B && C) (keeps_window u s) r.kept in
      let all = both (A && keeps_runs u s && keeps_spells u s && B) C hours.0 in
      let first = both (A && keeps_runs u s && keeps_spells u s) B all.0 in
      let times = both (A && keeps_runs u s) (keeps_spells u s) first.0 in
      let start = both A (keeps_runs u s) times.0 in
      record {
        schedule = r.schedule;
        kept =
            simp (
              within_more 1 starts a.starts b.starts (under Starts) start.0,
              start.1,
              times.1,
              within_more 4 (on_intervals s) a.hours b.hours (under Hours) first.1,
              within_more 4 (output_sum s) a.mwh b.mwh (under Mwh) all.1,
              hours.1,
            );
      }

  -- a run with a schedule has one under larger limitations, and its best profit does not fall
  pub more-earns : Ranged u → (t : List ℕ) (q : ℤ) → best (limited u a) prices ≡ plan t q
      → (s : List ℕ) × (p : ℤ) × (best (limited u b) prices ≡ plan s p) × (q ≤ℤ p)
  more-earns ok t q e = see (best (limited u b) prices) refl
    where
      low : IsBest (limited u a) prices t q
      low = plan-best (limited u a) prices ok t q e

      see : (w : Plan) → best (limited u b) prices ≡ w → (s : List ℕ) × (p : ℤ) × (best (limited u b) prices ≡ plan s p) × (q ≤ℤ p)
      see nothing i = absurd (no-plan (limited u b) prices ok i t (rival-more t low.own))
      see (plan s p) i =
          let le : profit u prices t ≤ℤ p = (plan-best (limited u b) prices ok s p i).most t (rival-more t low.own) in
          let same : profit u prices t ≡ q = low.earns in
          (s, p, i, (rw same at le))

-- ---- what an outcome says

module _ (u : UnitRecord) (ok : Ranged u) (prices : List ℤ) (which : Limitation) where
  abbrev run : ℕ → UnitRecord
  run k = run_at u which k

  abbrev run_profit : ℕ → BestProfit
  run_profit k = profit_of (best (run k) prices)

  rises : (k : ℕ) (t : List ℕ) (q : ℤ) → best (run k) prices ≡ plan t q → (s : List ℕ) × (p : ℤ) × (best (run (suc k)) prices ≡ plan s p) × (q ≤ℤ p)
  rises k =
      more-earns u prices (with_limit u.limits which (Some k)) (with_limit u.limits which (Some (suc k)))
      (under-with u.limits which (Some k) (Some (suc k)) (omega arith)) ok

  gap-says : (n k : ℕ) → limit_for u.limits which ≡ Some n → lowered n ≡ suc k
      → (first lower : Plan) → best (run (suc k)) prices ≡ first → best (run k) prices ≡ lower
      → Says u prices which (gap_between (profit_of first) (profit_of lower))
  gap-says n k l h first nothing e i =
      record { figure = n; less = k; limited = l; nine-tenths = h; none-lower = no-plan (run k) prices ok i }
  gap-says n k l h nothing (plan t q) e i = absurd (let r = rises k t q i in not-plan (sym e ∙ r.2))
  gap-says n k l h (plan s p) (plan t q) e i =
      let r = rises k t q i in
      let same : plan s p ≡ plan r.0 r.1 = sym e ∙ r.2 in
      let top : p ≡ r.1 = cc in
      let le : q ≤ℤ r.1 = r.3 in
      record {
        figure = n;
        less = k;
        limited = l;
        nine-tenths = h;
        schedule = s;
        profit = p;
        first = plan-best (run (suc k)) prices ok s p e;
        lower-schedule = t;
        lower-profit = q;
        lower = plan-best (run k) prices ok t q i;
        difference = refl;
        never-below-zero = omega (zarith, zdiff p q, up_pos 0, dn-pos 0);
      }

  outcome-says : (l : Limit) → limit_for u.limits which ≡ l → Says u prices which (gap_under run_profit l)
  outcome-says None e = e
  outcome-says (Some n) e = by (lowered n) refl
    where
      by : (k : ℕ) → lowered n ≡ k → Says u prices which (gap_at run_profit k)
      by zero h = record { figure = n; limited = e; nine-tenths = h }
      by (suc k) h = gap-says n k e h (best (run (suc k)) prices) (best (run k) prices) refl refl

  -- and nothing else says so
  outcome-at : (n k : ℕ) (o : Outcome) → limit_for u.limits which ≡ Some n → lowered n ≡ k → gap_at run_profit k ≡ o → o ≡ outcome_of u prices which
  outcome-at n k o e h i = rw (e, h) (sym i)

  says-outcome : (o : Outcome) → Says u prices which o → o ≡ outcome_of u prices which
  says-outcome outcome.None h = rw h
  says-outcome outcome.Empty h = outcome-at h.figure 0 outcome.Empty h.limited h.nine-tenths refl
  says-outcome outcome.Never h =
      outcome-at h.figure (suc h.less) outcome.Never h.limited h.nine-tenths
      (ap (λ (a : Plan). gap_between (run_profit (suc h.less)) (profit_of a)) (no-rivals (run h.less) prices ok h.none-lower))
  says-outcome (outcome.Gap d) h =
      outcome-at h.figure (suc h.less) (outcome.Gap d) h.limited h.nine-tenths
      (ap₂ (λ (a b : Plan). gap_between (profit_of a) (profit_of b))
      (best-plan (run (suc h.less)) prices ok h.schedule h.profit h.first)
      (best-plan (run h.less) prices ok h.lower-schedule h.lower-profit h.lower)
      ∙ ap outcome.Gap (sym h.difference))

  -- an outcome is what it says, exactly
  pub outcome-exactly : (o : Outcome) → (o ≡ outcome_of u prices which) ↔ Says u prices which o
  outcome-exactly o = ((λ e. subst (Says u prices which) (sym e) (outcome-says (limit_for u.limits which) refl)), says-outcome o)

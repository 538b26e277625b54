-- Demand 3 (specification 17): the plan is the best, and what an opportunity cost is.
use Rattle.std.specs.Prelude.{Ok}
use mathlib.Core.Path.{◌≡◌}
use mathlib.Core.Bool.{true, not}
use mathlib.Core.List.{List}
use mathlib.Core.Logic.{◌↔◌}
use Prim.Native.Nat.{ℕ}
use lib.IntN.{ℤ}
use lib.ListN.{length, take, drop}
use Rattle.commitment.specs.declared.Limitation.{Limitation}
use Rattle.commitment.specs.declared.Outcome.TheVariants.{Never}
use Rattle.commitment.specs.declared.Outcomes.{Outcomes}
use Rattle.commitment.specs.declared.UnitRecord.{UnitRecord}
use Rattle.commitment.specs.Order.{earlier}
use Rattle.commitment.specs.Profit.{profit}
use Rattle.commitment.specs.Rivals.{Rival, IsBest}
use Rattle.optimality.specs.Outcomes.{Says}
use Rattle.optimality.proofs.Best as best_of
use Rattle.assessment.specs.Assessed.{assessed}
use Rattle.planner.specs.declared.Report.{Report}
use Rattle.planner.specs.Planning.{planned, schedule_left}
use Rattle.planner.specs.Reporting.{reported}
use Rattle.planner.specs.Valuing.{valued}
use Rattle.promises.specs.Outcomes.{outcome_for}
use Rattle.promises.proofs.Planning as plans
use Rattle.promises.specs.Outcomes.{LowerRun}
use Rattle.commitment.specs.declared.Outcome.TheVariants.{Gap}
use Rattle.planner.specs.Types.{plan_with}

-- No rival earns more than the plan, and none that earns as much is earlier. The plan is the first n entries
-- of the schedule slice, n the count given; the entries behind are as they were.

pub planned-is-best : (u : UnitRecord) (prices : List ℤ) (cells : ℕ) (was : List ℕ) (n : ℕ) (p : ℤ)
    → planned u prices cells (length was) ≡ plan_with n p → IsBest u prices (take n (schedule_left u prices cells was)) p
planned-is-best u prices cells was n p e = plans.given-is-best u prices cells was n p (plans.plan-given u prices cells was n p e)

pub plan-beside : (u : UnitRecord) (prices : List ℤ) (cells : ℕ) (was : List ℕ) (n : ℕ) (p : ℤ)
    → planned u prices cells (length was) ≡ plan_with n p → drop n (schedule_left u prices cells was) ≡ drop n was
plan-beside u prices cells was n p e = (plans.plan-given u prices cells was n p e).rest

pub reported-is-best : (u : UnitRecord) (prices : List ℤ) (cells : ℕ) (was : List ℕ) (r : Report)
    → reported u prices cells (length was) ≡ Ok r → IsBest u prices (take r.count (schedule_left u prices cells was)) r.profit
reported-is-best u prices cells was r e = plans.given-is-best u prices cells was r.count r.profit (plans.report-given u prices cells was r e).0

pub report-beside : (u : UnitRecord) (prices : List ℤ) (cells : ℕ) (was : List ℕ) (r : Report)
    → reported u prices cells (length was) ≡ Ok r → drop r.count (schedule_left u prices cells was) ≡ drop r.count was
report-beside u prices cells was r e = (plans.report-given u prices cells was r e).0.rest

-- the best is earlier than every other rival that earns as much

pub best-is-earlier : (u : UnitRecord) (prices : List ℤ) (plan : List ℕ) (p : ℤ) → IsBest u prices plan p
    → (rival : List ℕ) → Rival u prices rival → profit u prices rival ≡ p → (rival ≡ plan → ⊥) → earlier plan rival ≡ true
best-is-earlier = best_of.best-is-earlier

-- and the plan handed in is passed with its profit

pub plan-is-passed : (u : UnitRecord) (prices : List ℤ) (cells : ℕ) (was : List ℕ) (n : ℕ) (p : ℤ)
    → planned u prices cells (length was) ≡ plan_with n p → assessed u prices (take n (schedule_left u prices cells was)) ≡ Ok p
plan-is-passed u prices cells was n p e = plans.given-is-passed u prices cells was n p (plans.plan-given u prices cells was n p e)

pub report-is-passed : (u : UnitRecord) (prices : List ℤ) (cells : ℕ) (was : List ℕ) (r : Report)
    → reported u prices cells (length was) ≡ Ok r
    → assessed u prices (take r.count (schedule_left u prices cells was)) ≡ Ok r.profit
report-is-passed u prices cells was r e = plans.given-is-passed u prices cells was r.count r.profit (plans.report-given u prices cells was r e).0

-- An opportunity cost is the gap between the best profit at nine tenths of a limitation and one unit lower, given exactly when that lower run exists
-- and has a schedule: what each outcome says of the two runs stands in `optimality`, specs/Outcomes.

pub outcomes-say : (u : UnitRecord) (prices : List ℤ) (cells : ℕ) (o : Outcomes) → valued u prices cells ≡ Ok o
    → (which : Limitation) → Says u prices which (outcome_for o which)
outcomes-say = plans.value-says

pub reported-outcomes-say : (u : UnitRecord) (prices : List ℤ) (cells : ℕ) (was : List ℕ) (r : Report)
    → reported u prices cells (length was) ≡ Ok r → (which : Limitation) → Says u prices which (outcome_for r.outcomes which)
reported-outcomes-say = plans.report-says

-- an opportunity cost is given exactly when there is a lower run and it has a schedule

pub gap-exactly : (u : UnitRecord) (prices : List ℤ) (cells : ℕ) (o : Outcomes) → valued u prices cells ≡ Ok o
    → (which : Limitation) → ((gap : ℤ) × (outcome_for o which ≡ Gap gap)) ↔ LowerRun u prices which
gap-exactly = plans.value-gap

pub reported-gap-exactly : (u : UnitRecord) (prices : List ℤ) (cells : ℕ) (was : List ℕ) (r : Report)
    → reported u prices cells (length was) ≡ Ok r
    → (which : Limitation) → ((gap : ℤ) × (outcome_for r.outcomes which ≡ Gap gap)) ↔ LowerRun u prices which
reported-gap-exactly = plans.report-gap

-- `never` does not occur for starts: a case that has a schedule has one without a start

pub never-is-not-of-starts : (u : UnitRecord) (prices : List ℤ) (cells : ℕ) (o : Outcomes) → valued u prices cells ≡ Ok o → o.starts ≡ Never → ⊥
never-is-not-of-starts = plans.value-starts

pub reported-never-is-not-of-starts : (u : UnitRecord) (prices : List ℤ) (cells : ℕ) (was : List ℕ) (r : Report)
    → reported u prices cells (length was) ≡ Ok r → r.outcomes.starts ≡ Never → ⊥
reported-never-is-not-of-starts = plans.report-starts

-- The answers of the calls, one by the other.
use Rattle.std.specs.Prelude.{Err, Ok}
use mathlib.Core.Path.{◌≡◌, refl, ap}
use mathlib.Core.List.{List}
use Prim.Native.Nat.{ℕ, ◌≤◌}
use native.Mathlib.Omega.{arith}
use lib.ListN.{length, take, drop, length-append}
use lib.Seq.{take-append_seam}
use Rattle.commitment.specs.Types.{Checked}
use Rattle.commitment.specs.declared.Outcomes.{Outcomes}
use Rattle.commitment.specs.Best.{Plan, nothing, plan}
use Rattle.planner.specs.declared.Report.{Report}
use Rattle.planner.specs.Planning.{planned_by, schedule_after, planned_count, planned_part}
use Rattle.planner.specs.Reporting.{reported_by, plan_in}

-- a report without its outcomes is the plan
pub plan-in : (k : Checked) (b : Plan) (o : Outcomes) → plan_in (reported_by k b o) ≡ planned_by k b
plan-in (Ok _) nothing o = refl
plan-in (Ok _) (plan s p) o = refl
plan-in (Err cause) b o = refl

-- the part that comes back is the plan
pub part-is : (k : Checked) (b : Plan) (was : List ℕ) → take (planned_count (planned_by k b)) (schedule_after k b was) ≡ planned_part k b
part-is (Ok _) nothing was = refl
part-is (Ok _) (plan s p) was = take-append_seam s (drop (length s) was)
part-is (Err cause) b was = refl

pub count_fits : (k : Checked) (b : Plan) (was : List ℕ) → planned_count (planned_by k b) ≤ length (schedule_after k b was)
count_fits (Ok _) nothing was = omega arith
count_fits (Ok _) (plan s p) was = omega (arith, length-append s (drop (length s) was))
count_fits (Err cause) b was = omega arith

-- a report counts entries that the schedule slice has
pub report-fits : (k : Checked) (b : Plan) (o : Outcomes) (was : List ℕ) (r : Report) → reported_by k b o ≡ Ok r → r.count ≤ length (schedule_after k b was)
report-fits (Ok _) nothing o was r e = let z : ◌≡◌ {A = ℕ} 0 1 = cc in absurd (omega arith)
report-fits (Ok _) (plan s p) o was r e =
    let same : record { count = length s; profit = p; outcomes = o } ≡ r = cc in
    omega (arith, length-append s (drop (length s) was), ap (λ (x : Report). x.count) same)
report-fits (Err cause) b o was r e = let z : ◌≡◌ {A = ℕ} 0 1 = cc in absurd (omega arith)

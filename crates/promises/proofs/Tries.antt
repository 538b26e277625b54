-- The tries of reading off a plan (specification 23), clause by clause. No call tells them: `planner::reading::read_plan`, which reads a plan off the long
-- table or works it out in two layers, returns their sum, `plan_tries` by its contract.
use Rattle.std.specs.Prelude.{Ok, Some}
use mathlib.Core.Path.{◌≡◌, sym, ap, ◌∙◌}
use mathlib.Core.Bool.{◌&&◌}
use mathlib.Core.List.{List, [], map}
use Prim.Native.Nat.{ℕ, ◌+◌, ◌-◌, ◌*◌, ◌≤◌}
use native.Mathlib.Omega.{arith}
use borrow.Author.Tests.{leb-true}
use lib.Dec.{eqb}
use lib.IntN.{ℤ}
use lib.ListN.{length, take}
use Rattle.lists.specs.Every.{every}
use Rattle.lists.proofs.Conjunctions.{both}
use Rattle.commitment.specs.declared.UnitRecord.{UnitRecord}
use Rattle.commitment.specs.Best.{Plan, plan, schedule_of, best}
use Rattle.commitment.specs.Keeping.{output_sum, keeps_starts, keeps_runs, keeps_spells, keeps_hours, keeps_mwh, keeps_window}
use Rattle.commitment.specs.Ranges.{prices_kept}
use Rattle.commitment.specs.Rivals.{Rival}
use Rattle.commitment.specs.Schedule.{is_output}
use Rattle.commitment.specs.Tries.{tries_for, tries_over, plan_tries, read_from}
use Rattle.commitment.proofs.Passing.{passing}
use Rattle.commitment.proofs.Tries as tries
use Rattle.optimality.proofs.Best.{rival-length}
use Rattle.optimality.proofs.Ranges.{Ranged, ranged}
use Rattle.optimality.proofs.Tries.{plan-with-tries}
use Rattle.planner.specs.declared.Report.{Report}
use Rattle.planner.specs.Planning.{planned, schedule_left}
use Rattle.planner.specs.Reporting.{reported}
use Rattle.promises.proofs.Planning.{Given, given-is-best, plan-given, report-given}
use Rattle.planner.specs.Types.{plan_with}

-- ---- what an output takes: 1 for off, otherwise two more than its blocks above pmin

pub off-takes : (block pmin : ℕ) → 1 ≤ block → tries_for block pmin 0 ≡ 1
off-takes block pmin h = let z : 0 * block ≡ 0 = omega arith in ap (tries_for block pmin) (sym z) ∙ tries.tries-in-blocks block pmin 0 h

pub on-takes : (block pmin k : ℕ) → 1 ≤ block → 1 ≤ k → tries_for block pmin (k * block) ≡ k - pmin + 2
on-takes block pmin k h some = tries.tries-in-blocks block pmin k h ∙ tries.tries-on pmin k some

-- ---- what a plan takes

module _ (u : UnitRecord) (prices : List ℤ) where
  -- what is said of the outputs of a plan
  pub record WithTries (s : List ℕ) : Type 0 where
    -- tried from 0 upwards, in each interval the first output that reaches the best remaining profit is the plan's; it comes with its count of tries
    pub each : read_from u prices [] (length prices) ≡ map (λ (m : ℕ). (m, tries_for u.generator.block u.generator.pmin m)) s
    -- in all, their sum over the schedule
    pub sum : plan_tries u prices ≡ tries_over u.generator.block u.generator.pmin s
    -- which is at most one for each output of the unit in each interval, and at most one for each interval and one for each block of output
    pub most : plan_tries u prices ≤ length prices * (u.generator.pmax - u.generator.pmin + 2)
    pub blocks : plan_tries u prices * u.generator.block ≤ length prices * u.generator.block + output_sum s
    -- so many blocks as the limitation of MWh leaves room for
    pub mwh : (limit : ℕ) → u.limits.mwh ≡ Some limit → plan_tries u prices * u.generator.block ≤ length prices * u.generator.block + 4 * limit

  -- a rival's outputs add up to no more than the limitation of MWh
  sum_kept : (s : List ℕ) → Rival u prices s → (limit : ℕ) → u.limits.mwh ≡ Some limit → output_sum s ≤ 4 * limit
  sum_kept s own limit e =
      let first = keeps_starts u s && keeps_runs u s && keeps_spells u s && keeps_hours u s in
      let kept = (both first (keeps_mwh u s) (both (first && keeps_mwh u s) (keeps_window u s) own.kept).0).1 in
      leb-true (output_sum s) (4 * limit) (rw e at kept)

  of-best : Ranged u → (s : List ℕ) (p : ℤ) → best u prices ≡ plan s p → Rival u prices s → WithTries s
  of-best ok s p is own =
      let long = rival-length u prices s own in
      let outputs = (both (eqb (length s) (length prices)) (every (is_output u.generator) s) own.schedule).1 in
      let sum : plan_tries u prices ≡ tries_over u.generator.block u.generator.pmin s =
      ap (λ (b : Plan). tries_over u.generator.block u.generator.pmin (schedule_of b)) is in
      let blocks : plan_tries u prices * u.generator.block ≤ length prices * u.generator.block + output_sum s =
      rw (sum, ← long) (tries.tries-by-blocks u.generator.block u.generator.pmin ok.pmin s) in
      record {
        each = plan-with-tries u prices ok.block ok.pmin s p long is;
        sum = sum;
        most = rw (sum, ← long) (tries.tries-at-most u.generator s outputs);
        blocks = blocks;
        mwh = λ limit e. omega (arith, blocks, sum_kept s own limit e);
      }

  with-tries : (cells : ℕ) (was : List ℕ) (n : ℕ) (p : ℤ) → Given u prices cells was n p → WithTries (take n (schedule_left u prices cells was))
  with-tries cells was n p g =
      let order = (passing u (prices_kept prices) (length prices) g.case).order in
      of-best (ranged u order.ranges order.shape) (take n (schedule_left u prices cells was)) p g.best-is
      (given-is-best u prices cells was n p g).own

  pub planned-with-tries : (cells : ℕ) (was : List ℕ) (n : ℕ) (p : ℤ)
      → planned u prices cells (length was) ≡ plan_with n p → WithTries (take n (schedule_left u prices cells was))
  planned-with-tries cells was n p e = with-tries cells was n p (plan-given u prices cells was n p e)

  pub reported-with-tries : (cells : ℕ) (was : List ℕ) (r : Report)
      → reported u prices cells (length was) ≡ Ok r → WithTries (take r.count (schedule_left u prices cells was))
  reported-with-tries cells was r e = with-tries cells was r.count r.profit (report-given u prices cells was r e).0

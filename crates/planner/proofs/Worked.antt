-- The best plan, by its profit, in the front of the schedule, and its report.
use Rattle.std.specs.Prelude.{None, Ok, Some}
use mathlib.Core.Path.{◌≡◌, refl, sym, ap}
use mathlib.Core.List.{List, ◌++◌}
use Prim.Native.Nat.{ℕ}
use native.Mathlib.Omega.{arith}
use lib.IntN.{ℤ}
use lib.ListN.{length, drop}
use Rattle.commitment.specs.declared.Outcomes.{Outcomes}
use Rattle.commitment.specs.declared.UnitRecord.{UnitRecord}
use Rattle.commitment.specs.Best.{Plan, nothing, plan, best, profit_of, schedule_of}
use Rattle.optimality.proofs.Optimal.{plan-length}
use Rattle.planner.specs.Types.{Reported}
use Rattle.planner.specs.Planning.{schedule_after}
use Rattle.valuation.specs.Telling.{Told}

-- ---- best profits and plans

pub no-plan : (b : Plan) → profit_of b ≡ None → b ≡ nothing
no-plan nothing e = refl
no-plan (plan s p) e = let z : ◌≡◌ {A = ℕ} 0 1 = cc in absurd (omega arith)

pub some-plan : (b : Plan) (p : ℤ) → profit_of b ≡ Some p → (s : List ℕ) × (b ≡ plan s p)
some-plan nothing p e = let z : ◌≡◌ {A = ℕ} 0 1 = cc in absurd (omega arith)
some-plan (plan s q) p e = let same : q ≡ p = cc in (s, ap (plan s) same)

-- a report is the plan's count and profit, with the outcomes
pub same-report : {a a' : ℕ} {p p' : ℤ} {o o' : Outcomes} → a ≡ a' → p ≡ p' → o ≡ o'
    → ◌≡◌ {A = Reported} (Ok (record { count = a; profit = p; outcomes = o })) (Ok (record { count = a'; profit = p'; outcomes = o' }))
same-report e f g = cc

-- ---- the plan in the schedule's front

-- where there is a schedule, what is read off from the opening cell is the best plan, in the schedule's front
module _ (u : UnitRecord) (prices cells : List ℤ) (t : Told u prices cells) where
  pub plan-in-front : (was : List ℕ) → (profit_of (best u prices) ≡ None → ⊥)
      → schedule_of (best u prices) ++ drop (length prices) was ≡ schedule_after (Ok tt) (best u prices) was
  plan-in-front was some = by (best u prices) some (plan-length u t.order.ranges t.order.shape prices)
    where
      by : (b : Plan) → (profit_of b ≡ None → ⊥) → ((s : List ℕ) (p : ℤ) → b ≡ plan s p → length s ≡ length prices)
          → schedule_of b ++ drop (length prices) was ≡ schedule_after (Ok tt) b was
      by nothing some long = absurd (some refl)
      by (plan s p) some long = ap (λ (k : ℕ). s ++ drop k was) (sym (long s p refl))

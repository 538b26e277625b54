-- What the best of a case is, for every record within its ranges and every list of prices. A rival is any list of outputs whatever that keeps the case
-- (specs/Rivals of `commitment`). Each proof cites the file that does the work.
use mathlib.Core.Path.{◌≡◌}
use mathlib.Core.Bool.{true}
use mathlib.Core.List.{List}
use mathlib.Core.Logic.{◌↔◌}
use Prim.Native.Nat.{ℕ}
use lib.IntN.{ℤ}
use lib.ListN.{length}
use Rattle.commitment.specs.declared.Limitation.{Limitation}
use Rattle.commitment.specs.declared.Outcome.{Outcome}
use Rattle.commitment.specs.declared.UnitRecord.{UnitRecord}
use Rattle.commitment.specs.Ranges.{ranges_kept, shape_kept}
use Rattle.commitment.specs.Best.{nothing, plan, best}
use Rattle.commitment.specs.Rivals.{Rival, IsBest}
use Rattle.commitment.specs.Valuing.{outcome_of}
use Rattle.optimality.specs.Outcomes.{Says}
use Rattle.optimality.proofs.Ranges.{ranged}
use Rattle.optimality.proofs.Best as best_of
use Rattle.optimality.proofs.Valuing as valuing

module _ (u : UnitRecord) (ranges : ranges_kept u ≡ true) (shape : shape_kept u.generator ≡ true) (prices : List ℤ) where
  -- the plan is best, and whatever is best is the plan
  pub plan-exactly : (s : List ℕ) (p : ℤ) → (best u prices ≡ plan s p) ↔ IsBest u prices s p
  plan-exactly s p = (best_of.plan-best u prices (ranged u ranges shape) s p, best_of.best-plan u prices (ranged u ranges shape) s p)

  -- it has an output for each interval
  pub plan-length : (s : List ℕ) (p : ℤ) → best u prices ≡ plan s p → length s ≡ length prices
  plan-length s p e = best_of.rival-length u prices s ((plan-exactly s p).0 e).own

  -- there is no schedule exactly when no rival exists
  pub no-schedule-exactly : (best u prices ≡ nothing) ↔ ((r : List ℕ) → Rival u prices r → ⊥)
  no-schedule-exactly = (best_of.no-plan u prices (ranged u ranges shape), best_of.no-rivals u prices (ranged u ranges shape))

  -- each outcome is what it says of the best profits of two runs, exactly; a gap is never below zero (specs/Outcomes)
  pub outcome-exactly : (which : Limitation) (o : Outcome) → (o ≡ outcome_of u prices which) ↔ Says u prices which o
  outcome-exactly = valuing.outcome-exactly u (ranged u ranges shape) prices

-- Demand 3 as a relation (specification 8): what it is to be the best plan, said of every rival and not by trying lists.
use Rattle.std.specs.Prelude.{◌≡◌, true, false, List, ℕ, ℤ, length, ◌≤ℤ◌}
use Rattle.commitment.specs.declared.UnitRecord.{UnitRecord}
use Rattle.commitment.specs.Schedule.{is_schedule}
use Rattle.commitment.specs.Keeping.{keeps_case}
use Rattle.commitment.specs.Profit.{profit}
use Rattle.commitment.specs.Order.{earlier}

-- a rival is any list of the unit's outputs, one for each interval, that keeps the case
pub record Rival (u : UnitRecord) (prices : List ℤ) (s : List ℕ) : Type 0 where
  pub schedule : is_schedule u.generator (length prices) s ≡ true
  pub kept : keeps_case u s ≡ true

-- the plan is a schedule that keeps the case and earns p; no rival earns more, and none that earns as much is earlier
pub record IsBest (u : UnitRecord) (prices : List ℤ) (s : List ℕ) (p : ℤ) : Type 0 where
  pub own : Rival u prices s
  pub earns : profit u prices s ≡ p
  pub most : (r : List ℕ) → Rival u prices r → profit u prices r ≤ℤ p
  pub first : (r : List ℕ) → Rival u prices r → profit u prices r ≡ p → earlier r s ≡ false

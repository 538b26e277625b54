-- Which kind a generated case is of: the bits of its number say which limitations there are, whether the unit was on and whether hours are permitted.
use Rattle.std.specs.Prelude.{◌≡◌, ℕ, ◌/◌, ◌%◌, ◌≤◌, not, ◌==◌, is_some}
use Rattle.enumeration.specs.declared.enumerator.Case.{Case}
use Rattle.enumeration.specs.Lists.{room}

pub record OfKind (number : ℕ) (case : Case) : Type 0 where
  pub starts : is_some case.limits.starts ≡ (number % 2 == 1)
  pub hours : is_some case.limits.hours ≡ (number / 2 % 2 == 1)
  pub mwh : is_some case.limits.mwh ≡ (number / 4 % 2 == 1)
  pub was-on : case.was_on ≡ (number / 8 % 2 == 1)
  pub intervals : case.intervals ≤ 5

-- one of the cases with permitted hours
pub record Dated (number : ℕ) (case : Case) : Type 0 where
  pub starts : is_some case.limits.starts ≡ (number % 2 == 1)
  pub hours : is_some case.limits.hours ≡ (number / 2 % 2 == 1)
  pub mwh : is_some case.limits.mwh ≡ (number / 4 % 2 == 1)
  pub was-on : case.was_on ≡ (number / 8 % 2 == 1)
  pub given : is_some case.allowed ≡ not (number / 64 % 8 == 0)
  pub intervals : case.intervals ≤ room

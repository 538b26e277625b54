-- What an outcome says of a limitation, by rivals (specification 9).
use Rattle.std.specs.Prelude.{◌≡◌, List, ℕ, suc, ℤ, pos, ◌-ℤ◌, ◌≤ℤ◌, Some, None}
use Rattle.commitment.specs.declared.Limitation.{Limitation}
use Rattle.commitment.specs.declared.Outcome.{Outcome}
use Rattle.commitment.specs.declared.Outcome.TheVariants as outcome
use Rattle.commitment.specs.declared.UnitRecord.{UnitRecord}
use Rattle.commitment.specs.Limits.{limit_for}
use Rattle.commitment.specs.Rivals.{Rival, IsBest}
use Rattle.commitment.specs.Valuing.{lowered, run_at}

-- `empty`: nine tenths rounds to 0
pub record EmptyAt (u : UnitRecord) (which : Limitation) : Type 0 where
  pub figure : ℕ
  pub limited : limit_for u.limits which ≡ Some figure
  pub nine-tenths : lowered figure ≡ 0

-- `never`: not empty, and no schedule keeps the figure one unit less
pub record NeverAt (u : UnitRecord) (prices : List ℤ) (which : Limitation) : Type 0 where
  pub figure : ℕ
  pub less : ℕ
  pub limited : limit_for u.limits which ≡ Some figure
  pub nine-tenths : lowered figure ≡ suc less
  pub none-lower : (r : List ℕ) → Rival (run_at u which less) prices r → ⊥

-- the gap in quarter-cents: the first run's best profit less the lower run's
pub record GapAt (u : UnitRecord) (prices : List ℤ) (which : Limitation) (gap : ℤ) : Type 0 where
  pub figure : ℕ
  pub less : ℕ
  pub limited : limit_for u.limits which ≡ Some figure
  pub nine-tenths : lowered figure ≡ suc less
  pub schedule : List ℕ
  pub profit : ℤ
  pub first : IsBest (run_at u which (suc less)) prices schedule profit
  pub lower-schedule : List ℕ
  pub lower-profit : ℤ
  pub lower : IsBest (run_at u which less) prices lower-schedule lower-profit
  pub difference : gap ≡ profit -ℤ lower-profit
  pub never-below-zero : pos 0 ≤ℤ gap

abbrev pub Says : UnitRecord → List ℤ → Limitation → Outcome → Type 0
Says u prices which outcome.None = limit_for u.limits which ≡ None
Says u prices which outcome.Empty = EmptyAt u which
Says u prices which outcome.Never = NeverAt u prices which
Says u prices which (outcome.Gap gap) = GapAt u prices which gap

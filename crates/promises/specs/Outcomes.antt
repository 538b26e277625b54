-- The outcome of a limitation among the three, and its lower run (specification 9).
use Rattle.std.specs.Prelude.{◌≡◌, List, ℕ, suc, ℤ, Some}
use Rattle.commitment.specs.declared.Limitation.{Limitation}
use Rattle.commitment.specs.declared.Limitation.TheVariants.{Starts, Hours, Mwh}
use Rattle.commitment.specs.declared.Outcome.{Outcome}
use Rattle.commitment.specs.declared.Outcomes.{Outcomes}
use Rattle.commitment.specs.declared.UnitRecord.{UnitRecord}
use Rattle.commitment.specs.Limits.{limit_for}
use Rattle.commitment.specs.Rivals.{Rival}
use Rattle.commitment.specs.Valuing.{lowered, run_at}

abbrev pub outcome_for : Outcomes → Limitation → Outcome
outcome_for outcomes Starts = outcomes.starts
outcome_for outcomes Hours = outcomes.hours
outcome_for outcomes Mwh = outcomes.mwh

-- nine tenths of a limitation leave one unit to take, and a schedule keeps what is then left
pub record LowerRun (u : UnitRecord) (prices : List ℤ) (which : Limitation) : Type 0 where
  pub figure : ℕ
  pub less : ℕ
  pub limited : limit_for u.limits which ≡ Some figure
  pub nine-tenths : lowered figure ≡ suc less
  pub schedule : List ℕ
  pub keeps : Rival (run_at u which less) prices schedule

-- The three limitations, each by its own figure.
use mathlib.Core.Path.{ap₂}
use mathlib.Core.Bool.{◌&&◌}
use native.Mathlib.Omega.{arith}
use Rattle.commitment.specs.declared.Limitation.TheVariants.{Starts, Hours, Mwh}
use Rattle.assessment.proofs.spent_within.Statement.{statement}
use Rattle.assessment.proofs.spent_within.Tie as tie

returns : tie.Need-returns
returns c = ap₂ ◌&&◌ (ap₂ ◌&&◌ c.before.before.within_limit.ensures c.before.within_limit-2.ensures) c.within_limit-3.ensures

pub spent_within_spec : {M : Type 1} → statement M
spent_within_spec =
    tie.close
    (tie.spec
    (λ c κs. (omega arith, c.requires Starts))
    (λ c κs. (omega arith, c.before.requires Hours))
    (λ c κs. (omega arith, c.before.before.requires Mwh))
    returns)

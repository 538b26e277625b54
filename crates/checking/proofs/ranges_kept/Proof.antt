-- The five groups of fields.
use Rattle.commitment.specs.Ranges.{ranges_kept}
use borrow.Author.Rules.{rules}
use Rattle.checking.proofs.ranges_kept.Statement.{statement}
use Rattle.checking.proofs.ranges_kept.Tie as tie

returns : tie.Need-returns
unfolding ranges_kept
returns c = cc

pub ranges_kept_spec : {M : Type 1} → statement M
ranges_kept_spec =
    tie.close
    (tie.spec
    (λ c κs. search rules)
    (λ c κs. search rules)
    (λ c κs. search rules)
    (λ c κs. search rules)
    (λ c κs. search rules)
    returns)

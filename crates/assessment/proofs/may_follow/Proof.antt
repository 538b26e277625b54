-- Both tests.
use borrow.Author.Rules.{rules}
use Rattle.commitment.proofs.Ranges.{generator-kept}
use Rattle.assessment.specs.Walking.{may_follow}
use Rattle.assessment.proofs.may_follow.Statement.{statement}
use Rattle.assessment.proofs.may_follow.Tie as tie

is-output-requires : tie.Need-is_output-requires
is-output-requires c κs = let s = c.before in generator-kept s.args.unit s.requires

returns : tie.Need-returns
unfolding may_follow
returns c = cc

pub may_follow_spec : {M : Type 1} → statement M
may_follow_spec = tie.close (tie.spec is-output-requires (λ c κs. search rules) returns)

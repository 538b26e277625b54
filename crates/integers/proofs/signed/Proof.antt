-- A number below 2 ^ 62 reads back as itself.
use native.Mathlib.Omega.{arith}
use borrow.Author.Rules.{rules}
use Rattle.integers.proofs.Ranges.{plain, within-at}
use Rattle.integers.proofs.signed.Statement.{statement}
use Rattle.integers.proofs.signed.Tie as tie

returns : tie.Need-returns
returns c = plain (within-at c.args.x) (omega arith)

pub signed_spec : {M : Type 1} → statement M
signed_spec = tie.close (tie.spec (λ c. search rules) returns)

-- Sizes in range have a product that fits.
use native.Mathlib.Nat.{mul-le-mul}
use native.Mathlib.Omega.{arith}
use borrow.Author.Rules.{rules}
use Rattle.costs.proofs.Ranges.{in-range}
use Rattle.costs.proofs.outputs_kept.Statement.{statement}
use Rattle.costs.proofs.outputs_kept.Tie as tie

mul-result : tie.Need-overflow_mul-result
mul-result c =
    let h = in-range c.before.before.args.inputs c.before.before.requires in
    omega (arith, mul-le-mul h.pmax h.block)

pub outputs_kept_spec : {M : Type 1} → statement M
outputs_kept_spec = tie.close (tie.spec mul-result (λ c. search rules))

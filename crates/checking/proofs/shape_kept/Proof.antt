-- Sizes in range have a product that fits.
use native.Mathlib.Nat.{mul-le-mul}
use native.Mathlib.Omega.{arith}
use borrow.Author.Rules.{rules}
use Rattle.commitment.proofs.Ranges.{in-range}
use Rattle.checking.proofs.shape_kept.Statement.{statement}
use Rattle.checking.proofs.shape_kept.Tie as tie

mul-result : tie.Need-overflow_mul-result
mul-result c =
    let s = c.before.before.before in
    let h = in-range s.args.unit s.requires in
    omega (arith, mul-le-mul h.generator.pmax-most h.generator.block-most)

pub shape_kept_spec : {M : Type 1} → statement M
shape_kept_spec = tie.close (tie.spec mul-result (λ c. search rules))

-- The quotient is less than the one factor exactly where the product is beyond the most.
use mathlib.Core.Path.{sym}
use Prim.Native.Nat.{◌*◌, ◌≤◌}
use native.Mathlib.Nat.{le-div_iff_mul-le, div-lt_iff_lt-mul}
use native.Mathlib.Omega.{arith}
use borrow.Author.Rules.{rules}
use Rattle.integers.proofs.Capped.{within_cap, beyond-cap}
use Rattle.integers.proofs.capped_product.Statement.{statement}
use Rattle.integers.proofs.capped_product.Tie as tie

returns : tie.Need-returns-then-most-b
returns c =
    let s = c.before in
    sym (beyond-cap s.args.most (s.args.a * s.args.b) ((div-lt_iff_lt-mul s.requires).0 c.if-most-b.true))

-- where it is not, the product is within it
within : (c : tie.Else-most-b) → let s = c.before in s.args.a * s.args.b ≤ s.args.most
within c = (le-div_iff_mul-le c.before.requires).0 c.if-most-b.false

mul-result : tie.Need-overflow_mul-result
mul-result c = record { fits = omega (arith, within c, c.before.ranges.most.fits) }

returns-2 : tie.Need-returns
returns-2 c = let s = c.before in sym (within_cap s.args.most (s.args.a * s.args.b) (within c))

pub capped_product_spec : {M : Type 1} → statement M
capped_product_spec = tie.close (tie.spec (λ c. search rules) returns mul-result returns-2)

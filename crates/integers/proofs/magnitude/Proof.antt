-- Below zero the number is raised by one first, so that the smallest i64 has a magnitude too.
use mathlib.Core.Path.{◌≡◌}
use native.Mathlib.Omega.{arith}
use Prim.Native.Nat.{◌-◌}
use lib.IntN.{pos, nat_abs}
use mir.Syntax.{w64}
use mir.Val.{to_z, of_z, SFits}
use Rattle.integers.proofs.Ranges.{plain_fits}
use borrow.Author.Rules.{rules}
use Rattle.integers.proofs.BelowZero.{Below, below, not-below, magnitude-fits}
use Rattle.integers.proofs.magnitude.Statement.{statement}
use Rattle.integers.proofs.magnitude.Tie as tie

value-plain : (c : tie.Start) → to_z w64 (of_z w64 c.args.value) ≡ c.args.value
value-plain c = plain_fits c.ranges.value

lower : (c : tie.Then-value-lt0) → Below c.before.args.value
lower c = below c.before.args.value c.before.ranges.value (rw (value-plain c.before) at c.if-value-lt0.true)

turned-fits : (c : tie.Then-value-lt0) → SFits w64 (pos (nat_abs c.before.args.value - 1))
turned-fits c = record { sfits = omega (arith, (lower c).least, (lower c).most) }

add-result : tie.Need-overflow_add-result
add-result c = rw (value-plain c.before) (lower c).raised

sub-result : tie.Need-overflow_sub-result
sub-result c = simp (value-plain c.before, plain_fits (lower c).raised, (lower c).turned) (turned-fits c)

cast-result : tie.Need-overflow_cast-result
cast-result c =
    simp (value-plain c.before, plain_fits (lower c).raised, (lower c).turned, plain_fits (turned-fits c))
    (tt, record { fits = omega (arith, (lower c).most) })

add-result-2 : tie.Need-overflow_add-result-then-value-lt0
add-result-2 c =
    simp (value-plain c.before, plain_fits (lower c).raised, (lower c).turned, plain_fits (turned-fits c))
    (record { fits = omega (arith, (lower c).most) })

returns : tie.Need-returns-then-value-lt0
returns c = simp (value-plain c.before, plain_fits (lower c).raised, (lower c).turned, plain_fits (turned-fits c)) (omega (arith, (lower c).least))

cast-result-2 : tie.Need-overflow_cast-result-2
cast-result-2 c =
    let s = c.before in
    let z = s.args.value in
    rw (value-plain s) (not-below z (rw (value-plain s) at c.if-value-lt0.false), record { fits = omega (arith, magnitude-fits z s.ranges.value) })

pub magnitude_spec : {M : Type 1} → statement M
magnitude_spec =
    tie.close
    (tie.spec add-result sub-result cast-result add-result-2 returns cast-result-2 (λ c. search rules))

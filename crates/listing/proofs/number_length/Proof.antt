-- The invariant: the digits counted and those of the rest are the number's, and one more. The rest falls.
use mathlib.Core.Path.{◌≡◌}
use Prim.Native.Nat.{◌+◌, ◌^◌, ◌<◌}
use native.Mathlib.Omega.{arith}
use lib.ListN.{length}
use Rattle.listing.specs.Numbers.{number}
use Rattle.listing.proofs.Numbers.{length-small, length-large, number_short}
use Rattle.listing.proofs.number_length.Statement.{statement}
use Rattle.listing.proofs.number_length.Tie as tie

abbrev invariant-loop : tie.invariant-loop-rest
invariant-loop n digits₀ rest₀ digits rest = (digits + length (number rest) ≡ length (number n) + 1) × (rest < 2 ^ 64)

abbrev decreases-loop : tie.decreases-loop-rest
decreases-loop n digits₀ rest₀ digits rest = rest

loop-holds : tie.Need-loop-rest-init invariant-loop decreases-loop
loop-holds c = (omega arith, c.ranges.n.fits)

add-digits : tie.Need-overflow_add-digits invariant-loop decreases-loop
add-digits c = omega (arith, c.before.loop-rest.invariant.0, number_short c.before.before.args.n)

loop-again : tie.Need-loop-rest-preserved invariant-loop decreases-loop
loop-again c =
    let l = c.before.loop-rest in
    (omega (arith, l.invariant.0, length-large l.rest c.loop-rest-test.true l.invariant.1), omega (arith, l.invariant.1))

returns : tie.Need-returns invariant-loop decreases-loop
returns c = omega (arith, c.before.loop-rest.invariant.0, length-small c.before.loop-rest.rest c.loop-rest-test.false)

pub number_length_spec : {M : Type 1} → statement M
number_length_spec =
    tie.close (tie.spec invariant-loop decreases-loop loop-holds add-digits (λ c. omega arith) loop-again returns)

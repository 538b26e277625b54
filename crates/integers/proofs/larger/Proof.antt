-- Each arm is the clause of `maxℤ` that the test chose, once the two parameters are read back as the numbers they are.
use mathlib.Core.Path.{◌≡◌}
use mathlib.Core.Bool.{true, false}
use lib.Signed.{lt_z}
use Rattle.integers.specs.Maximum.{maxℤ}
use Rattle.integers.proofs.Ranges.{plain_fits, lt-plain}
use Rattle.integers.proofs.larger.Statement.{statement}
use Rattle.integers.proofs.larger.Tie as tie

returns : tie.Need-returns-then-a-b
unfolding maxℤ
returns c =
    let o = c.before in
    let t : lt_z o.args.a o.args.b ≡ true = lt-plain o.ranges.a o.ranges.b c.if-a-b.true in
    simp t (plain_fits o.ranges.b)

returns-2 : tie.Need-returns-else-a-b
unfolding maxℤ
returns-2 c =
    let o = c.before in
    let t : lt_z o.args.a o.args.b ≡ false = lt-plain o.ranges.a o.ranges.b c.if-a-b.false in
    simp t (plain_fits o.ranges.a)

pub larger_spec : {M : Type 1} → statement M
larger_spec = tie.close (tie.spec returns returns-2)

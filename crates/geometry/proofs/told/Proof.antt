-- Each arm is the clause that the test chose, once the number is read back as it is.
use mathlib.Core.Path.{◌≡◌}
use mathlib.Core.Bool.{true, false}
use lib.Signed.{lt_z}
use Rattle.integers.proofs.Ranges.{plain_fits}
use Rattle.geometry.specs.Layers.{halfway}
use Rattle.geometry.proofs.told.Statement.{statement}
use Rattle.geometry.proofs.told.Tie as tie

returns : tie.Need-returns-then-number-lt-HALFWAY
returns c =
    let o = c.before in
    let t : lt_z o.args.number halfway ≡ true = rw (plain_fits o.ranges.number) at c.if-number-lt-HALFWAY.true in
    simp t

returns-2 : tie.Need-returns
returns-2 c =
    let o = c.before in
    let t : lt_z o.args.number halfway ≡ false = rw (plain_fits o.ranges.number) at c.if-number-lt-HALFWAY.false in
    simp (t, plain_fits o.ranges.number)

pub told_spec : {M : Type 1} → statement M
told_spec = tie.close (tie.spec returns returns-2)

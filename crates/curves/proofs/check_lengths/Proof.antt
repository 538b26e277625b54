-- The last test; there are points.
use mathlib.Core.Path.{◌≡◌}
use mathlib.Core.Bool.{true, false}
use native.Mathlib.Omega.{arith}
use borrow.Author.Tests.{not-true, not-false}
use Rattle.curves.specs.Ranges.{lengths_kept}
use Rattle.curves.proofs.Ranges.{in-points}
use Rattle.curves.proofs.check_lengths.Statement.{statement}
use Rattle.curves.proofs.check_lengths.Tie as tie

sub-if1 : tie.Need-overflow_sub-levels
sub-if1 c = omega (arith, (in-points c.args.levels.now c.args.rates.now c.requires).some-levels)

returns : tie.Need-returns-then-not-levels-rates
returns c =
    let a = c.before.args in
    let short : lengths_kept a.levels.now a.rates.now a.room ≡ false = not-true _ c.if-not-levels-rates.true-raw in
    simp short

returns-2 : tie.Need-returns
returns-2 c =
    let a = c.before.args in
    let long : lengths_kept a.levels.now a.rates.now a.room ≡ true = not-false _ c.if-not-levels-rates.false-raw in
    simp long

pub check_lengths_spec : {M : Type 1} → statement M
check_lengths_spec = tie.close (tie.spec sub-if1 returns returns-2)

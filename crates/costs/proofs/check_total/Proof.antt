-- The sum and the range fit, by what was kept before; the test, then the rest.
use mathlib.Core.Path.{sym, ◌∙◌}
use native.Mathlib.Omega.{arith}
use borrow.Author.Rules.{rules}
use borrow.Author.Tests.{eq-eqb, ne_eqb}
use Rattle.commitment.specs.Bounds.{most_mw}
use Rattle.costs.proofs.Ranges.{in-range, in-segments, in-shape, range-mw}
use Rattle.costs.proofs.Segments.{total-most}
use Rattle.costs.proofs.check_total.Statement.{statement}
use Rattle.costs.proofs.check_total.Tie as tie

total-mw-requires : tie.Need-total_mw-total-requires
total-mw-requires c κs =
    let s = c.before.before in
    let kept = in-segments s.args.mws.now s.args.heats.now s.requires.0.segments in
    omega (arith, total-most most_mw s.args.mws.now kept.mws-kept, kept.mw-count)

sub-range : tie.Need-overflow_sub-range
sub-range c = let s = c.before.before.before.before in (in-shape s.args.inputs s.requires.1).ordered

mul-range : tie.Need-overflow_mul-range
mul-range c =
    let s = c.before.before.before.before.before in
    omega (arith, range-mw s.args.inputs (in-range s.args.inputs s.requires.0.inputs) (in-shape s.args.inputs s.requires.1))

returns : tie.Need-returns-then-total-range
returns c =
    let total = c.before.before.before in
    simp (ne_eqb _ _ (λ f. c.if-total-range.true (total.total_mw-total.ensures ∙ f)))

returns-2 : tie.Need-returns
returns-2 c =
    let e = c.before in
    let total = e.before.before.before in
    c.check_lengths.ensures ∙ simp (eq-eqb _ _ (sym total.total_mw-total.ensures ∙ e.if-total-range.false))

pub check_total_spec : {M : Type 1} → statement M
check_total_spec = tie.close (tie.spec total-mw-requires sub-range mul-range returns (λ c κs. search rules) returns-2)

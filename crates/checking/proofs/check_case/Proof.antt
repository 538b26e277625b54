-- Ranges and prices, then the rest.
use mathlib.Core.Path.{◌≡◌, sym, ap, ◌∙◌}
use mathlib.Core.Bool.{Bool, ◌&&◌}
use borrow.Author.Tests.{not-false}
use Rattle.lists.proofs.Conjunctions.{both}
use Rattle.commitment.specs.declared.Cause.TheVariants.{Range}
use Rattle.commitment.specs.Ranges.{ranges_kept, case_checked}
use Rattle.commitment.proofs.Causes.{unless-refused, unless-kept}
use borrow.Author.Rules.{rules}
use Rattle.checking.proofs.check_case.Statement.{statement}
use Rattle.checking.proofs.check_case.Tie as tie

is : (c : tie.After-ranges_kept)
    → (c.ranges_kept.result && c.before.args.priced) ≡ (ranges_kept c.before.args.unit && c.before.args.priced)
is c = ap (λ (t : Bool). t && c.before.args.priced) c.ranges_kept.ensures

returns : tie.Need-returns-then-not-ranges_kept-priced
unfolding case_checked
returns c = unless-refused (is c.before) Range _ c.if-not-ranges_kept-priced.true-raw

check-shape-requires : tie.Need-check_shape-requires
check-shape-requires c κs = (both (ranges_kept _) _ (sym (is c.before) ∙ not-false _ c.if-not-ranges_kept-priced.false-raw)).0

returns-2 : tie.Need-returns
unfolding case_checked
returns-2 c =
    let e = c.before in
    c.check_shape.ensures ∙ unless-kept (is e.before) Range _ e.if-not-ranges_kept-priced.false-raw

pub check_case_spec : {M : Type 1} → statement M
check_case_spec = tie.close (tie.spec (λ c κs. search rules) returns check-shape-requires returns-2)

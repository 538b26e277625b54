-- Inputs and points, then the rest.
use mathlib.Core.Path.{◌≡◌, sym, ap₂, ◌∙◌}
use mathlib.Core.Bool.{◌&&◌}
use borrow.Author.Rules.{rules}
use borrow.Author.Tests.{not-false}
use Rattle.lists.proofs.Conjunctions.{both}
use Rattle.commitment.specs.declared.Cause.TheVariants.{Range}
use Rattle.commitment.proofs.Causes.{unless-refused, unless-kept}
use Rattle.curves.specs.Ranges.{inputs_kept, points_kept, curve_checked}
use Rattle.curves.proofs.check_curve.Statement.{statement}
use Rattle.curves.proofs.check_curve.Tie as tie

is : (c : tie.After-points_kept) →
    let a = c.before.before.before.before.args in
    (c.before.inputs_kept.result && c.points_kept.result) ≡ (inputs_kept a.inputs && points_kept a.levels.now a.rates.now)
is c = ap₂ ◌&&◌ c.before.inputs_kept.ensures c.points_kept.ensures

returns : tie.Need-returns-then-not-inputs_kept-points_kept
unfolding curve_checked
returns c = unless-refused (is c.before) Range _ c.if-not-inputs_kept-points_kept.true-raw

check-levels-requires : tie.Need-check_levels-requires
check-levels-requires c κs =
    let a = c.before.before.before.before.before.args in
    (both (inputs_kept a.inputs) (points_kept a.levels.now a.rates.now) (sym (is c.before) ∙ not-false _ c.if-not-inputs_kept-points_kept.false-raw)).1

returns-2 : tie.Need-returns
unfolding curve_checked
returns-2 c =
    let e = c.before in
    c.check_levels.ensures ∙ unless-kept (is e.before) Range _ e.if-not-inputs_kept-points_kept.false-raw

pub check_curve_spec : {M : Type 1} → statement M
check_curve_spec = tie.close (tie.spec (λ c κs. search rules) (λ c κs. search rules) returns check-levels-requires returns-2)

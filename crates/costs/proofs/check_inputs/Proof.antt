-- Inputs and segments, then the rest.
use mathlib.Core.Path.{◌≡◌, sym, ap₂, ◌∙◌}
use mathlib.Core.Bool.{◌&&◌}
use borrow.Author.Rules.{rules}
use borrow.Author.Tests.{not-false}
use Rattle.lists.proofs.Conjunctions.{both}
use Rattle.commitment.specs.declared.Cause.TheVariants.{Range}
use Rattle.commitment.proofs.Causes.{unless-refused, unless-kept}
use Rattle.costs.specs.Ranges.{inputs_kept, segments_kept, inputs_checked}
use Rattle.costs.proofs.check_inputs.Statement.{statement}
use Rattle.costs.proofs.check_inputs.Tie as tie

is : (c : tie.After-segments_kept) →
    let a = c.before.before.before.before.args in
    (c.before.inputs_kept.result && c.segments_kept.result) ≡ (inputs_kept a.inputs && segments_kept a.mws.now a.heats.now)
is c = ap₂ ◌&&◌ c.before.inputs_kept.ensures c.segments_kept.ensures

returns : tie.Need-returns-then-not-inputs_kept-segments_kept
unfolding inputs_checked
returns c = unless-refused (is c.before) Range _ c.if-not-inputs_kept-segments_kept.true-raw

check-outputs-requires : tie.Need-check_outputs-requires
check-outputs-requires c κs =
    let a = c.before.before.before.before.before.args in
    let k = both (inputs_kept a.inputs) (segments_kept a.mws.now a.heats.now) (sym (is c.before) ∙ not-false _ c.if-not-inputs_kept-segments_kept.false-raw) in
    record { inputs = k.0; segments = k.1 }

returns-2 : tie.Need-returns
unfolding inputs_checked
returns-2 c =
    let e = c.before in
    c.check_outputs.ensures ∙ unless-kept (is e.before) Range _ e.if-not-inputs_kept-segments_kept.false-raw

pub check_inputs_spec : {M : Type 1} → statement M
check_inputs_spec = tie.close (tie.spec (λ c κs. search rules) (λ c κs. search rules) returns check-outputs-requires returns-2)

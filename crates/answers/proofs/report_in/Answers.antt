-- By cases on the report: the line of its cause, or the listing of the part that it counts.
use Rattle.std.specs.Prelude.{List, ℕ, ℤ, Err, Ok, take}
use Rattle.std.proofs.Common.{rules, ◌≡◌, refl, sym, ap, ◌∙◌, length}
use mathlib.Core.Path.{ap₂}
use mir.Syntax.{w64}
use mir.Val.{to_z, of_z}
use Rattle.commitment.specs.Causes.{answered_number}
use Rattle.listing.specs.Listing.{listing, bytes_in}
use Rattle.planner.specs.Planning.{plan_checked}
use Rattle.listing.proofs.Fitting.{listing-written, listing-after}
use Rattle.answers.specs.Answering.{word_of}
use Rattle.answers.proofs.Printing.{answered-as, bytes-are, wrote, part-counted, word_kept_lem}
use Rattle.answers.proofs.report_in.Goals as goal

pub returns-in-Ok-clause-value : goal.returns-in-Ok-clause-value
returns-in-Ok-clause-value c =
    let a = c.args in
    let found = plan_checked a.unit a.prices.now (length a.scratch.now) (length a.schedule.now) in
    let report = c.in-Ok.report in
    let is = sym c.report_into.ensures.value ∙ c.in-Ok.is in
    let profit : to_z w64 (of_z w64 report.profit) ≡ report.profit = search rules in
    let part = ap (take report.count) c.report_into.ensures.schedule_after ∙ part-counted found a.unit a.prices.now a.schedule.now report is in
    let hours = word_of a.unit.permit in
    let kept = word_kept_lem a.unit a.prices.now (length a.scratch.now) (length a.schedule.now) report is in
    let listed = rw c.word_of-word.ensures at c.write_listing-written.ensures in
    let same = ap₂ (λ (outputs : List ℕ) (p : ℤ). listing outputs p report.outcomes hours) part profit in
    let fit = listed.value ∙ listing-written _ _ _ hours kept (length a.out.now) in
    let answered = answered-as (c.number_in.ensures ∙ ap answered_number fit) (c.unwrap_or.ensures ∙ bytes-are c.write_listing-written.result ∙ ap bytes_in fit) in
    (wrote found a.unit a.prices.now a.out.now (Ok report) is same (answered, listed.out_after ∙ listing-after _ _ _ hours kept a.out.now)).0

pub returns-in-Ok-clause-out_after : goal.returns-in-Ok-clause-out_after
returns-in-Ok-clause-out_after c =
    let a = c.args in
    let found = plan_checked a.unit a.prices.now (length a.scratch.now) (length a.schedule.now) in
    let report = c.in-Ok.report in
    let is = sym c.report_into.ensures.value ∙ c.in-Ok.is in
    let profit : to_z w64 (of_z w64 report.profit) ≡ report.profit = search rules in
    let part = ap (take report.count) c.report_into.ensures.schedule_after ∙ part-counted found a.unit a.prices.now a.schedule.now report is in
    let hours = word_of a.unit.permit in
    let kept = word_kept_lem a.unit a.prices.now (length a.scratch.now) (length a.schedule.now) report is in
    let listed = rw c.word_of-word.ensures at c.write_listing-written.ensures in
    let same = ap₂ (λ (outputs : List ℕ) (p : ℤ). listing outputs p report.outcomes hours) part profit in
    let fit = listed.value ∙ listing-written _ _ _ hours kept (length a.out.now) in
    let answered = answered-as (c.number_in.ensures ∙ ap answered_number fit) (c.unwrap_or.ensures ∙ bytes-are c.write_listing-written.result ∙ ap bytes_in fit) in
    (wrote found a.unit a.prices.now a.out.now (Ok report) is same (answered, listed.out_after ∙ listing-after _ _ _ hours kept a.out.now)).1

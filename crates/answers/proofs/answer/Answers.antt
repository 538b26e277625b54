-- What reading found: the line of its cause, or the report of the case, whose prices stand in front.
use Rattle.std.specs.Prelude.{take}
use Rattle.std.proofs.Common.{◌≡◌, refl, sym, ap, ◌∙◌, length, arith}
use lib.Seq.{length-take-le}
use Rattle.commitment.specs.Types.{Checked}
use Rattle.casefile.specs.Reading.{unit_in, prices_in}
use Rattle.listing.specs.Listing.{buffer_after}
use Rattle.answers.specs.Answering.{answered_for, printed_for, answered, printed}
use Rattle.answers.proofs.Found.{refused-is, read-is-planned}
use Rattle.answers.proofs.answer.Goals as goal

pub slice_bounds-prices-end : goal.slice_bounds-prices-end
slice_bounds-prices-end c =
    let held = read-is-planned c.args.text.now c.in-Ok.case.unit c.in-Ok.case.count (sym c.read_into.ensures.0 ∙ c.in-Ok.is) in
    omega (arith, held.fits, c.read_into.auto.prices)

pub slice_bounds-report-end : goal.slice_bounds-report-end
slice_bounds-report-end c =
    let held = read-is-planned c.args.text.now c.in-Ok.case.unit c.in-Ok.case.count (sym c.read_into.ensures.0 ∙ c.in-Ok.is) in
    sym (length-take-le _ _ (omega (arith, held.fits, c.read_into.auto.prices)))

pub returns-in-Err-clause-value : goal.returns-in-Err-clause-value
unfolding answered
returns-in-Err-clause-value c =
    let text = c.args.text.now in
    let is = sym (refused-is text c.in-Err.unread (sym c.read_into.ensures.0 ∙ c.in-Err.is)) in
    c.refuse.ensures.value ∙ ap (λ (k : Checked). answered_for k (unit_in text) (prices_in text) (length c.args.out.now)) is

pub returns-in-Err-clause-out_after : goal.returns-in-Err-clause-out_after
unfolding printed
returns-in-Err-clause-out_after c =
    let text = c.args.text.now in
    let is = sym (refused-is text c.in-Err.unread (sym c.read_into.ensures.0 ∙ c.in-Err.is)) in
    c.refuse.ensures.out_after ∙ ap (λ (k : Checked). buffer_after (printed_for k (unit_in text) (prices_in text)) c.args.out.now) is

pub returns-in-Ok-clause-value : goal.returns-in-Ok-clause-value
unfolding answered
returns-in-Ok-clause-value c =
    let text = c.args.text.now in
    let h = read-is-planned text c.in-Ok.case.unit c.in-Ok.case.count (sym c.read_into.ensures.0 ∙ c.in-Ok.is) in
    let front : take c.in-Ok.case.count c.read_into.new.prices ≡ prices_in text = ap (take c.in-Ok.case.count) c.read_into.ensures.1 ∙ h.front _ refl in
    let made = rw (front, h.unit-is) at c.report.ensures in
    made.value ∙ ap (λ (k : Checked). answered_for k (unit_in text) (prices_in text) (length c.args.out.now)) h.plan-is

pub returns-in-Ok-clause-out_after : goal.returns-in-Ok-clause-out_after
unfolding printed
returns-in-Ok-clause-out_after c =
    let text = c.args.text.now in
    let h = read-is-planned text c.in-Ok.case.unit c.in-Ok.case.count (sym c.read_into.ensures.0 ∙ c.in-Ok.is) in
    let front : take c.in-Ok.case.count c.read_into.new.prices ≡ prices_in text = ap (take c.in-Ok.case.count) c.read_into.ensures.1 ∙ h.front _ refl in
    let made = rw (front, h.unit-is) at c.report.ensures in
    made.out_after ∙ ap (λ (k : Checked). buffer_after (printed_for k (unit_in text) (prices_in text)) c.args.out.now) h.plan-is

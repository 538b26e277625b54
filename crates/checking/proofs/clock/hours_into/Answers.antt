-- The clock follows the hours from the date's midnight on.
use Rattle.std.specs.Prelude.{Ok}
use Rattle.std.proofs.Common.{sym, ◌∙◌, ◌≡◌, ◌/◌, length, arith}
use Rattle.calendar.specs.Clock.{shown, clock_after}
use Rattle.checking.specs.Clock.{clock_checked, hours_left}
use Rattle.checking.proofs.Clocks.{ClockKept, clock-kept, each-alike}
use Rattle.checking.proofs.clock.hours_into.Goals as goal

pub returns-in_err-check_clock-clause-hours_after : goal.returns-in_err-check_clock-clause-hours_after
unfolding hours_left
returns-in_err-check_clock-clause-hours_after c = simp (sym c.check_clock.ensures ∙ c.in_err-check_clock.was)

pub returns-clause-hours_after : goal.returns-clause-hours_after
unfolding hours_left
returns-clause-hours_after c =
    let date = c.args.date in
    let count = length c.args.hours.now in
    let passed : clock_checked date count ≡ Ok tt = sym c.check_clock.ensures ∙ c.in_ok-check_clock.was in
    let kept : ClockKept date count = clock-kept date count passed in
    simp passed
    (c.fill.ensures
    ∙ each-alike (λ i. shown c.clock_from.result (i / 4)) (λ i. clock_after date (i / 4)) 0 count
    (λ i h. sym (c.clock_from.ensures.same (i / 4) (omega arith))))

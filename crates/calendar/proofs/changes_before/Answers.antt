-- The tests are those of the definition.
use Rattle.std.proofs.Common.{◌<◌, ◌≤◌, arith}
use borrow.Author.Tests.{le-leb, lt-leb}
use Rattle.calendar.specs.Dates.{day_number}
use Rattle.calendar.specs.Clock.{spring_day, fall_day, changes_before}
use Rattle.calendar.proofs.changes_before.Goals as goal

pub returns-then-number-spring_day : goal.returns-then-number-spring_day
unfolding changes_before
returns-then-number-spring_day c =
    let d = c.args.date in
    let h : day_number d ≤ spring_day d.year = omega (arith, c.day_number-number.ensures.is, c.spring_day.ensures, c.if-number-spring_day.true) in
    simp (le-leb _ _ h) (omega arith)

pub returns-then-number-fall_day : goal.returns-then-number-fall_day
unfolding changes_before
returns-then-number-fall_day c =
    let d = c.args.date in
    let later : spring_day d.year < day_number d = omega (arith, c.day_number-number.ensures.is, c.spring_day.ensures, c.if-number-spring_day.false) in
    let h : day_number d ≤ fall_day d.year = omega (arith, c.day_number-number.ensures.is, c.fall_day.ensures, c.if-number-fall_day.true) in
    simp (lt-leb _ _ later, le-leb _ _ h)

pub returns : goal.returns
unfolding changes_before
returns c =
    let d = c.args.date in
    let later : spring_day d.year < day_number d = omega (arith, c.day_number-number.ensures.is, c.spring_day.ensures, c.if-number-spring_day.false) in
    let h : fall_day d.year < day_number d = omega (arith, c.day_number-number.ensures.is, c.fall_day.ensures, c.if-number-fall_day.false) in
    simp (lt-leb _ _ later, lt-leb _ _ h)

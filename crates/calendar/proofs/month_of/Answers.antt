-- A month that begins by the interval is no later than its month, and one that has not begun is after it. A horizon has no more than thirteen.
use Rattle.std.proofs.Common.{◌+◌, arith}
use Rattle.calendar.proofs.Months.{month-least, begun, not-begun, months-few}
use Rattle.calendar.proofs.month_of.Goals as goal

pub loop-month-init : goal.loop-month-init
loop-month-init c = month-least c.args.date c.requires.0.there c.requires.0.since c.args.interval

pub returns-then-interval-month_begins : goal.returns-then-interval-month_begins
returns-then-interval-month_begins c =
    let next = c.loop-month.month + 1 in
    omega (
      arith,
      c.loop-month.invariant,
      not-begun c.args.date c.requires.0.there c.requires.0.since c.args.interval next (omega arith)
          (omega (arith, c.month_begins.ensures, c.if-interval-month_begins.true)),
    )

pub loop-month-preserved : goal.loop-month-preserved
loop-month-preserved c =
    let next = c.loop-month.month + 1 in
    begun c.args.date c.requires.0.there c.requires.0.since c.args.interval next (omega arith)
    (omega (arith, c.month_begins.ensures, c.if-interval-month_begins.false))

pub returns : goal.returns
returns c =
    omega (
      arith,
      c.loop-month.invariant,
      c.loop-month-test.false,
      months-few c.args.date c.requires.0.there c.requires.0.since c.args.interval c.requires.1,
    )

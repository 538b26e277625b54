-- So far no month has begun after the interval.
use Rattle.std.proofs.Common.{◌≤◌}
use Rattle.calendar.specs.Months.{month_of}
use Rattle.calendar.proofs.month_of.Given as goal

abbrev pub invariant-loop-month : goal.invariant-loop-month
invariant-loop-month l = l.month ≤ month_of l.date l.interval

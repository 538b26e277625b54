use Rattle.std.proofs.Common.{◌≡◌, ◌/◌, ◌++◌, ℕ}
use lib.ListN.{drop}
use Rattle.calendar.specs.Clock.{shown}
use Rattle.checking.specs.Clock.{each_from}
use Rattle.checking.proofs.clock.fill.Given as goal

-- so many hours in front, and what was there behind them
abbrev pub invariant-loop-i : goal.invariant-loop-i
invariant-loop-i l = l.hours ≡ each_from (λ i. shown l.clock (i / 4)) 0 l.i ++ drop l.i l.fn.hours

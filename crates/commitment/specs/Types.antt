-- Names for what the records and the calls hold: a value or none, a value or the cause of a refusal.
use Rattle.std.specs.Prelude.{ℕ, ℤ, Option, Result}
use Rattle.commitment.specs.declared.Cause.{Cause}
use Rattle.commitment.specs.declared.Window.{Window}
use Rattle.commitment.specs.declared.windows.Allowed.{Allowed}

-- a limitation of the permit: at most a number, or not limited
abbrev pub Limit : Type 0
Limit = Option ℕ

-- when the permit allows the unit to run: within a window, or in any hour
abbrev pub Permit : Type 0
Permit = Option Window

-- the hours of a permit over a horizon, or all of them
abbrev pub Hours : Type 0
Hours = Option Allowed

-- the most that a case can earn, where it has a schedule
abbrev pub BestProfit : Type 0
BestProfit = Option ℤ

-- what checks find: nothing, or the first cause that holds
abbrev pub Checked : Type 0
Checked = Result (Unit {0}) Cause

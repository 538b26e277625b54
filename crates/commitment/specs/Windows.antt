-- The hours of a permit over a horizon, as they are asked interval by interval (specification 22).
use Rattle.std.specs.Prelude.{◌≡◌, Bool, true, ℕ, ◌/◌, ◌≤◌, ◌<◌, Some, None}
use Rattle.calendar.specs.Clock.{most_ahead, shown}
use Rattle.calendar.specs.Words.{allows}
use Rattle.commitment.specs.Types.{Permit}
use Rattle.commitment.specs.Types.{Hours}
use Rattle.commitment.specs.Bounds.{most_intervals}
use Rattle.commitment.specs.Keeping.{opens_in}

-- whether the unit may run in an interval, counted from 0
abbrev pub opens : Hours → ℕ → Bool
opens None i = true
opens (Some allowed) i = allows allowed.word (shown allowed.clock (i / 4))

-- a clock in its range
abbrev pub Clocked : Hours → Type 0
Clocked None = Unit {0}
Clocked (Some allowed) = allowed.clock.ahead ≤ most_ahead

-- the hours are those of the permit, over any horizon
pub record HoursOf (permit : Permit) (hours : Hours) : Type 0 where
  pub clocked : Clocked hours
  pub same : (i : ℕ) → i < most_intervals → opens hours i ≡ opens_in permit i

-- A limitation, what is at most as much, and one limitation of the three (specification 2).
use Rattle.std.specs.Prelude.{Bool, true, ℕ, ◌*◌, leb, Some, None}
use Rattle.commitment.specs.Types.{Limit}
use Rattle.commitment.specs.declared.Limits.{Limits}
use Rattle.commitment.specs.declared.Limitation.{Limitation}
use Rattle.commitment.specs.declared.Limitation.TheVariants.{Starts, Hours, Mwh}
use Rattle.commitment.specs.declared.UnitRecord.{UnitRecord}

-- a count is at most the limitation, a unit of which is worth so many counts
abbrev pub within : ℕ → ℕ → Limit → Bool
within unit count None = true
within unit count (Some limit) = leb count (unit * limit)

-- the number of a limitation is at most the end of its range
abbrev pub limit_kept : ℕ → Limit → Bool
limit_kept most None = true
limit_kept most (Some limit) = leb limit most

-- ---- one of the three

abbrev pub limit_for : Limits → Limitation → Limit
limit_for limits Starts = limits.starts
limit_for limits Hours = limits.hours
limit_for limits Mwh = limits.mwh

-- the limitations with one of them replaced
abbrev pub with_limit : Limits → Limitation → Limit → Limits
with_limit limits Starts limit = record { starts = limit; hours = limits.hours; mwh = limits.mwh }
with_limit limits Hours limit = record { starts = limits.starts; hours = limit; mwh = limits.mwh }
with_limit limits Mwh limit = record { starts = limits.starts; hours = limits.hours; mwh = limit }

-- the unit under other limitations
abbrev pub limited : UnitRecord → Limits → UnitRecord
limited u limits = record { generator = u.generator; costs = u.costs; opening = u.opening; limits = limits; permit = u.permit }

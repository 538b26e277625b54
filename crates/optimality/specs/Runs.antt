-- Limitations at most others: under them the best plan is that of another cell of the same table.
use Rattle.std.specs.Prelude.{◌≤◌, Some, None}
use Rattle.commitment.specs.Types.{Limit}
use Rattle.commitment.specs.declared.Limits.{Limits}
use Rattle.commitment.specs.declared.Limitation.{Limitation}
use Rattle.commitment.specs.Limits.{limit_for}

-- both are `none`, or both are numbers
abbrev pub AtMost : Limit → Limit → Type 0
AtMost None None = Unit {0}
AtMost None (Some m) = ⊥
AtMost (Some k) None = ⊥
AtMost (Some k) (Some m) = k ≤ m

-- each of the three
abbrev pub Under : Limits → Limits → Type 0
Under a b = (which : Limitation) → AtMost (limit_for a which) (limit_for b which)

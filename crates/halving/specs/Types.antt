-- Where a plan may end: in a state with nothing left, or in any cell.
use Rattle.std.specs.Prelude.{ℕ, Option}

abbrev pub End : Type 0
End = Option ℕ

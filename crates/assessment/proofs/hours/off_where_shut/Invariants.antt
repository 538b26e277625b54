use Rattle.std.proofs.Common.{◌≡◌}
use lib.ListN.{drop}
use Rattle.commitment.specs.Keeping.{off_where_shut}
use Rattle.commitment.specs.Windows.{opens}
use Rattle.assessment.proofs.hours.off_where_shut.Given as goal

-- what is left is off wherever it is shut exactly where the whole is
abbrev pub invariant-loop-i : goal.invariant-loop-i
invariant-loop-i l = off_where_shut (opens l.hours) l.i (drop l.i l.schedule) ≡ off_where_shut (opens l.hours) 0 l.schedule

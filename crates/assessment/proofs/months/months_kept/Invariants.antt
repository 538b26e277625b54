use Rattle.std.proofs.Common.{◌≡◌}
use Rattle.assessment.proofs.Counting.{kept_from}
use Rattle.assessment.proofs.months.months_kept.Given as goal

-- from month k on, in the state there, the schedule keeps the months exactly where it keeps them all
abbrev pub invariant-loop-k : goal.invariant-loop-k
invariant-loop-k l =
    kept_from l.limits l.cuts.at l.cuts.count l.schedule l.k l.on ≡ kept_from l.limits l.cuts.at l.cuts.count l.schedule 0 l.fn.was

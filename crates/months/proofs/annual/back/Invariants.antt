-- The chain stands back to month k.
use Rattle.std.proofs.Common.{◌≤◌, length}
use Rattle.months.specs.Annual.{ChainAsked, Chained}
use Rattle.months.proofs.annual.back.Given as goal

abbrev pub invariant-loop-k : goal.invariant-loop-k
invariant-loop-k l =
    record {
      left : l.first ≤ l.k;
      chained : (asked : ChainAsked l.y (length l.initial.cells) l.prices l.cuts) → Chained l.y l.prices l.cuts l.k l.initial.cells l.cells;
    }

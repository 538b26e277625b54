-- The intervals from `at` on are done.
use Rattle.std.proofs.Common.{◌≤◌}
use Rattle.layers.specs.Filling.{quarters_in, between}
use Rattle.marks.specs.Standing.{Swept}
use Rattle.marks.proofs.passes.sweep.Given as goal

abbrev pub invariant-loop-at : goal.invariant-loop-at
invariant-loop-at l =
    record {
      left : l.from ≤ l.at;
      swept : Swept l.g.figures l.g.width l.initial.cells l.cells (between (quarters_in l.g.hours l.prices) l.at l.to);
    }

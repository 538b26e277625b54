-- Whichever quarters are open and wherever plans may end, t outputs are written, the rest of the plan is that of the cell reached, and the outputs tried
-- number as the t outputs take.
use Rattle.std.proofs.Common.{◌≡◌, ◌+◌, ◌*◌, ◌≤◌, List, take}
use Rattle.commitment.specs.Types.{BestProfit}
use Rattle.commitment.specs.Bounds.{most_blocks}
use Rattle.commitment.specs.Tries.{tries_over}
use Rattle.optimality.specs.declared.Cell.{Cell}
use Rattle.optimality.specs.Machine.{Quarter}
use Rattle.table.specs.Reading.{PlanFrom}
use Rattle.table.proofs.Plans.{Written}
use Rattle.table.proofs.read_off.Given as goal

abbrev pub invariant-loop-t : goal.invariant-loop-t
invariant-loop-t l =
    (l.tries ≡ tries_over l.f.block l.f.pmin (take l.t l.schedule)) × (l.tries ≤ l.t * (most_blocks + 1))
    × ((ends : Cell → BestProfit) (quarters : List Quarter) → PlanFrom l.f ends l.prices l.scratch l.fn.from quarters
    → Written l.f ends quarters l.fn.from l.fn.schedule l.schedule l.t l.c)

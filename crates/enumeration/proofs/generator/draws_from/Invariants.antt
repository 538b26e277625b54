-- The draws so far, and those that are to come.
use Rattle.std.proofs.Common.{◌≡◌, ◌-◌, ◌^◌, ◌<◌, ◌++◌, take, length}
use Rattle.enumeration.specs.Draws.{draws_after, draws_from}
use Rattle.enumeration.proofs.generator.draws_from.Given as goal

abbrev pub invariant-loop-draw : goal.invariant-loop-draw
invariant-loop-draw l =
    (l.x < 2 ^ 32) × (length l.draw-items ≡ 32) × (draws_from l.seed ≡ take l.draw-index l.draw-items ++ draws_after (32 - l.draw-index) l.x)

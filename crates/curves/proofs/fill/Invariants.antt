use Rattle.curves.proofs.Passes.{Pass}
use Rattle.curves.proofs.fill.Given as goal

-- a pass so far
abbrev pub invariant-loop-i : goal.invariant-loop-i
invariant-loop-i l =
    Pass l.inputs l.levels l.rates l.fn.froms l.fn.tos l.fn.prices l.last l.count l.i l.froms l.tos l.prices

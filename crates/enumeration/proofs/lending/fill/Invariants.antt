-- The cells so far are filled.
use Rattle.std.proofs.Common.{◌≡◌, ℕ, ◌<◌, get_or, pos}
use Rattle.enumeration.specs.Fillings.{filling}
use Rattle.enumeration.proofs.lending.fill.Given as goal

abbrev pub invariant-loop-i : goal.invariant-loop-i
invariant-loop-i l = (k : ℕ) → k < l.i → get_or l.scratch k (pos 0) ≡ filling k

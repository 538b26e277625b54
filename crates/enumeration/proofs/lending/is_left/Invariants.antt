-- The cells so far are as they are to be left.
use Rattle.std.proofs.Common.{◌≡◌, ℕ, ◌<◌, get_or, pos}
use Rattle.enumeration.specs.Fillings.{left_at}
use Rattle.enumeration.proofs.lending.is_left.Given as goal

abbrev pub invariant-loop-i : goal.invariant-loop-i
invariant-loop-i l = (k : ℕ) → k < l.i → get_or l.scratch k (pos 0) ≡ left_at l.used k

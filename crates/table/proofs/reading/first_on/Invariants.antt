-- The outputs from pmin to below k were tried, and do not reach the best.
use Rattle.std.proofs.Common.{◌≡◌, ℕ, ◌≤◌, ◌<◌, false}
use Rattle.table.specs.Reading.{reaches_best}
use Rattle.table.proofs.reading.first_on.Given as goal

abbrev pub invariant-loop-k : goal.invariant-loop-k
invariant-loop-k l = (j : ℕ) → l.f.pmin ≤ j → j < l.k → reaches_best l.f l.scratch l.row l.price l.pays l.best j ≡ false

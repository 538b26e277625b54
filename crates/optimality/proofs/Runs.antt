-- The best profit under smaller limitations, by a cell of the one table.
use mathlib.Core.Path.{◌≡◌, ap, ◌∙◌}
use mathlib.Core.List.{List}
use lib.IntN.{ℤ}
use lib.ListN.{length}
use Rattle.commitment.specs.declared.Limits.{Limits}
use Rattle.commitment.specs.declared.UnitRecord.{UnitRecord}
use Rattle.commitment.specs.Best.{best, profit_of}
use Rattle.commitment.specs.Limits.{limited}
use Rattle.optimality.specs.Machine.{anywhere}
use Rattle.optimality.specs.Cells.{figures_of, quarters_of, value_at, opening_cell}
use Rattle.optimality.specs.Runs.{Under}
use Rattle.optimality.proofs.Ranges.{Ranged}
use Rattle.optimality.proofs.Opening.{best-under}
use Rattle.optimality.proofs.Turns.{plan-value}

pub profit-under : (u : UnitRecord) → Ranged u → (prices : List ℤ) (limits : Limits) → Under limits u.limits
    → profit_of (best (limited u limits) prices) ≡ value_at (figures_of u (length prices)) anywhere (quarters_of u prices)
    (opening_cell (limited u limits) (length prices))
profit-under u ok prices limits h =
    ap profit_of (best-under u ok prices limits h)
    ∙ plan-value (figures_of u (length prices)) anywhere (quarters_of u prices) (opening_cell (limited u limits) (length prices))

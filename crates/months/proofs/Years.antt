-- The layer that a month makes of the one after it is that of the year from the month's beginning on.
use mathlib.Core.Path.{◌≡◌, ap}
use mathlib.Core.List.{List, ◌∷◌}
use lib.ListN.{take, drop}
use Rattle.commitment.specs.declared.Generator.{Generator}
use Rattle.commitment.specs.Months as commitment
use Rattle.optimality.specs.declared.Budgets.{Budgets}
use Rattle.optimality.specs.declared.Cell.{Cell}
use Rattle.optimality.specs.declared.Figures.{Figures}
use Rattle.optimality.specs.Machine.{Quarter}
use Rattle.optimality.specs.Cells.{InTable, less, value_at}
use Rattle.optimality.specs.Years.{raised, year_value}
use Rattle.months.specs.Chaining.{value_before}
use Rattle.months.specs.Planning.{CapOf}

pub month-value : (g : Generator) (f : Figures) (m : commitment.Month) (ms : List commitment.Month) (qs : List Quarter) (cap : Budgets)
    → CapOf g f m.limits cap → (z : Cell) → InTable f z
    → year_value g f (m ∷ ms) qs z ≡ value_before f cap (take m.long qs) (year_value g f ms (drop m.long qs)) z
unfolding year_value
month-value g f m ms qs cap caps z i =
    ap (λ (b : Budgets). value_at f (λ x. year_value g f ms (drop m.long qs) (raised (less z.left b) x)) (take m.long qs) (boxed b))
    (caps z.left i.left)
  where
    boxed : Budgets → Cell
    boxed b = record { state = z.state; left = b }

-- What a fill asks of its last layer, and what it makes of the layers before it.
use Rattle.std.specs.Prelude.{◌≡◌, List, [], ℕ, ◌-◌, ◌*◌, ℤ, length, take, drop}
use Rattle.commitment.specs.Types.{BestProfit}
use Rattle.optimality.specs.declared.Figures.{Figures}
use Rattle.optimality.specs.declared.Cell.{Cell}
use Rattle.optimality.specs.Machine.{Quarter, quarters_from}
use Rattle.commitment.specs.Types.{Hours}
use Rattle.commitment.specs.Windows.{opens}
use Rattle.geometry.specs.Geometry.{width}
use Rattle.geometry.specs.Layers.{stored_at, Layer, Filled}

-- a layer says of every cell whether a plan may end there
pub record Ended (f : Figures) (cells : List ℤ) (at : ℕ) : Type 0 where
  pub ends : Cell → BestProfit
  pub last : Layer f ends [] (stored_at f cells at)

-- beyond the first n cells all is as it was
abbrev pub Beyond : ℕ → List ℤ → List ℤ → Type 0
Beyond n was cells = drop n cells ≡ drop n was

-- whatever the last layer said, the table holds the best profits of plans that end so
abbrev pub FilledBy : Figures → List Quarter → List ℤ → List ℤ → Type 0
FilledBy f quarters was cells = (ends : Cell → BestProfit) → Layer f ends [] (stored_at f was (length quarters * width f)) → Filled f ends quarters cells

-- the quarters of prices from an interval of the horizon on
abbrev pub quarters_on : Hours → ℕ → List ℤ → List Quarter
quarters_on hours first prices = quarters_from (opens hours) first prices

-- the quarters of prices over a horizon
abbrev pub quarters_in : Hours → List ℤ → List Quarter
quarters_in hours prices = quarters_on hours 0 prices

-- those from one on to another
abbrev pub between : List Quarter → ℕ → ℕ → List Quarter
between quarters from to = take (to - from) (drop from quarters)

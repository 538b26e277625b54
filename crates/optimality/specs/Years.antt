-- The machine of a case with months inside it: that of the case, beside a watch that counts within the month and begins anew with each.
use Rattle.std.specs.Prelude.{List, [], ◌∷◌, ◌++◌, map, ℕ, ◌+◌, min, ℤ, pos, ◌+ℤ◌, take, drop, Some, None}
use Rattle.commitment.specs.Types.{BestProfit}
use Rattle.commitment.specs.declared.Generator.{Generator}
use Rattle.commitment.specs.Types.{Limit}
use Rattle.commitment.specs.declared.Limitation.{Limitation}
use Rattle.commitment.specs.declared.Limitation.TheVariants.{Starts, Hours, Mwh}
use Rattle.commitment.specs.declared.Limits.{Limits}
use Rattle.commitment.specs.Best.{Plan, nothing, plan}
use Rattle.commitment.specs.Cells.{in_counts}
use Rattle.commitment.specs.Months.{Month}
use Rattle.optimality.specs.declared.Budgets.{Budgets}
use Rattle.optimality.specs.declared.Cell.{Cell}
use Rattle.optimality.specs.declared.Figures.{Figures}
use Rattle.optimality.specs.Machine.{Quarter, Step, stop, go, in_quarter, walk, anywhere}
use Rattle.optimality.specs.Cells.{budgets, cell, less, cell_step, plan_at, value_at}

-- ---- quarters of a year: the figures stand anew in the first quarter of a month

pub data Anew : Type 0 where
  same : Anew
  anew : Limits → Anew

pub record YearQuarter : Type 0 where
  pub quarter : Quarter
  pub month : Anew

abbrev pub in_month : Quarter → YearQuarter
in_month q = record { quarter = q; month = same }

abbrev pub month_from : Limits → List Quarter → List YearQuarter
month_from limits [] = []
month_from limits (q ∷ qs) = record { quarter = q; month = anew limits } ∷ map in_month qs

-- the quarters of a horizon, cut at its months
abbrev pub year_quarters : List Month → List Quarter → List YearQuarter
year_quarters [] qs = []
year_quarters (m ∷ ms) qs = month_from m.limits (take m.long qs) ++ year_quarters ms (drop m.long qs)

-- a machine that goes by quarters, over those of a year
abbrev pub in_year : {State : Type 0} → (State → Quarter → ℕ → Step State) → State → YearQuarter → ℕ → Step State
in_year step x q m = step x q.quarter m

-- ---- month by month over the cells of the table

-- what is left, no more than the month's figure comes to
abbrev pub capped : Generator → Limitation → Limit → ℕ → ℕ
capped g which None left = left
capped g which (Some figure) left = min left (in_counts g which figure)

abbrev pub capped_by : Generator → Limits → Budgets → Budgets
capped_by g limits left =
    budgets (capped g Starts limits.starts left.starts) (capped g Hours limits.hours left.ons) (capped g Mwh limits.mwh left.blocks)

-- a cell's box of a month, and a cell of the year that has as much more left
abbrev pub box_in : Generator → Limits → Cell → Cell
box_in g limits c = record { state = c.state; left = capped_by g limits c.left }

abbrev pub raised : Budgets → Cell → Cell
raised above x =
    cell x.state (x.left.starts + above.starts) (x.left.ons + above.ons) (x.left.blocks + above.blocks)

-- what lies above the box
abbrev pub above_box : Generator → Limits → Cell → Budgets
above_box g limits c = less c.left (capped_by g limits c.left)

module _ (g : Generator) (f : Figures) where
  -- the best profit from a cell on, at the beginning of some months
  unfoldable pub year_value : List Month → List Quarter → Cell → BestProfit
  year_value [] qs c = anywhere c
  year_value (m ∷ ms) qs c =
      value_at f (λ x. year_value ms (drop m.long qs) (raised (above_box g m.limits c) x)) (take m.long qs) (box_in g m.limits c)

-- ---- the plan: that of the first month, then that of the later ones from the cell where it leads

abbrev pub in_front_of : List ℕ → ℤ → Plan → Plan
in_front_of a g nothing = nothing
in_front_of a g (plan s p) = plan (a ++ s) (g +ℤ p)

abbrev pub onward : List ℕ → Step Cell → (Cell → Plan) → Plan
onward a stop rest = nothing
onward a (go g x) rest = in_front_of a g (rest x)

abbrev pub follow : (List ℕ → Step Cell) → (Cell → Plan) → Plan → Plan
follow leads rest nothing = nothing
follow leads rest (plan a g) = onward a (leads a) rest

module _ (g : Generator) (f : Figures) where
  -- a month's plan, with what the later months are worth from where it ends
  abbrev pub month_plan : Month → List Month → List Quarter → Cell → Plan
  month_plan m ms qs c =
      plan_at f (λ x. year_value g f ms (drop m.long qs) (raised (above_box g m.limits c) x)) (take m.long qs) (box_in g m.limits c)

  unfoldable pub year_plan : List Month → List Quarter → Cell → Plan
  year_plan [] qs c = plan [] (pos 0)
  year_plan (m ∷ ms) qs c =
      follow (walk Cell Quarter (in_quarter (cell_step f)) (take m.long qs) (box_in g m.limits c))
      (λ x. year_plan ms (drop m.long qs) (raised (above_box g m.limits c) x)) (month_plan m ms qs c)

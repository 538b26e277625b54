-- The plan of a year, month by month.
use Rattle.std.specs.Prelude.{◌≡◌, true, List, ◌∷◌, ◌++◌, ℕ, suc, ◌+◌, ◌-◌, ◌*◌, ◌≤◌, ◌<◌, ℤ, ◌+ℤ◌, length, take, drop, Some, None}
use Rattle.commitment.specs.Types.{BestProfit}
use Rattle.commitment.specs.declared.Generator.{Generator}
use Rattle.commitment.specs.declared.Limits.{Limits}
use Rattle.commitment.specs.Types.{Hours}
use Rattle.commitment.specs.Best.{plan, schedule_of}
use Rattle.commitment.specs.Bounds.{most_blocks}
use Rattle.commitment.specs.Months.{Month}
use Rattle.commitment.specs.Tries.{tries_over}
use Rattle.optimality.specs.declared.Budgets.{Budgets}
use Rattle.optimality.specs.declared.Cell.{Cell}
use Rattle.optimality.specs.declared.Figures.{Figures}
use Rattle.optimality.specs.Machine.{Quarter, go, in_quarter, walk}
use Rattle.optimality.specs.Cells.{Within, InTable, cell_step, plan_at}
use Rattle.optimality.specs.Years.{capped_by, raised, year_value, year_plan}
use Rattle.geometry.specs.Geometry.{width}
use Rattle.layers.specs.Filling.{quarters_in}
use Rattle.marks.specs.declared.Frame.{Frame}
use Rattle.halving.specs.declared.ahead.Reached.{Reached}
use Rattle.halving.specs.Tasks.{Untouched}
use Rattle.months.specs.declared.annual.Year.{Year}
use Rattle.months.specs.Capping.{smaller, box_of, over_of}
use Rattle.months.specs.Annual.{cut_at, cap_of, quarters_at, YearAsked, ChainAsked, Worths, Stands}

abbrev pub frame_of : Figures → Hours → Frame
frame_of f hours = record { figures = f; width = width f; hours = hours }

-- ---- one month

-- the layer of the next month stands, and the cell has a plan
pub record MonthPlanAsked (y : Year) (cells prices : List ℤ) (cuts : List ℕ) (k : ℕ) (at : Cell) (schedule : ℕ) : Type 0 where
  pub chain : ChainAsked y (length cells) prices cuts
  pub month : k + 1 < length cuts
  pub next : Stands y prices cuts cells (k + 1)
  pub here : InTable y.figures at
  pub some : chain.worth k at ≡ None → ⊥
  pub long : length prices ≤ schedule

-- the month's plan, up to what the year is worth at its end, stands in its place of the schedule, and the next month goes on from the cell given
pub record MonthBy (y : Year) (prices : List ℤ) (cuts : List ℕ) (k : ℕ) (at : Cell) (worth : ℕ → Cell → BestProfit) (was now : List ℕ) (r : Reached) : Type 0 where
  pub outputs : List ℕ
  pub earned : ℤ
  pub end : Cell
  pub leads : walk Cell Quarter (in_quarter (cell_step y.figures)) (quarters_at y prices cuts k) (box_of (cap_of y.caps k) at) outputs ≡ go earned end
  pub next : r.cell ≡ raised (over_of (cap_of y.caps k) at) end
  pub inside : InTable y.figures r.cell
  pub profit : ℤ
  pub later : worth (k + 1) r.cell ≡ Some profit
  pub best : plan_at y.figures (λ x. worth (k + 1) (raised (over_of (cap_of y.caps k) at) x)) (quarters_at y prices cuts k) (box_of (cap_of y.caps k) at)
      ≡ plan outputs (earned +ℤ profit)
  pub written : now ≡ take (cut_at cuts k) was ++ (outputs ++ drop (cut_at cuts (k + 1)) was)
  pub tried : r.tries ≡ tries_over y.figures.block y.figures.pmin outputs
  pub few : r.tries ≤ (cut_at cuts (k + 1) - cut_at cuts k) * (most_blocks + 1)

abbrev pub MonthPlanned : Year → List ℤ → List ℕ → ℕ → Cell → List ℕ → List ℕ → Reached → Type 0
MonthPlanned y prices cuts k at was now r =
    (worth : ℕ → Cell → BestProfit) → Worths y prices cuts worth → (worth k at ≡ None → ⊥) → MonthBy y prices cuts k at worth was now r

-- ---- all months

-- a cap in counts comes to what the month's figures allow
abbrev pub CapOf : Generator → Figures → Limits → Budgets → Type 0
CapOf g f limits cap = (left : Budgets) → Within left f.most → capped_by g limits left ≡ smaller left cap

-- the cuts and the caps are those of the months
pub record YearOf (g : Generator) (y : Year) (cuts : List ℕ) (months : List Month) : Type 0 where
  pub long : length cuts ≡ suc (length months)
  pub each : (k : ℕ) (m : Month) → drop k months ≡ m ∷ drop (k + 1) months
      → (cut_at cuts (k + 1) ≡ cut_at cuts k + m.long) × CapOf g y.figures m.limits (cap_of y.caps k)

-- where every month has a place of its own, the layers behind a month stand
abbrev pub Stood : Year → List ℤ → List ℕ → List ℤ → ℕ → Type 0
Stood y prices cuts cells k = y.all ≡ true → (j : ℕ) → k < j → j < length cuts → Stands y prices cuts cells j

-- one month, whose next layer stands or is made
pub record NextAsked (y : Year) (cells prices : List ℤ) (cuts : List ℕ) (k : ℕ) (at : Cell) (schedule : ℕ) : Type 0 where
  pub chain : ChainAsked y (length cells) prices cuts
  pub month : k + 1 < length cuts
  pub stood : Stood y prices cuts cells k
  pub here : InTable y.figures at
  pub some : chain.worth k at ≡ None → ⊥
  pub long : length prices ≤ schedule

-- the layers that stood go on to stand, and nothing is touched behind the work
pub record Kept (y : Year) (prices : List ℤ) (cuts : List ℕ) (k : ℕ) (was now : List ℤ) : Type 0 where
  pub stood : Stood y prices cuts was k → Stood y prices cuts now k
  pub beyond : Untouched (y.work + y.room) was now

-- a year whose first cell has a plan
pub record PlanAsked (y : Year) (cells prices : List ℤ) (cuts : List ℕ) (from : Cell) (schedule : ℕ) : Type 0 where
  pub year : YearAsked y (length cells) prices cuts
  pub generator : Generator
  pub months : List Month
  pub of : YearOf generator y cuts months
  pub stood : Stood y prices cuts cells 0
  pub here : InTable y.figures from
  pub some : year_value generator y.figures months (quarters_in y.hours prices) from ≡ None → ⊥
  pub long : length prices ≤ schedule

-- the best plan of the year stands in the front of the schedule; so many outputs were tried
pub record PlanBy (g : Generator) (y : Year) (prices : List ℤ) (months : List Month) (from : Cell) (was now : List ℕ) (tries : ℕ) : Type 0 where
  pub written : now ≡ schedule_of (year_plan g y.figures months (quarters_in y.hours prices) from) ++ drop (length prices) was
  pub tried : tries
      ≡ tries_over y.figures.block y.figures.pmin (schedule_of (year_plan g y.figures months (quarters_in y.hours prices) from))

abbrev pub Planned : Year → List ℤ → List ℕ → Cell → List ℕ → List ℕ → ℕ → Type 0
Planned y prices cuts from was now tries =
    (g : Generator) (months : List Month) → YearOf g y cuts months
    → (year_value g y.figures months (quarters_in y.hours prices) from ≡ None → ⊥) → PlanBy g y prices months from was now tries

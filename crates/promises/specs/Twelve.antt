-- C1 to C12 (specification 18) in one table, out of those of plans and of cost figures; and what the calls answer of them and of the cases of
-- permitted hours (specification 22), in the order and the kinds of the values given for them.
use Rattle.std.specs.Prelude.{List, [], ◌∷◌, ◌++◌, map, ℕ, ℤ, pos, length, Ok, Err}
use Rattle.costs.specs.declared.CostInputs.{CostInputs}
use Rattle.commitment.specs.declared.Limitation.{Limitation}
use Rattle.commitment.specs.declared.Limitation.TheVariants.{Starts, Hours, Mwh}
use Rattle.commitment.specs.declared.UnitRecord.{UnitRecord}
use Rattle.commitment.specs.Causes.{number_of, answered_number}
use Rattle.commitment.specs.PlanCases as planCases
use Rattle.commitment.specs.PlanCases.{Value, schedule, profit, number, outcome, ties, cents, ties_of, Row, c1-prices, c1, c2, c4, c5, c6, c7, c8, c9}
use Rattle.commitment.specs.HourCases.{c1-word, c1-on-word}
use Rattle.costs.specs.declared.CostFigures.{CostFigures}
use Rattle.costs.specs.Types.{Costed}
use Rattle.costs.specs.Answers.{costed}
use Rattle.costs.specs.Cases as costCases
use Rattle.costs.specs.Cases.{c10, c11, c12, c10-mws, c10-heats}
use Rattle.planner.specs.Types.{Planned, plan_with}
use Rattle.planner.specs.Types.{Valued}
use Rattle.planner.specs.Planning.{planned, part_given}
use Rattle.planner.specs.Valuing.{valued}
use Rattle.answers.specs.Sizes.{cell_room}
use Rattle.promises.specs.Outcomes.{outcome_for}

-- ---- the values of an answer: where it is refused, the number of its cause alone

abbrev plan_values : Planned → List ℕ → List Value
plan_values (Ok made) part = schedule part ∷ profit made.profit ∷ []
plan_values (Err cause) part = number (number_of cause) ∷ []

abbrev profit_value : Planned → Value
profit_value (Ok made) = profit made.profit
profit_value (Err cause) = number (number_of cause)

abbrev outcome_value : Valued → Limitation → Value
outcome_value (Ok outcomes) which = outcome (outcome_for outcomes which)
outcome_value (Err cause) which = number (number_of cause)

abbrev cents_value : Costed → (CostFigures → ℕ) → Value
cents_value (Ok figures) which = cents (which figures)
cents_value (Err cause) which = number (number_of cause)

-- ---- the calls, with the program's scratch and a schedule slice for the prices

abbrev call : UnitRecord → List ℤ → Planned
call u prices = planned u prices cell_room (length prices)

abbrev plans_of : UnitRecord → List ℤ → List Value
plans_of u prices = plan_values (call u prices) (part_given u prices cell_room (length prices))

abbrev outcome_at : UnitRecord → Limitation → Value
outcome_at u which = outcome_value (valued u c1-prices cell_room) which

abbrev figure_at : CostInputs → (CostFigures → ℕ) → Value
figure_at k which = cents_value (costed k c10-mws c10-heats) which

-- ---- all twelve

abbrev table : List Row
table = planCases.table ++ costCases.table

-- what the specification says of them
abbrev pub said_of_twelve : List (List Value)
said_of_twelve = map (λ (r : Row). r.given) table

-- what the definitions give
abbrev pub defined_of_twelve : List (List Value)
defined_of_twelve = map (λ (r : Row). r.computed) table

-- what the calls answer
abbrev pub answers_of_twelve : List (List Value)
answers_of_twelve =
    (plans_of c1 c1-prices ++ (outcome_at c1 Starts ∷ outcome_at c1 Hours ∷ outcome_at c1 Mwh ∷ []))
    ∷ (plans_of c2 c1-prices ++ (outcome_at c2 Mwh ∷ []))
    ∷ plans_of c1 (pos 9000 ∷ [])
    ∷ plans_of c4 (pos 9000 ∷ [])
    ∷ (plans_of c5 (pos 3000 ∷ []) ++ (ties (ties_of c5 (pos 3000 ∷ [])) ∷ []))
    ∷ plans_of c6 c1-prices
    ∷ (number (answered_number (call c7 c1-prices)) ∷ outcome_at c7 Hours ∷ [])
    ∷ (profit_value (call c8 c1-prices) ∷ outcome_at c8 Hours ∷ [])
    ∷ (plans_of c9 c1-prices ++ (outcome_at c9 Starts ∷ []))
    ∷ (figure_at c10 (λ figures. figures.vec) ∷ [])
    ∷ (figure_at c11 (λ figures. figures.mlc) ∷ [])
    ∷ (figure_at c12 (λ figures. figures.suc) ∷ [])
    ∷ []

-- ---- permitted hours: C1's unit and prices with a date and an hour word

abbrev pub answers_of_hours : List (List Value)
answers_of_hours =
    (plans_of (c1-word 1) c1-prices ++ (outcome_at (c1-word 1) Starts ∷ outcome_at (c1-word 1) Hours ∷ []))
    ∷ plans_of (c1-on-word 2) c1-prices
    ∷ plans_of (c1-word 0) c1-prices
    ∷ []

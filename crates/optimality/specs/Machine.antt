-- A machine of steps: from a state, what an interval brings (an input) and an output lead to a next state and earn something, or are not allowed.
-- Its best plan by recursion over the intervals, and the best plan's profit alone; `ends` says of each state what a plan that ends there earns in it,
-- if it may end there.
use Rattle.std.specs.Prelude.{Bool, true, false, cond, ◌||◌, List, [], ◌∷◌, map, ℕ, suc, eqb, ℤ, pos, ◌+ℤ◌, Some, None}
use Rattle.std.specs.Int.Signed.{lt_z}
use Rattle.commitment.specs.Types.{BestProfit}
use Rattle.commitment.specs.Best.{Plan, nothing, plan, first_best}

-- a step is not allowed, or earns something and leads on
pub data Step (State : Type 0) : Type 0 where
  stop : Step State
  go : ℤ → State → Step State

abbrev pub allow : {State : Type 0} → Bool → Step State → Step State
allow true s = s
allow false s = stop

-- a plan may end in any state, which earns nothing more
abbrev pub anywhere : {State : Type 0} → State → BestProfit
anywhere x = Some (pos 0)

-- ---- what a quarter-hour brings: its price, and whether the unit may run

pub record Quarter : Type 0 where
  pub price : ℤ
  pub opens : Bool

abbrev pub quarter : ℤ → Bool → Quarter
quarter price opened = record { price = price; opens = opened }

-- the quarters of a list of prices, from the interval of a number on
abbrev pub quarters_from : (ℕ → Bool) → ℕ → List ℤ → List Quarter
quarters_from opens i [] = []
quarters_from opens i (price ∷ prices) = quarter price (opens i) ∷ quarters_from opens (suc i) prices

-- a machine that goes by prices, over quarters: in one that is shut, off is all that is allowed
abbrev pub in_quarter : {State : Type 0} → (State → ℤ → ℕ → Step State) → State → Quarter → ℕ → Step State
in_quarter step x q m = allow (eqb m 0 || q.opens) (step x q.price m)

-- ---- plans

-- the plan of no intervals
abbrev pub ended : BestProfit → Plan
ended None = nothing
ended (Some p) = plan [] p

-- a plan with one interval in front of it, that has output m and earns g
abbrev pub after : ℕ → ℤ → Plan → Plan
after m g nothing = nothing
after m g (plan s p) = plan (m ∷ s) (g +ℤ p)

abbrev pub along : {State : Type 0} → ℕ → Step State → (State → Plan) → Plan
along m stop rest = nothing
along m (go g x) rest = after m g (rest x)

-- what was earned before a step
abbrev pub earning : {State : Type 0} → ℤ → Step State → Step State
earning g stop = stop
earning g (go h x) = go (g +ℤ h) x

-- one step after another
abbrev pub then : {State : Type 0} → Step State → (State → Step State) → Step State
then stop next = stop
then (go g x) next = earning g (next x)

module _ (State Input : Type 0) (step : State → Input → ℕ → Step State) where
  -- where a list of outputs leads from a state, and what it earns on the way
  abbrev pub walk : List Input → State → List ℕ → Step State
  walk [] x [] = go (pos 0) x
  walk [] x (m ∷ ms) = stop
  walk (i ∷ is) x [] = stop
  walk (i ∷ is) x (m ∷ ms) = then (step x i m) (λ y. walk is y ms)

module _ (State Input : Type 0) (step : State → Input → ℕ → Step State) (ends : State → BestProfit) where
  -- a list of outputs with what it earns from a state, where every step is allowed
  abbrev pub run : List Input → State → List ℕ → Plan
  run [] x [] = ended (ends x)
  run [] x (m ∷ ms) = nothing
  run (i ∷ is) x [] = nothing
  run (i ∷ is) x (m ∷ ms) = along m (step x i m) (λ y. run is y ms)

  -- the best first output, with the best plan of the intervals after it
  abbrev pub best_from : List ℕ → List Input → State → Plan
  best_from outputs [] x = ended (ends x)
  best_from outputs (i ∷ is) x = first_best (map (λ m. along m (step x i m) (best_from outputs is)) outputs)

-- ---- best profits alone

abbrev pub more : BestProfit → BestProfit → BestProfit
more None w = w
more (Some p) None = Some p
more (Some p) (Some q) = cond (lt_z p q) (Some q) (Some p)

abbrev pub most : List BestProfit → BestProfit
most [] = None
most (v ∷ vs) = more v (most vs)

abbrev pub plus : ℤ → BestProfit → BestProfit
plus g None = None
plus g (Some p) = Some (g +ℤ p)

abbrev pub value_along : {State : Type 0} → Step State → (State → BestProfit) → BestProfit
value_along stop rest = None
value_along (go g x) rest = plus g (rest x)

module _ (State Input : Type 0) (step : State → Input → ℕ → Step State) (ends : State → BestProfit) where
  abbrev pub value_from : List ℕ → List Input → State → BestProfit
  value_from outputs [] x = ends x
  value_from outputs (i ∷ is) x = most (map (λ m. value_along (step x i m) (value_from outputs is)) outputs)

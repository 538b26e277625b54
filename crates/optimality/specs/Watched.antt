-- A machine beside a watch, which counts on the way what the machine does not: a step is allowed where both allow it.
use Rattle.std.specs.Prelude.{Bool, true, ◌&&◌, List, [], ◌∷◌, ℕ}
use Rattle.commitment.specs.Types.{BestProfit}
use Rattle.optimality.specs.Machine.{Step, stop, go, allow}

-- what a watch allows, and where it stands after an output
pub record Watch (Seen Input : Type 0) : Type 1 where
  pub allows : Seen → Input → ℕ → Bool
  pub sees : Seen → Input → ℕ → Seen

abbrev pub beside : {State Seen : Type 0} → Seen → Step State → Step (State × Seen)
beside v stop = stop
beside v (go g x) = go g (x, v)

module _ (State Seen Input : Type 0) (step : State → Input → ℕ → Step State) (watch : Watch Seen Input) where
  abbrev pub watched : State × Seen → Input → ℕ → Step (State × Seen)
  watched (x, v) i m = allow (watch.allows v i m) (beside (watch.sees v i m) (step x i m))

-- every output of a list
module _ (Seen Input : Type 0) (watch : Watch Seen Input) where
  abbrev pub passes : List Input → Seen → List ℕ → Bool
  passes [] v s = true
  passes (i ∷ is) v [] = true
  passes (i ∷ is) v (m ∷ s) = watch.allows v i m && passes is (watch.sees v i m) s

-- a plan ends as the machine's does, whatever was seen
abbrev pub unwatched : {State Seen : Type 0} → (State → BestProfit) → State × Seen → BestProfit
unwatched ends (x, v) = ends x

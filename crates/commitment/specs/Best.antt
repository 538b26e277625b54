-- The best plan, by trying every list of outputs in order; of several that earn the most the first wins (specification 8).
use Rattle.std.specs.Prelude.{cond, List, [], ◌∷◌, ◌++◌, map, ℕ, zero, suc, ◌+◌, ◌-◌, ◌*◌, ℤ, length, Some, None}
use Rattle.std.specs.Int.Signed.{lt_z}
use Rattle.commitment.specs.Types.{BestProfit}
use Rattle.commitment.specs.declared.Generator.{Generator}
use Rattle.commitment.specs.declared.UnitRecord.{UnitRecord}
use Rattle.commitment.specs.Keeping.{keeps_case}
use Rattle.commitment.specs.Profit.{profit}

-- no schedule, or a schedule and what it earns
pub data Plan : Type 0 where
  nothing : Plan
  plan : List ℕ → ℤ → Plan

-- what it earns alone
abbrev pub profit_of : Plan → BestProfit
profit_of nothing = None
profit_of (plan s p) = Some p

-- its schedule alone
abbrev pub schedule_of : Plan → List ℕ
schedule_of nothing = []
schedule_of (plan s p) = s

-- so many outputs from the first on, a block apart
abbrev pub ladder : ℕ → ℕ → ℕ → List ℕ
ladder block first zero = []
ladder block first (suc count) = first ∷ ladder block (first + block) count

-- the outputs, ascending: 0, then pmin to pmax blocks
abbrev pub outputs : Generator → List ℕ
outputs g = 0 ∷ ladder g.block (g.pmin * g.block) (suc g.pmax - g.pmin)

-- every first output before every list
abbrev pub prefixed : List ℕ → List (List ℕ) → List (List ℕ)
prefixed [] ss = []
prefixed (m ∷ ms) ss = map (λ s. m ∷ s) ss ++ prefixed ms ss

-- every list of n outputs, the earlier first
abbrev pub lists : List ℕ → ℕ → List (List ℕ)
lists ms zero = [] ∷ []
lists ms (suc n) = prefixed ms (lists ms n)

-- the one that earns more; the first where they earn the same
abbrev pub better : Plan → Plan → Plan
better nothing b = b
better (plan s p) nothing = plan s p
better (plan s p) (plan t q) = cond (lt_z p q) (plan t q) (plan s p)

abbrev pub first_best : List Plan → Plan
first_best [] = nothing
first_best (a ∷ bs) = better a (first_best bs)

-- a list of outputs with its profit, where it keeps the case
abbrev pub candidate : UnitRecord → List ℤ → List ℕ → Plan
candidate u prices s = cond (keeps_case u s) (plan s (profit u prices s)) nothing

abbrev pub best : UnitRecord → List ℤ → Plan
best u prices = first_best (map (candidate u prices) (lists (outputs u.generator) (length prices)))

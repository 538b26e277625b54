-- Profit (specification 6): formula (7), times four. A signed whole number of quarter-cents.
use Rattle.std.specs.Prelude.{List, [], ◌∷◌, ℕ, zero, suc, ◌*◌, ℤ, pos, ◌+ℤ◌, ◌-ℤ◌, ◌*ℤ◌}
use Rattle.commitment.specs.declared.Generator.{Generator}
use Rattle.commitment.specs.declared.Costs.{Costs}
use Rattle.commitment.specs.declared.UnitRecord.{UnitRecord}
use Rattle.commitment.specs.Keeping.{was_on, starts_in}

-- price × output − vec × (output − least) − mlc, where least is the lowest output
abbrev pub margin : ℤ → ℕ → ℕ → ℕ → ℕ → ℤ
margin price output vec least mlc = price *ℤ pos output -ℤ pos vec *ℤ (pos output -ℤ pos least) -ℤ pos mlc

-- an on-interval with price L and output M adds L × M − vec × (M − pmin × block) − mlc; an off one adds 0
abbrev pub earned : Generator → Costs → ℤ → ℕ → ℤ
earned g k price zero = pos 0
earned g k price (suc m) = margin price (suc m) k.vec (g.pmin * g.block) k.mlc

abbrev pub earned_in : Generator → Costs → List ℤ → List ℕ → ℤ
earned_in g k [] s = pos 0
earned_in g k (price ∷ prices) [] = pos 0
earned_in g k (price ∷ prices) (m ∷ s) = earned g k price m +ℤ earned_in g k prices s

-- 4 × suc for a start
abbrev pub start_cost : Costs → ℕ
start_cost k = 4 * k.suc

abbrev pub profit : UnitRecord → List ℤ → List ℕ → ℤ
profit u prices s = earned_in u.generator u.costs prices s -ℤ pos (start_cost u.costs * starts_in (was_on u.opening) s)

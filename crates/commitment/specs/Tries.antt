-- The tries of reading off a plan (specification 23): in each interval the outputs are tried from 0 upwards, and the trying ends at the first that
-- reaches the best remaining profit.
use Rattle.std.specs.Prelude.{Bool, true, false, cond, not, List, [], ◌∷◌, ◌++◌, map, ℕ, zero, suc, ◌+◌, ◌-◌, ◌/◌, ℤ, length, Some, None}
use Rattle.std.specs.Int.Signed.{lt_z}
use Rattle.commitment.specs.Types.{BestProfit}
use Rattle.commitment.specs.declared.UnitRecord.{UnitRecord}
use Rattle.commitment.specs.Best.{profit_of, schedule_of, outputs, lists, first_best, candidate, best}

-- ---- how many an output takes

-- so many blocks: 1 for off, otherwise two more than its blocks above pmin
abbrev pub tries_to : ℕ → ℕ → ℕ
tries_to pmin zero = 1
tries_to pmin (suc k) = suc k - pmin + 2

-- an output in MW
abbrev pub tries_for : ℕ → ℕ → ℕ → ℕ
tries_for block pmin m = tries_to pmin (m / block)

-- a schedule: the sum over its outputs
abbrev pub tries_over : ℕ → ℕ → List ℕ → ℕ
tries_over block pmin [] = 0
tries_over block pmin (m ∷ s) = tries_for block pmin m + tries_over block pmin s

-- the plan of a case
abbrev pub plan_tries : UnitRecord → List ℤ → ℕ
plan_tries u prices = tries_over u.generator.block u.generator.pmin (schedule_of (best u prices))

-- ---- the trying itself

-- what is earned at best by a schedule that begins with these outputs
abbrev pub best_after : UnitRecord → List ℤ → List ℕ → BestProfit
best_after u prices begun =
    profit_of (first_best (map (λ s. candidate u prices (begun ++ s)) (lists (outputs u.generator) (length prices - length begun))))

-- whether a profit, if there is one, is at least the best
abbrev pub reaching : BestProfit → BestProfit → Bool
reaching best None = false
reaching None (Some p) = true
reaching (Some best) (Some p) = not (lt_z p best)

-- the first of a list that reaches, after so many tried before it, and how many were tried
abbrev pub first_that : (ℕ → Bool) → ℕ → List ℕ → ℕ × ℕ
first_that reaches before [] = (0, before)
first_that reaches before (m ∷ ms) = cond (reaches m) (m, suc before) (first_that reaches (suc before) ms)

-- in the interval after these outputs
abbrev pub next_after : UnitRecord → List ℤ → List ℕ → ℕ × ℕ
next_after u prices begun = first_that (λ m. reaching (best_after u prices begun) (best_after u prices (begun ++ m ∷ []))) 0 (outputs u.generator)

-- in each of so many intervals after these outputs
abbrev pub read_from : UnitRecord → List ℤ → List ℕ → ℕ → List (ℕ × ℕ)
read_from u prices begun zero = []
read_from u prices begun (suc n) = let found = next_after u prices begun in found ∷ read_from u prices (begun ++ found.0 ∷ []) n

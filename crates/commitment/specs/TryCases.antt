-- The tries of C1, C7 and C9 (specification 23): by the trying itself, interval by interval, and by what each output of the plan takes.
use Rattle.std.specs.Prelude.{◌≡◌, refl, List, [], ◌∷◌, map, ℕ}
use Rattle.commitment.specs.declared.UnitRecord.{UnitRecord}
use Rattle.commitment.specs.Best.{schedule_of, best}
use Rattle.commitment.specs.Tries.{tries_for, read_from}
use Rattle.commitment.specs.PlanCases.{c1-prices, c1, c7, c9}

abbrev by_trying : UnitRecord → List ℕ
by_trying u = map (λ (found : ℕ × ℕ). found.1) (read_from u c1-prices [] 6)

abbrev by_output : UnitRecord → List ℕ
by_output u = map (tries_for u.generator.block u.generator.pmin) (schedule_of (best u c1-prices))

abbrev pub given : List (List ℕ)
given = (1 ∷ 3 ∷ 3 ∷ 2 ∷ 3 ∷ 3 ∷ []) ∷ (2 ∷ 3 ∷ 3 ∷ 2 ∷ 3 ∷ 3 ∷ []) ∷ (1 ∷ 1 ∷ 1 ∷ 1 ∷ 1 ∷ 1 ∷ []) ∷ []

pub by-trying : map by_trying (c1 ∷ c7 ∷ c9 ∷ []) ≡ given
by-trying = refl

pub by-output : map by_output (c1 ∷ c7 ∷ c9 ∷ []) ≡ given
by-output = refl

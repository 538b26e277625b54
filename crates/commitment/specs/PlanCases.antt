-- C1 to C9 (specification 18): one table of cases beside every value given for them, and one statement over it. C10 to C12 are in `costs`, and all
-- twelve in `promises`.
use Rattle.std.specs.Prelude.{◌≡◌, refl, cond, List, [], ◌∷◌, map, ℕ, suc, ◌+◌, ℤ, pos, length, Some, None}
use Rattle.std.specs.Int.Signed.{le_z}
use Rattle.commitment.specs.Types.{Limit}
use Rattle.commitment.specs.declared.Limitation.TheVariants.{Starts, Hours, Mwh}
use Rattle.commitment.specs.declared.Cause.TheVariants.{NoSchedule}
use Rattle.commitment.specs.Types.{Permit}
use Rattle.commitment.specs.declared.Outcome.{Outcome}
use Rattle.commitment.specs.declared.Outcome.TheVariants.{Empty, Never, Gap}
use Rattle.commitment.specs.declared.Outcome.TheVariants as outcomes
use Rattle.commitment.specs.declared.UnitRecord.{UnitRecord}
use Rattle.commitment.specs.Causes.{number_of}
use Rattle.commitment.specs.Best.{Plan, nothing, plan, outputs, lists, candidate, best}
use Rattle.commitment.specs.Valuing.{outcome_of}

-- ---- the cases

abbrev pub c1-prices : List ℤ
c1-prices = pos 2000 ∷ pos 9000 ∷ pos 8000 ∷ pos 1000 ∷ pos 7000 ∷ pos 10000 ∷ []

-- C1 but for mot, was, held, starts, hours, mwh and permit
abbrev pub c1-under : ℕ → ℕ → ℕ → Limit → Limit → Limit → Permit → UnitRecord
c1-under mot was held starts hours mwh permit =
    record {
      generator = record { block = 10; pmin = 1; pmax = 2; mot = mot; mdt = 2 };
      costs = record { vec = 3000; mlc = 30000; suc = 5000 };
      opening = record { was = was; held = held };
      limits = record { starts = starts; hours = hours; mwh = mwh };
      permit = permit;
    }

abbrev c1-but : ℕ → ℕ → ℕ → Limit → Limit → Limit → UnitRecord
c1-but mot was held starts hours mwh = c1-under mot was held starts hours mwh None

abbrev pub c1 : UnitRecord
c1 = c1-but 2 0 2 (Some 2) (Some 2) None

abbrev pub c2 : UnitRecord
c2 = c1-but 2 0 2 (Some 2) (Some 2) (Some 10)

abbrev pub c4 : UnitRecord
c4 = c1-but 2 0 1 (Some 2) (Some 2) None

abbrev pub c5 : UnitRecord
c5 = c1-but 2 1 2 (Some 2) (Some 2) None

abbrev pub c6 : UnitRecord
c6 = c1-but 2 1 1 (Some 2) (Some 0) None

abbrev pub c7 : UnitRecord
c7 = c1-but 6 1 1 (Some 2) (Some 3) None

abbrev pub c8 : UnitRecord
c8 = c1-but 2 0 2 (Some 2) (Some 1) None

abbrev pub c9 : UnitRecord
c9 = c1-but 2 0 2 (Some 0) (Some 2) None

-- ---- the values: of a plan, of valuing it, and of a cost figure

pub data Value : Type 0 where
  schedule : List ℕ → Value
  profit : ℤ → Value
  number : ℕ → Value
  outcome : Outcome → Value
  ties : ℕ → Value
  cents : ℕ → Value

-- a plan's schedule and profit before other values, or the number of its refusal
abbrev pub plan_before : Plan → List Value → List Value
plan_before nothing rest = number (number_of NoSchedule) ∷ rest
plan_before (plan s p) rest = schedule s ∷ profit p ∷ rest

abbrev profit_before : Plan → List Value → List Value
profit_before nothing rest = number (number_of NoSchedule) ∷ rest
profit_before (plan s p) rest = profit p ∷ rest

-- 0 where there is a plan
abbrev number_before : Plan → List Value → List Value
number_before nothing rest = number (number_of NoSchedule) ∷ rest
number_before (plan s p) rest = number 0 ∷ rest

-- how many schedules earn at least so much
abbrev reaching : ℤ → List Plan → ℕ
reaching p [] = 0
reaching p (nothing ∷ rest) = reaching p rest
reaching p (plan s q ∷ rest) = cond (le_z p q) 1 0 + reaching p rest

abbrev pub ties_of : UnitRecord → List ℤ → ℕ
ties_of u prices = among (best u prices)
  where
    among : Plan → ℕ
    among nothing = 0
    among (plan s p) = reaching p (map (candidate u prices) (lists (outputs u.generator) (length prices)))

pub record Row : Type 0 where
  pub computed : List Value
  pub given : List Value

abbrev pub row : List Value → List Value → Row
row a b = record { computed = a; given = b }

abbrev pub table : List Row
table =
    -- C1
    row
    (plan_before (best c1 c1-prices)
    (outcome (outcome_of c1 c1-prices Starts) ∷ outcome (outcome_of c1 c1-prices Hours) ∷ outcome (outcome_of c1 c1-prices Mwh) ∷ []))
    (schedule (0 ∷ 20 ∷ 20 ∷ 10 ∷ 20 ∷ 20 ∷ []) ∷ profit (pos 400000) ∷ outcome (Gap (pos 400000)) ∷ outcome (Gap (pos 320000)) ∷ outcome outcomes.None ∷ [])
    -- C2
    ∷ row (plan_before (best c2 c1-prices) (outcome (outcome_of c2 c1-prices Mwh) ∷ []))
    (schedule (0 ∷ 10 ∷ 10 ∷ 0 ∷ 0 ∷ 20 ∷ []) ∷ profit (pos 210000) ∷ outcome (Gap (pos 0)) ∷ [])
    -- C3, C4: one price
    ∷ row (plan_before (best c1 (pos 9000 ∷ [])) []) (schedule (20 ∷ []) ∷ profit (pos 100000) ∷ [])
    ∷ row (plan_before (best c4 (pos 9000 ∷ [])) []) (schedule (0 ∷ []) ∷ profit (pos 0) ∷ [])
    -- C5: three schedules tie
    ∷ row (plan_before (best c5 (pos 3000 ∷ [])) (ties (ties_of c5 (pos 3000 ∷ [])) ∷ [])) (schedule (0 ∷ []) ∷ profit (pos 0) ∷ ties 3 ∷ [])
    -- C6: no schedule; C7: one, but none with an hour less
    ∷ row (plan_before (best c6 c1-prices) []) (number 9 ∷ [])
    ∷ row (number_before (best c7 c1-prices) (outcome (outcome_of c7 c1-prices Hours) ∷ [])) (number 0 ∷ outcome Never ∷ [])
    -- C8, C9: nine tenths round to 0
    ∷ row (profit_before (best c8 c1-prices) (outcome (outcome_of c8 c1-prices Hours) ∷ [])) (profit (pos 320000) ∷ outcome Empty ∷ [])
    ∷ row (plan_before (best c9 c1-prices) (outcome (outcome_of c9 c1-prices Starts) ∷ []))
    (schedule (0 ∷ 0 ∷ 0 ∷ 0 ∷ 0 ∷ 0 ∷ []) ∷ profit (pos 0) ∷ outcome Empty ∷ [])
    ∷ []

-- the definitions give it; that the calls answer it stands in `promises`
pub worked : map (λ (r : Row). r.computed) table ≡ map (λ (r : Row). r.given) table
worked = refl

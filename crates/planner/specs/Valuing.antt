-- Valuing (specification 9): the three outcomes, or why there are none.
use Rattle.std.specs.Prelude.{List, [], ◌∷◌, ◌++◌, ℕ, leb, ℤ, length, Ok, Err}
use Rattle.commitment.specs.declared.Cause.TheVariants.{Scratch}
use Rattle.commitment.specs.Types.{Checked}
use Rattle.commitment.specs.declared.Outcomes.{Outcomes}
use Rattle.commitment.specs.declared.UnitRecord.{UnitRecord}
use Rattle.commitment.specs.Causes.{number_of, Check, ◌else◌, first_of}
use Rattle.commitment.specs.Cells.{cells_needed, cells_used}
use Rattle.commitment.specs.Ranges.{prices_kept, case_checks}
use Rattle.commitment.specs.Valuing.{outcomes_of, no_outcomes}
use Rattle.planner.specs.Planning.{schedule_checks, scratch_after}
use Rattle.planner.specs.Types.{Valued}

-- ---- the causes: those of the case, then 8, then 9

abbrev pub value_lent_checks : UnitRecord → List ℤ → ℕ → List Check
value_lent_checks u prices scratch =
    case_checks u (prices_kept prices) (length prices) ++ (leb (cells_needed u (length prices)) scratch else Scratch) ∷ []

abbrev pub value_checks : UnitRecord → List ℤ → ℕ → List Check
value_checks u prices scratch = value_lent_checks u prices scratch ++ schedule_checks u prices

unfoldable pub value_lent : UnitRecord → List ℤ → ℕ → Checked
value_lent u prices scratch = first_of (value_lent_checks u prices scratch)

unfoldable pub value_checked : UnitRecord → List ℤ → ℕ → Checked
value_checked u prices scratch = first_of (value_checks u prices scratch)

-- ---- the answer

abbrev pub valued_by : Checked → Outcomes → Valued
valued_by (Ok _) outcomes = Ok outcomes
valued_by (Err cause) outcomes = Err cause

abbrev pub valued : UnitRecord → List ℤ → ℕ → Valued
valued u prices scratch = valued_by (value_checked u prices scratch) (outcomes_of u prices)

-- the scratch, beside which valuing takes no slice
abbrev pub scratch_valued : UnitRecord → List ℤ → List ℤ → List ℤ
scratch_valued u prices was = scratch_after (value_lent u prices (length was)) (cells_used u (length prices) (length was)) was

abbrev pub valued_outcomes : Valued → Outcomes
valued_outcomes (Ok outcomes) = outcomes
valued_outcomes (Err cause) = no_outcomes

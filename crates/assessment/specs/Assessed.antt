-- Handing in a schedule (specification 15): it is passed exactly when it keeps the case and no other cause holds; then its profit is formula (7).
use Rattle.std.specs.Prelude.{◌&&◌, List, [], ◌∷◌, ◌++◌, ℕ, eqb, ℤ, pos, length, Ok, Err}
use Rattle.commitment.specs.declared.Cause.TheVariants.{Length, NotKept}
use Rattle.commitment.specs.Types.{Checked}
use Rattle.commitment.specs.declared.UnitRecord.{UnitRecord}
use Rattle.commitment.specs.Causes.{number_of, Check, ◌else◌, first_of}
use Rattle.commitment.specs.Ranges.{prices_kept, case_checks}
use Rattle.commitment.specs.Schedule.{is_schedule}
use Rattle.commitment.specs.Keeping.{keeps_case}
use Rattle.commitment.specs.Profit.{profit}
use Rattle.assessment.specs.Types.{Assessed}

-- the causes: those of the case, then 7 (a schedule of another length), 10 (one that does not keep the case)
abbrev pub handed_checks : UnitRecord → List ℤ → List ℕ → List Check
handed_checks u prices s =
    (eqb (length s) (length prices) else Length) ∷ (is_schedule u.generator (length prices) s && keeps_case u s else NotKept) ∷ []

abbrev pub hand_in_checks : UnitRecord → List ℤ → List ℕ → List Check
hand_in_checks u prices s = case_checks u (prices_kept prices) (length prices) ++ handed_checks u prices s

abbrev pub handed_in : UnitRecord → List ℤ → List ℕ → Checked
handed_in u prices s = first_of (handed_checks u prices s)

unfoldable pub hand_in_checked : UnitRecord → List ℤ → List ℕ → Checked
hand_in_checked u prices s = first_of (hand_in_checks u prices s)

abbrev pub assessed_by : Checked → ℤ → Assessed
assessed_by (Ok _) p = Ok p
assessed_by (Err cause) p = Err cause

abbrev pub assessed : UnitRecord → List ℤ → List ℕ → Assessed
assessed u prices s = assessed_by (hand_in_checked u prices s) (profit u prices s)

-- ---- the number and the profit of an answer: 0 where there is none

abbrev pub assessed_profit : Assessed → ℤ
assessed_profit (Ok p) = p
assessed_profit (Err cause) = pos 0

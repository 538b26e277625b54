-- Planning (specification 8, 14, 15): the best plan, or why there is none; what becomes of the lent slices.
use Rattle.std.specs.Prelude.{Bool, true, false, List, [], ◌∷◌, ◌++◌, ℕ, leb, ℤ, pos, length, drop, replicate, Ok, Err}
use Rattle.commitment.specs.declared.Cause.TheVariants.{Length, Scratch, NoSchedule}
use Rattle.commitment.specs.Types.{Checked}
use Rattle.commitment.specs.declared.UnitRecord.{UnitRecord}
use Rattle.commitment.specs.Best.{Plan, nothing, plan, best}
use Rattle.commitment.specs.Causes.{number_of, Check, ◌else◌, first_of}
use Rattle.commitment.specs.Cells.{cells_needed, cells_used}
use Rattle.commitment.specs.Ranges.{prices_kept, case_checks}
use Rattle.planner.specs.Types.{Planned, plan_with}

-- ---- the causes: those of the case, then 7 (schedule slice shorter than the prices), 8 (scratch of fewer than two layers), 9 (no schedule)

-- beside a schedule slice that is long enough or not, a scratch of so many cells
abbrev pub slices_checks : UnitRecord → ℕ → Bool → ℕ → List Check
slices_checks u n long scratch = (long else Length) ∷ (leb (cells_needed u n) scratch else Scratch) ∷ []

abbrev pub lent_checks : UnitRecord → List ℤ → Bool → ℕ → List Check
lent_checks u prices long scratch = case_checks u (prices_kept prices) (length prices) ++ slices_checks u (length prices) long scratch

abbrev pub has_schedule : Plan → Bool
has_schedule nothing = false
has_schedule (plan s p) = true

-- found by the work
abbrev pub schedule_checks : UnitRecord → List ℤ → List Check
schedule_checks u prices = (has_schedule (best u prices) else NoSchedule) ∷ []

abbrev pub plan_checks : UnitRecord → List ℤ → ℕ → ℕ → List Check
plan_checks u prices scratch schedule = lent_checks u prices (leb (length prices) schedule) scratch ++ schedule_checks u prices

-- what is found before any work, by the work, and by both
unfoldable pub lent_checked : UnitRecord → List ℤ → Bool → ℕ → Checked
lent_checked u prices long scratch = first_of (lent_checks u prices long scratch)

abbrev pub schedule_checked : UnitRecord → List ℤ → Checked
schedule_checked u prices = first_of (schedule_checks u prices)

unfoldable pub plan_checked : UnitRecord → List ℤ → ℕ → ℕ → Checked
plan_checked u prices scratch schedule = first_of (plan_checks u prices scratch schedule)

-- ---- the answer

abbrev pub planned_by : Checked → Plan → Planned
planned_by (Ok _) (plan s p) = plan_with (length s) p
planned_by (Ok _) nothing = Err NoSchedule
planned_by (Err cause) best = Err cause

abbrev pub planned : UnitRecord → List ℤ → ℕ → ℕ → Planned
planned u prices scratch schedule = planned_by (plan_checked u prices scratch schedule) (best u prices)

-- ---- the slices

-- the schedule slice is the plan followed by what was there; on a refusal it is as it was
abbrev pub schedule_after : Checked → Plan → List ℕ → List ℕ
schedule_after (Ok _) (plan s p) was = s ++ drop (length s) was
schedule_after (Ok _) nothing was = was
schedule_after (Err cause) best was = was

-- where the work was begun the cells used are 0, and the cells beyond are as they were
abbrev pub scratch_after : Checked → ℕ → List ℤ → List ℤ
scratch_after (Ok _) used was = replicate used (pos 0) ++ drop used was
scratch_after (Err cause) used was = was

-- both as a call leaves them, beside a scratch of so many cells, and beside a schedule slice of so many entries
abbrev pub schedule_left : UnitRecord → List ℤ → ℕ → List ℕ → List ℕ
schedule_left u prices cells was = schedule_after (plan_checked u prices cells (length was)) (best u prices) was

abbrev pub scratch_left : UnitRecord → List ℤ → ℕ → List ℤ → List ℤ
scratch_left u prices entries was =
    scratch_after (lent_checked u prices (leb (length prices) entries) (length was)) (cells_used u (length prices) (length was)) was

-- ---- the number, the profit and the count of an answer: 0 where there is none; the part that comes back, empty on a refusal

abbrev pub planned_profit : Planned → ℤ
planned_profit (Ok made) = made.profit
planned_profit (Err cause) = pos 0

abbrev pub planned_count : Planned → ℕ
planned_count (Ok made) = made.count
planned_count (Err cause) = 0

abbrev pub planned_part : Checked → Plan → List ℕ
planned_part (Ok _) (plan s p) = s
planned_part (Ok _) nothing = []
planned_part (Err cause) best = []

-- the part that a call gives back
abbrev pub part_given : UnitRecord → List ℤ → ℕ → ℕ → List ℕ
part_given u prices cells entries = planned_part (plan_checked u prices cells entries) (best u prices)

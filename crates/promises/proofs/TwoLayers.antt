-- Two layers of scratch, clause by clause: every answer is the same from two layers on, whichever cells are used; those used are 0 and those beyond are
-- as they were; 8 is fewer than two layers.
use Rattle.std.specs.Prelude.{Err, Ok}
use mathlib.Core.Path.{◌≡◌, refl, sym, ap, ◌∙◌}
use mathlib.Core.List.{List, ◌++◌}
use Prim.Native.Nat.{ℕ, ◌≤◌, ◌<◌}
use native.Mathlib.Omega.{arith}
use borrow.Author.Tests.{le-leb}
use lib.Dec.{leb, lit≤}
use lib.IntN.{ℤ, pos}
use lib.ListN.{length, drop, replicate}
use Rattle.commitment.specs.declared.Cause.TheVariants.{Scratch}
use Rattle.commitment.specs.Types.{Checked}
use Rattle.commitment.specs.declared.UnitRecord.{UnitRecord}
use Rattle.commitment.specs.Best.{best}
use Rattle.commitment.specs.Cells.{cells_needed, cells_long, cells_used}
use Rattle.commitment.specs.Ranges.{ranges_kept, prices_kept}
use Rattle.commitment.specs.PlanCases.{c1, c7, c1-prices}
use Rattle.commitment.specs.Valuing.{outcomes_of}
use Rattle.planner.specs.Planning.{lent_checked, plan_checked, planned_by, planned, schedule_after, schedule_left, scratch_left, part_given, planned_part}
use Rattle.planner.specs.Reporting.{reported_by, reported}
use Rattle.planner.specs.Valuing.{value_lent, value_checked, valued_by, valued, scratch_valued}
use Rattle.casefile.specs.Reading.{unit_in, prices_in, written_checked}
use Rattle.answers.specs.Answering.{printed_for, printed}
use Rattle.answers.specs.Sizes.{cell_room}
use Rattle.answers.proofs.Found.{planned-in-room}
use Rattle.planner.proofs.Lent.{long-used, two-used}

module _ (u : UnitRecord) (prices : List ℤ) (a b : ℕ) (enough : cells_needed u (length prices) ≤ a) (also : cells_needed u (length prices) ≤ b) where
  -- what is found does not go by which of them is lent
  fits-same : leb (cells_needed u (length prices)) a ≡ leb (cells_needed u (length prices)) b
  fits-same = le-leb (cells_needed u (length prices)) a enough ∙ sym (le-leb (cells_needed u (length prices)) b also)

  found-same : (entries : ℕ) → plan_checked u prices a entries ≡ plan_checked u prices b entries
  unfolding plan_checked
  found-same entries = rw fits-same

  value-found-same : value_checked u prices a ≡ value_checked u prices b
  unfolding value_checked
  value-found-same = rw fits-same

  -- ---- the answers are the same

  pub same-plan : (entries : ℕ) → planned u prices a entries ≡ planned u prices b entries
  same-plan entries = ap (λ (k : Checked). planned_by k (best u prices)) (found-same entries)

  pub same-part : (entries : ℕ) → part_given u prices a entries ≡ part_given u prices b entries
  same-part entries = ap (λ (k : Checked). planned_part k (best u prices)) (found-same entries)

  pub same-schedule : (was : List ℕ) → schedule_left u prices a was ≡ schedule_left u prices b was
  same-schedule was = ap (λ (k : Checked). schedule_after k (best u prices) was) (found-same (length was))

  pub same-report : (entries : ℕ) → reported u prices a entries ≡ reported u prices b entries
  same-report entries = ap (λ (k : Checked). reported_by k (best u prices) (outcomes_of u prices)) (found-same entries)

  pub same-value : valued u prices a ≡ valued u prices b
  same-value = ap (λ (k : Checked). valued_by k (outcomes_of u prices)) value-found-same

-- ---- and so are the bytes printed for a text: those of the report of its case from any scratch of two layers or more

pub same-printed : (text : List ℕ) (cells : ℕ) → written_checked text ≡ Ok tt → cells_needed (unit_in text) (length (prices_in text)) ≤ cell_room
    → cells_needed (unit_in text) (length (prices_in text)) ≤ cells
    → printed_for (plan_checked (unit_in text) (prices_in text) cells (length (prices_in text))) (unit_in text) (prices_in text) ≡ printed text
unfolding printed
same-printed text cells passed enough also =
    ap (λ (k : Checked). printed_for k (unit_in text) (prices_in text))
    (found-same (unit_in text) (prices_in text) cells cell_room also enough (length (prices_in text)) ∙ planned-in-room text passed
    (length (prices_in text)) (omega arith))

-- ---- the cells used, after planning and after valuing

module _ (u : UnitRecord) (prices was : List ℤ) where
  abbrev cleared : ℕ → List ℤ
  cleared used = replicate used (pos 0) ++ drop used was

  abbrev LeavesCleared : ℕ → Type 0
  LeavesCleared used =
      ((entries : ℕ) → lent_checked u prices (leb (length prices) entries) (length was) ≡ Ok tt → scratch_left u prices entries was ≡ cleared used)
      × (value_lent u prices (length was) ≡ Ok tt → scratch_valued u prices was ≡ cleared used)

  leaves : (used : ℕ) → used ≡ cells_used u (length prices) (length was) → LeavesCleared used
  leaves used e = (λ entries passed. rw (passed, ← e), λ passed. rw (passed, ← e))

  -- the long table where it fits, and what lies beyond it as it was
  pub long-left : cells_long u (length prices) ≤ length was → LeavesCleared (cells_long u (length prices))
  long-left fits = leaves (cells_long u (length prices)) (long-used u (length prices) (length was) fits)

  -- else two layers
  pub two-left : length was < cells_long u (length prices) → LeavesCleared (cells_needed u (length prices))
  two-left short = leaves (cells_needed u (length prices)) (two-used u (length prices) (length was) short)

-- for one price the two are the same
pub one-price : (u : UnitRecord) → cells_needed u 1 ≡ cells_long u 1
one-price u = refl

-- ---- C1: 588 cells for the long table, 168 for two layers

pub c1-cells : (cells_long c1 6 ≡ 588) × (cells_needed c1 6 ≡ 168) × (cells_used c1 6 588 ≡ 588) × (cells_used c1 6 587 ≡ 168) × (cells_used c1 6 168 ≡ 168)
c1-cells = (refl, refl, refl, refl, refl)

pub c1-eight : (planned c1 c1-prices 167 6 ≡ Err Scratch) × (valued c1 c1-prices 167 ≡ Err Scratch)
unfolding plan_checked value_checked ranges_kept prices_kept
c1-eight = (refl, refl)

-- from 587 and from 168 of them it is planned as from the program's, and C7 is valued from its 336
pub c1-planned : (planned c1 c1-prices 587 6 ≡ planned c1 c1-prices cell_room 6) × (planned c1 c1-prices 168 6 ≡ planned c1 c1-prices cell_room 6)
c1-planned = (same-plan c1 c1-prices 587 cell_room (lit≤ tt) (lit≤ tt) 6, same-plan c1 c1-prices 168 cell_room (lit≤ tt) (lit≤ tt) 6)

pub c7-valued : (cells_needed c7 6 ≡ 336) × (valued c7 c1-prices 336 ≡ valued c7 c1-prices cell_room)
c7-valued = (refl, same-value c7 c1-prices 336 cell_room (lit≤ tt) (lit≤ tt))

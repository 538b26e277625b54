-- Demand 1 (specification 17). Whoever calls gets an answer: no call has a `requires`. When a call refuses, with which number, and what it leaves.
use Rattle.std.specs.Prelude.{Err, Ok}
use mathlib.Core.Path.{◌≡◌, refl}
use mathlib.Core.List.{List, []}
use mathlib.Core.Logic.{◌↔◌}
use Prim.Native.Nat.{ℕ}
use lib.IntN.{ℤ, pos}
use lib.ListN.{length}
use Rattle.commitment.specs.declared.Cause.{Cause}
use Rattle.costs.specs.declared.CostInputs.{CostInputs}
use Rattle.commitment.specs.declared.Outcomes.{Outcomes}
use Rattle.commitment.specs.declared.UnitRecord.{UnitRecord}
use Rattle.commitment.specs.Causes.{number_of, answered_number}
use Rattle.commitment.specs.Profit.{profit}
use Rattle.commitment.specs.Valuing.{outcomes_of, no_outcomes}
use Rattle.costs.specs.Answers.{three_figures, costed, costed_vec, costed_suc, costed_mlc}
use Rattle.casefile.specs.Answers.{read_case, read_prices, read_part, read_count, read_unit, no_unit}
use Rattle.casefile.specs.Reading.{unit_in, prices_in}
use Rattle.assessment.specs.Assessed.{assessed, assessed_profit}
use Rattle.listing.specs.Listing.{refusal}
use Rattle.planner.specs.declared.Report.{Report}
use Rattle.planner.specs.Planning.{planned, planned_profit, planned_count, schedule_left, part_given}
use Rattle.planner.specs.Reporting.{reported, reported_profit, reported_count, reported_outcomes}
use Rattle.planner.specs.Valuing.{valued, valued_outcomes}
use Rattle.promises.specs.Causes.{FirstOf, NoneOf, reading_causes, cost_causes, hand_in_causes, planning_causes, valuing_causes}
use Rattle.promises.proofs.Causes as causes
use Rattle.promises.proofs.Untouched as untouched
use Rattle.planner.specs.Planning.{scratch_left}
use Rattle.planner.specs.Valuing.{scratch_valued}
use Rattle.promises.proofs.Untouched.{ScratchAfter}
use Rattle.casefile.specs.Types.{case_with}
use Rattle.planner.specs.Types.{plan_with}
use Rattle.casefile.specs.declared.Case.{Case}
use Rattle.costs.specs.declared.CostFigures.{CostFigures}
use Rattle.planner.specs.declared.BestPlan.{BestPlan}

-- A bad input gets the number of its cause: the first of the call's order that holds, and no other. 9 is among them: it is given exactly when no cause
-- before it holds and there is no rival.

pub reading-refused : (text : List ℕ) (room : ℕ) (cause : Cause)
    → (read_case text room ≡ Err cause) ↔ FirstOf (reading_causes text room) cause
reading-refused text room cause = causes.reading-refused text room

pub figures-refused : (k : CostInputs) (mws heats : List ℕ) (cause : Cause)
    → (costed k mws heats ≡ Err cause) ↔ FirstOf (cost_causes k mws heats) cause
figures-refused k mws heats cause = causes.figures-refused k mws heats

pub handing-in-refused : (u : UnitRecord) (prices : List ℤ) (s : List ℕ) (cause : Cause)
    → (assessed u prices s ≡ Err cause) ↔ FirstOf (hand_in_causes u prices s) cause
handing-in-refused u prices s cause = causes.handing-in-refused u prices s

pub planning-refused : (u : UnitRecord) (prices : List ℤ) (cells entries : ℕ) (cause : Cause)
    → (planned u prices cells entries ≡ Err cause) ↔ FirstOf (planning_causes u prices cells entries) cause
planning-refused u prices cells entries cause = causes.planning-refused u prices cells entries

pub reporting-refused : (u : UnitRecord) (prices : List ℤ) (cells entries : ℕ) (cause : Cause)
    → (reported u prices cells entries ≡ Err cause) ↔ FirstOf (planning_causes u prices cells entries) cause
reporting-refused u prices cells entries cause = causes.reporting-refused u prices cells entries

pub valuing-refused : (u : UnitRecord) (prices : List ℤ) (cells : ℕ) (cause : Cause)
    → (valued u prices cells ≡ Err cause) ↔ FirstOf (valuing_causes u prices cells) cause
valuing-refused u prices cells cause = causes.valuing-refused u prices cells

-- and every cause that holds is met by a refusal: there is an answer exactly where none holds

pub reading-answered : (text : List ℕ) (room : ℕ)
    → (read_case text room ≡ case_with (unit_in text) (length (prices_in text))) ↔ NoneOf (reading_causes text room)
reading-answered = causes.reading-answered

pub figures-answered : (k : CostInputs) (mws heats : List ℕ)
    → (costed k mws heats ≡ Ok (three_figures k mws heats)) ↔ NoneOf (cost_causes k mws heats)
figures-answered = causes.figures-answered

pub handing-in-passed : (u : UnitRecord) (prices : List ℤ) (s : List ℕ)
    → (assessed u prices s ≡ Ok (profit u prices s)) ↔ NoneOf (hand_in_causes u prices s)
handing-in-passed = causes.handing-in-passed

pub planning-answered : (u : UnitRecord) (prices : List ℤ) (cells entries : ℕ)
    → ((n : ℕ) × (p : ℤ) × (planned u prices cells entries ≡ plan_with n p)) ↔ NoneOf (planning_causes u prices cells entries)
planning-answered = causes.planning-answered

pub reporting-answered : (u : UnitRecord) (prices : List ℤ) (cells entries : ℕ)
    → ((r : Report) × (reported u prices cells entries ≡ Ok r)) ↔ NoneOf (planning_causes u prices cells entries)
reporting-answered = causes.reporting-answered

pub valuing-answered : (u : UnitRecord) (prices : List ℤ) (cells : ℕ)
    → (valued u prices cells ≡ Ok (outcomes_of u prices)) ↔ NoneOf (valuing_causes u prices cells)
valuing-answered = causes.valuing-answered

-- with a refusal come the number of its cause, profit 0, every other number 0, every outcome and limitation `none`

pub read-refusal : (cause : Cause)
    → (answered_number {A = Case} (Err cause) ≡ number_of cause) × (read_count (Err cause) ≡ 0) × (read_unit (Err cause) ≡ no_unit)
read-refusal cause = (refl, refl, refl)

pub figures-refusal : (cause : Cause)
    → (answered_number {A = CostFigures} (Err cause) ≡ number_of cause)
    × (costed_vec (Err cause) ≡ 0) × (costed_suc (Err cause) ≡ 0) × (costed_mlc (Err cause) ≡ 0)
figures-refusal cause = (refl, refl, refl, refl)

pub hand-in-refusal : (cause : Cause) → (answered_number {A = ℤ} (Err cause) ≡ number_of cause) × (assessed_profit (Err cause) ≡ pos 0)
hand-in-refusal cause = (refl, refl)

pub plan-refusal : (cause : Cause)
    → (answered_number {A = BestPlan} (Err cause) ≡ number_of cause) × (planned_profit (Err cause) ≡ pos 0) × (planned_count (Err cause) ≡ 0)
plan-refusal cause = (refl, refl, refl)

pub report-refusal : (cause : Cause)
    → (answered_number {A = Report} (Err cause) ≡ number_of cause)
    × (reported_profit (Err cause) ≡ pos 0) × (reported_count (Err cause) ≡ 0)
    × (reported_outcomes (Err cause) ≡ no_outcomes)
report-refusal cause = (refl, refl, refl, refl)

pub value-refusal : (cause : Cause) → (answered_number {A = Outcomes} (Err cause) ≡ number_of cause) × (valued_outcomes (Err cause) ≡ no_outcomes)
value-refusal cause = (refl, refl)

-- schedule and price slices are untouched, and a part that comes back is empty

pub prices-untouched : (text : List ℕ) (slice : List ℤ) {cause : Cause} → read_case text (length slice) ≡ Err cause
    → (read_prices text slice ≡ slice) × (read_part text (length slice) ≡ [])
prices-untouched = untouched.prices-untouched

pub plan-untouched : (u : UnitRecord) (prices : List ℤ) (cells : ℕ) (slice : List ℕ) {cause : Cause}
    → planned u prices cells (length slice) ≡ Err cause
    → (schedule_left u prices cells slice ≡ slice) × (part_given u prices cells (length slice) ≡ [])
plan-untouched = untouched.plan-untouched

pub report-untouched : (u : UnitRecord) (prices : List ℤ) (cells : ℕ) (slice : List ℕ) {cause : Cause}
    → reported u prices cells (length slice) ≡ Err cause
    → (schedule_left u prices cells slice ≡ slice) × (part_given u prices cells (length slice) ≡ [])
report-untouched = untouched.report-untouched

-- and so is the scratch, but for 9, after which the cells used are 0

pub plan-scratch : (u : UnitRecord) (prices was : List ℤ) (entries : ℕ) (cause : Cause)
    → planned u prices (length was) entries ≡ Err cause → ScratchAfter u prices was cause (scratch_left u prices entries was)
plan-scratch u prices was entries cause = untouched.plan-scratch u prices was entries

pub report-scratch : (u : UnitRecord) (prices was : List ℤ) (entries : ℕ) (cause : Cause)
    → reported u prices (length was) entries ≡ Err cause → ScratchAfter u prices was cause (scratch_left u prices entries was)
report-scratch u prices was entries cause = untouched.report-scratch u prices was entries

pub value-scratch : (u : UnitRecord) (prices was : List ℤ) (cause : Cause)
    → valued u prices (length was) ≡ Err cause → ScratchAfter u prices was cause (scratch_valued u prices was)
value-scratch u prices was cause = untouched.value-scratch u prices was

-- A number is given exactly where its cause is the first of the call's order that holds, and an answer exactly where none holds.
use Rattle.std.specs.Prelude.{Err, None, Ok, Some}
use mathlib.Core.Path.{◌≡◌, refl, sym, ap, ◌∙◌}
use mathlib.Core.Bool.{Bool, true, false, ◌&&◌, cond, false≢true}
use mathlib.Core.List.{List, [], ◌∷◌, ◌++◌}
use mathlib.Core.Logic.Iff
use mathlib.Core.Logic.{◌↔◌}
use Prim.Native.Nat.{ℕ, ◌-◌, ◌/◌, ◌<◌}
use native.Mathlib.Omega.{arith}
use borrow.Author.Tests.{ltb-false, le-ltb}
use lib.Dec.{leb}
use lib.IntN.{ℤ}
use lib.ListN.{length}
use Rattle.lists.proofs.Conjunctions.{both}
use Rattle.calendar.specs.declared.Date.{Date}
use Rattle.calendar.specs.Clock.{clock_after}
use Rattle.commitment.specs.declared.Cause.{Cause}
use Rattle.checking.specs.Clock.{clock_checks, clock_checked, clock_by, clock_hour}
use Rattle.commitment.specs.declared.Cause.TheVariants.{Range, Length, Scratch, NoSchedule}
use Rattle.commitment.specs.Types.{Checked}
use Rattle.costs.specs.declared.CostInputs.{CostInputs}
use Rattle.commitment.specs.declared.Outcomes.{Outcomes}
use Rattle.commitment.specs.declared.UnitRecord.{UnitRecord}
use Rattle.commitment.specs.Best.{Plan, nothing, plan, best}
use Rattle.commitment.specs.Causes.{Check, ◌else◌, unless, first_of}
use Rattle.commitment.specs.Cells.{cells_needed}
use Rattle.costs.specs.Figures.{total_mw}
use Rattle.commitment.specs.Keeping.{keeps_case}
use Rattle.commitment.specs.Profit.{profit}
use Rattle.commitment.specs.Ranges.{ranges_kept, shape_kept, date_ranged, prices_kept, horizon_kept, case_checks}
use Rattle.commitment.specs.Rivals.{Rival}
use Rattle.commitment.specs.Schedule.{is_schedule}
use Rattle.commitment.specs.Valuing.{outcomes_of}
use Rattle.commitment.proofs.Causes.{in-turn, unless-passed, then-passed}
use Rattle.optimality.proofs.Optimal.{no-schedule-exactly}
use Rattle.casefile.specs.Answers.{read_by, read_case}
use Rattle.casefile.specs.Reading.{unit_in, prices_in, written_checks, room_checks, text_checks, text_checked}
use Rattle.costs.specs.Ranges.{range_mw, inputs_kept, segments_kept, inputs_checks, inputs_checked}
use Rattle.costs.specs.Answers.{three_figures, costed_by, costed}
use Rattle.assessment.specs.Assessed.{handed_checks, hand_in_checks, hand_in_checked, assessed_by, assessed}
use Rattle.planner.specs.declared.Report.{Report}
use Rattle.planner.specs.Planning.{has_schedule, slices_checks, schedule_checks, schedule_checked, lent_checks, plan_checks, plan_checked, planned_by, planned}
use Rattle.planner.specs.Reporting.{reported_by, reported}
use Rattle.planner.specs.Valuing.{value_checks, value_checked, valued_by, valued}
use Rattle.listing.specs.Types.{Fit}
use Rattle.listing.specs.Types.{HourWord}
use Rattle.listing.specs.Types.{Written}
use Rattle.listing.specs.Listing.{listing, fitted, written_by, word_kept, listing_written}
use Rattle.answers.specs.Answering.{answer_checks, all_found, report_on}
use Rattle.answers.specs.Sizes.{cell_room}
use Rattle.promises.specs.Causes.{Reason, ◌when◌, FirstOf, NoneOf, case_causes, text_causes, reading_causes, cost_causes, handed_causes, hand_in_causes}
use Rattle.promises.specs.Causes.{NoRival, table_causes, slices_causes, planning_causes, valuing_causes, answering_causes, clock_causes}
use Rattle.promises.specs.Causes.{WordTooLarge, listing_causes, line_causes}
use Rattle.promises.proofs.Ranges.{unless-so, at_most, as_many, case-range, cost-range, clock-range, misshapen, no-such-day, no-such-date, horizon}
use Rattle.promises.proofs.FirstCause.{Judged, refused-first, passed_none, Answers, answer-refused, answer-given}
use Rattle.casefile.specs.Types.{case_with}
use Rattle.planner.specs.Types.{plan_with}

-- ---- the checks of a case, and of a text, before those of a call, which may rest on what the case kept

module _ (u : UnitRecord) (prices : List ℤ) where
  abbrev CaseKept : Type 0 → Type 0
  CaseKept Then = (ranges_kept u && prices_kept prices) ≡ true → shape_kept u.generator ≡ true → Then

  case-judged : (checks : List Check) (reasons : List Reason) → CaseKept (Judged checks reasons)
      → Judged (case_checks u (prices_kept prices) (length prices) ++ checks) (case_causes u prices ++ reasons)
  case-judged checks reasons next =
      let g = u.generator in (
        refl,
        unless-so (ranges_kept u && prices_kept prices) (case-range u prices),
        λ ranges. (
          refl,
          misshapen g.block g.pmin g.pmax,
          λ shape. (refl, no-such-date u.permit, λ _. (refl, horizon (length prices), λ _. next ranges shape)),
        ),
      )

text-judged : (text : List ℕ) (checks : List Check) (reasons : List Reason) → CaseKept (unit_in text) (prices_in text) (Judged checks reasons)
    → Judged (written_checks text ++ checks) (text_causes text ++ reasons)
text-judged text checks reasons next =
    (refl, Iff.rfl, λ _. (refl, Iff.rfl, λ _. case-judged (unit_in text) (prices_in text) checks reasons next))

-- ---- reading

module _ (text : List ℕ) (room : ℕ) where
  read-judged : Judged (text_checks text room) (reading_causes text room)
  read-judged =
      text-judged text (room_checks text room) ((Length when room < length (prices_in text)) ∷ []) (λ _ _. (refl, at_most (length (prices_in text)) room, λ _. tt))

  read-answers : Answers (λ k. read_by k (unit_in text) (length (prices_in text))) Err
  read-answers = record { is = λ _. refl; alike = λ _ _ e. cc; other = λ _ e. let z : ◌≡◌ {A = ℕ} 0 1 = cc in absurd (omega arith) }

  pub reading-refused : {cause : Cause} → (read_case text room ≡ Err cause) ↔ FirstOf (reading_causes text room) cause
  unfolding read_case text_checked
  reading-refused = answer-refused read-answers (text_checks text room) (reading_causes text room) read-judged

  pub reading-answered : (read_case text room ≡ case_with (unit_in text) (length (prices_in text))) ↔ NoneOf (reading_causes text room)
  unfolding read_case text_checked
  reading-answered = answer-given read-answers (text_checks text room) (reading_causes text room) read-judged

-- ---- cost figures

module _ (k : CostInputs) (mws heats : List ℕ) where
  cost-judged : Judged (inputs_checks k mws heats) (cost_causes k mws heats)
  cost-judged = (
    refl,
    unless-so (inputs_kept k && segments_kept mws heats) (cost-range k mws heats),
    λ _. (
      refl,
      misshapen k.block k.pmin k.pmax,
      λ _.
          (refl, as_many (total_mw mws) (range_mw k), λ _. (refl, as_many (length mws) (length heats), λ _. tt)),
    ),
  )

  cost-answers : Answers (λ c. costed_by c (three_figures k mws heats)) Err
  cost-answers = record { is = λ _. refl; alike = λ _ _ e. cc; other = λ _ e. let z : ◌≡◌ {A = ℕ} 0 1 = cc in absurd (omega arith) }

  pub figures-refused : {cause : Cause} → (costed k mws heats ≡ Err cause) ↔ FirstOf (cost_causes k mws heats) cause
  unfolding costed inputs_checked
  figures-refused = answer-refused cost-answers (inputs_checks k mws heats) (cost_causes k mws heats) cost-judged

  pub figures-answered : (costed k mws heats ≡ Ok (three_figures k mws heats)) ↔ NoneOf (cost_causes k mws heats)
  unfolding costed inputs_checked
  figures-answered = answer-given cost-answers (inputs_checks k mws heats) (cost_causes k mws heats) cost-judged

-- ---- handing in

module _ (u : UnitRecord) (prices : List ℤ) (s : List ℕ) where
  hand-judged : Judged (hand_in_checks u prices s) (hand_in_causes u prices s)
  hand-judged =
      case-judged u prices (handed_checks u prices s) (handed_causes u prices s)
      (λ _ _. (refl, as_many (length s) (length prices), λ _. (refl, no-rival-handed, λ _. tt)))
    where
      no-rival-handed : ((is_schedule u.generator (length prices) s && keeps_case u s) ≡ false) ↔ (Rival u prices s → ⊥)
      no-rival-handed = unless-so (is_schedule u.generator (length prices) s && keeps_case u s) (kept, λ r. rw (r.schedule, r.kept) refl)
        where
          kept : (is_schedule u.generator (length prices) s && keeps_case u s) ≡ true → Rival u prices s
          kept e = let k = both (is_schedule u.generator (length prices) s) (keeps_case u s) e in record { schedule = k.0; kept = k.1 }

  hand-answers : Answers (λ k. assessed_by k (profit u prices s)) Err
  hand-answers = record { is = λ _. refl; alike = λ _ _ e. cc; other = λ _ e. let z : ◌≡◌ {A = ℕ} 0 1 = cc in absurd (omega arith) }

  pub handing-in-refused : {cause : Cause} → (assessed u prices s ≡ Err cause) ↔ FirstOf (hand_in_causes u prices s) cause
  unfolding hand_in_checked
  handing-in-refused = answer-refused hand-answers (hand_in_checks u prices s) (hand_in_causes u prices s) hand-judged

  -- it is passed, with formula (7)
  pub handing-in-passed : (assessed u prices s ≡ Ok (profit u prices s)) ↔ NoneOf (hand_in_causes u prices s)
  unfolding hand_in_checked
  handing-in-passed = answer-given hand-answers (hand_in_checks u prices s) (hand_in_causes u prices s) hand-judged

-- ---- planning, reporting and valuing

module _ (u : UnitRecord) (prices : List ℤ) where
  no-plan : (b : Plan) → (has_schedule b ≡ false) ↔ (b ≡ nothing)
  no-plan nothing = (λ e. refl, λ e. refl)
  no-plan (plan s p) = (λ e. let z : ◌≡◌ {A = ℕ} 0 1 = cc in absurd (omega arith), λ e. let z : ◌≡◌ {A = ℕ} 0 1 = cc in absurd (omega arith))

  no_rival : (ranges_kept u && prices_kept prices) ≡ true → shape_kept u.generator ≡ true → (has_schedule (best u prices) ≡ false) ↔ NoRival u prices
  no_rival ranges shape = Iff.trans (no-plan (best u prices)) (no-schedule-exactly u (both (ranges_kept u) (prices_kept prices) ranges).0 shape prices)

  -- 8 and 9
  abbrev table_checks : ℕ → List Check
  table_checks cells = (leb (cells_needed u (length prices)) cells else Scratch) ∷ schedule_checks u prices

  table-judged : (cells : ℕ) → CaseKept u prices (Judged (table_checks cells) (table_causes u prices cells))
  table-judged cells ranges shape = (refl, at_most (cells_needed u (length prices)) cells, λ _. (refl, no_rival ranges shape, λ _. tt))

  -- a list of checks that ends with the schedule's passes where there is a plan
  found : (checks : List Check) → first_of (checks ++ schedule_checks u prices) ≡ Ok tt → best u prices ≡ nothing → ⊥
  found checks passed none =
      let turn = then-passed (first_of checks) (schedule_checked u prices) (sym (in-turn checks (schedule_checks u prices)) ∙ passed) in
      let has = (unless-passed (has_schedule (best u prices)) NoSchedule (Ok tt) turn.1).0 in
      let no : false ≡ true = ap has_schedule (sym none) ∙ has in
      let z : ◌≡◌ {A = ℕ} 0 1 = cc in
      absurd (omega arith)

  -- a report is refused where its checks are, and given where they pass
  module _ (k : Checked) (planned : k ≡ Ok tt → best u prices ≡ nothing → ⊥) where
    report-refused : {cause : Cause} → (reported_by k (best u prices) (outcomes_of u prices) ≡ Err cause) ↔ (k ≡ Err cause)
    report-refused {cause} = by k (best u prices) refl refl
      where
        by : (found : Checked) (b : Plan) → k ≡ found → best u prices ≡ b
            → (reported_by found b (outcomes_of u prices) ≡ Err cause) ↔ (found ≡ Err cause)
        by (Ok _) nothing i none = absurd (planned i none)
        by (Ok _) (plan s p) i is = (λ e. let z : ◌≡◌ {A = ℕ} 0 1 = cc in absurd (omega arith), λ e. let z : ◌≡◌ {A = ℕ} 0 1 = cc in absurd (omega arith))
        by (Err given) b i is = (λ e. let same : given ≡ cause = cc in ap Err same, λ e. let same : given ≡ cause = cc in ap Err same)

    report-given : ((r : Report) × (reported_by k (best u prices) (outcomes_of u prices) ≡ Ok r)) ↔ (k ≡ Ok tt)
    report-given = by k (best u prices) refl refl
      where
        by : (found : Checked) (b : Plan) → k ≡ found → best u prices ≡ b
            → ((r : Report) × (reported_by found b (outcomes_of u prices) ≡ Ok r)) ↔ (found ≡ Ok tt)
        by (Ok _) nothing i none = absurd (planned i none)
        by (Ok _) (plan s p) i is = (λ e. refl, λ e. (record { count = length s; profit = p; outcomes = outcomes_of u prices }, refl))
        by (Err given) b i is = (λ e. lie e.1, λ e. let z : ◌≡◌ {A = ℕ} 0 1 = cc in absurd (omega arith))
          where
            lie : {r : Report} → Err given ≡ Ok r → ◌≡◌ {A = Checked} (Err given) (Ok tt)
            lie e = let z : ◌≡◌ {A = ℕ} 0 1 = cc in absurd (omega arith)

  module _ (cells entries : ℕ) where
    plan-judged : Judged (plan_checks u prices cells entries) (planning_causes u prices cells entries)
    plan-judged =
        case-judged u prices (slices_checks u (length prices) (leb (length prices) entries) cells ++ schedule_checks u prices)
        (slices_causes u prices cells entries)
        (λ ranges shape. (refl, at_most (length prices) entries, λ _. table-judged cells ranges shape))

    pub plan-found : plan_checked u prices cells entries ≡ Ok tt → best u prices ≡ nothing → ⊥
    unfolding plan_checked
    plan-found passed none = found (lent_checks u prices (leb (length prices) entries) cells) passed none

    pub planning-refused : {cause : Cause} → (planned u prices cells entries ≡ Err cause)
        ↔ FirstOf (planning_causes u prices cells entries) cause
    unfolding plan_checked
    planning-refused {cause} =
        Iff.trans (by (plan_checked u prices cells entries) (best u prices) refl refl)
        (refused-first (plan_checks u prices cells entries) (planning_causes u prices cells entries) plan-judged)
      where
        by : (k : Checked) (b : Plan) → plan_checked u prices cells entries ≡ k → best u prices ≡ b → (planned_by k b ≡ Err cause) ↔ (k ≡ Err cause)
        by (Ok _) nothing i none = absurd (plan-found i none)
        by (Ok _) (plan s p) i is = (λ e. let z : ◌≡◌ {A = ℕ} 0 1 = cc in absurd (omega arith), λ e. let z : ◌≡◌ {A = ℕ} 0 1 = cc in absurd (omega arith))
        by (Err given) b i is = (λ e. let same : given ≡ cause = cc in ap Err same, λ e. let same : given ≡ cause = cc in ap Err same)

    pub reporting-refused : {cause : Cause} → (reported u prices cells entries ≡ Err cause)
        ↔ FirstOf (planning_causes u prices cells entries) cause
    unfolding plan_checked
    reporting-refused =
        Iff.trans (report-refused (plan_checked u prices cells entries) plan-found)
        (refused-first (plan_checks u prices cells entries) (planning_causes u prices cells entries) plan-judged)

    pub planning-answered : ((n : ℕ) × (p : ℤ) × (planned u prices cells entries ≡ plan_with n p)) ↔ NoneOf (planning_causes u prices cells entries)
    unfolding plan_checked
    planning-answered =
        Iff.trans (by (plan_checked u prices cells entries) (best u prices) refl refl)
        (passed_none (plan_checks u prices cells entries) (planning_causes u prices cells entries) plan-judged)
      where
        by : (k : Checked) (b : Plan) → plan_checked u prices cells entries ≡ k → best u prices ≡ b
            → ((n : ℕ) × (p : ℤ) × (planned_by k b ≡ plan_with n p)) ↔ (k ≡ Ok tt)
        by (Ok _) nothing i none = absurd (plan-found i none)
        by (Ok _) (plan s p) i is = (λ e. refl, λ e. (length s, p, refl))
        by (Err given) b i is = (λ e. lie e.2, λ e. let z : ◌≡◌ {A = ℕ} 0 1 = cc in absurd (omega arith))
          where
            lie : {n : ℕ} {p : ℤ} → Err given ≡ plan_with n p → ◌≡◌ {A = Checked} (Err given) (Ok tt)
            lie e = let z : ◌≡◌ {A = ℕ} 0 1 = cc in absurd (omega arith)

    pub reporting-answered : ((r : Report) × (reported u prices cells entries ≡ Ok r)) ↔ NoneOf (planning_causes u prices cells entries)
    unfolding plan_checked
    reporting-answered =
        Iff.trans (report-given (plan_checked u prices cells entries) plan-found)
        (passed_none (plan_checks u prices cells entries) (planning_causes u prices cells entries) plan-judged)

  module _ (cells : ℕ) where
    value-judged : Judged (value_checks u prices cells) (valuing_causes u prices cells)
    value-judged = case-judged u prices (table_checks cells) (table_causes u prices cells) (table-judged cells)

    value-answers : Answers (λ k. valued_by k (outcomes_of u prices)) Err
    value-answers = record { is = λ _. refl; alike = λ _ _ e. cc; other = λ _ e. let z : ◌≡◌ {A = ℕ} 0 1 = cc in absurd (omega arith) }

    pub valuing-refused : {cause : Cause} → (valued u prices cells ≡ Err cause) ↔ FirstOf (valuing_causes u prices cells) cause
    unfolding value_checked
    valuing-refused = answer-refused value-answers (value_checks u prices cells) (valuing_causes u prices cells) value-judged

    pub valuing-answered : (valued u prices cells ≡ Ok (outcomes_of u prices)) ↔ NoneOf (valuing_causes u prices cells)
    unfolding value_checked
    valuing-answered = answer-given value-answers (value_checks u prices cells) (valuing_causes u prices cells) value-judged

-- ---- answering a text

module _ (text : List ℕ) where
  answer-judged : Judged (answer_checks text) (answering_causes text)
  answer-judged =
      text-judged text (table_checks (unit_in text) (prices_in text) cell_room) (table_causes (unit_in text) (prices_in text) cell_room)
      (table-judged (unit_in text) (prices_in text) cell_room)

  answer-found : all_found text ≡ Ok tt → best (unit_in text) (prices_in text) ≡ nothing → ⊥
  unfolding all_found
  answer-found passed none =
      found (unit_in text) (prices_in text)
      (written_checks text ++ ((leb (cells_needed (unit_in text) (length (prices_in text))) cell_room else Scratch) ∷ [])) passed none

  pub answering-refused : {cause : Cause} → (report_on text ≡ Err cause) ↔ FirstOf (answering_causes text) cause
  unfolding all_found
  answering-refused =
      Iff.trans (report-refused (unit_in text) (prices_in text) (all_found text) answer-found)
      (refused-first (answer_checks text) (answering_causes text) answer-judged)

  pub answering-answered : ((r : Report) × (report_on text ≡ Ok r)) ↔ NoneOf (answering_causes text)
  unfolding all_found
  answering-answered =
      Iff.trans (report-given (unit_in text) (prices_in text) (all_found text) answer-found)
      (passed_none (answer_checks text) (answering_causes text) answer-judged)

-- ---- the clock hour of an interval, and those of as many intervals as a slice has entries

module _ (d : Date) (interval : ℕ) where
  clock-judged : Judged (clock_checks d interval) (clock_causes d interval)
  clock-judged =
      (refl, unless-so (date_ranged d && horizon_kept interval) (clock-range d interval), λ _. (refl, no-such-day d, λ _. tt))

  clock-answers : Answers (λ k. clock_by k (clock_after d ((interval - 1) / 4))) Err
  clock-answers = record { is = λ _. refl; alike = λ _ _ e. cc; other = λ _ e. let z : ◌≡◌ {A = ℕ} 0 1 = cc in absurd (omega arith) }

  pub clock-refused : {cause : Cause} → (clock_hour d interval ≡ Err cause) ↔ FirstOf (clock_causes d interval) cause
  clock-refused = answer-refused clock-answers (clock_checks d interval) (clock_causes d interval) clock-judged

  pub clock-answered : (clock_hour d interval ≡ Ok (clock_after d ((interval - 1) / 4))) ↔ NoneOf (clock_causes d interval)
  clock-answered = answer-given clock-answers (clock_checks d interval) (clock_causes d interval) clock-judged

  pub hours-refused : {cause : Cause} → (clock_checked d interval ≡ Err cause) ↔ FirstOf (clock_causes d interval) cause
  hours-refused = refused-first (clock_checks d interval) (clock_causes d interval) clock-judged

-- ---- a text into a buffer, and a listing, whose word is judged first

abbrev written_for : ℕ → Checked → Written
written_for bytes (Ok _) = Ok bytes
written_for bytes (Err cause) = Err cause

written-answers : (bytes : ℕ) → Answers (written_for bytes) Err
written-answers bytes = record { is = λ _. refl; alike = λ _ _ e. cc; other = λ _ e. let z : ◌≡◌ {A = ℕ} 0 1 = cc in absurd (omega arith) }

module _ (lines : List ℕ) (room : ℕ) where
  abbrev line_checks : List Check
  line_checks = (leb (length lines) room else Length) ∷ []

  written-by : written_by (fitted (length lines) room) ≡ written_for (length lines) (first_of line_checks)
  written-by = by (leb (length lines) room)
    where
      by : (t : Bool) → written_by (cond {A = Fit} t (Some (length lines)) None) ≡ written_for (length lines) (unless t Length (Ok tt))
      by true = refl
      by false = refl

  line-judged : Judged line_checks (line_causes lines room)
  line-judged = (refl, at_most (length lines) room, λ _. tt)

  pub line_refused : {cause : Cause} → (written_by (fitted (length lines) room) ≡ Err cause) ↔ FirstOf (line_causes lines room) cause
  line_refused {cause} =
      Iff.trans (λ e. sym written-by ∙ e, λ e. written-by ∙ e) (answer-refused (written-answers (length lines)) line_checks (line_causes lines room) line-judged)

  pub line-written : (written_by (fitted (length lines) room) ≡ Ok (length lines)) ↔ NoneOf (line_causes lines room)
  line-written =
      Iff.trans (λ e. sym written-by ∙ e, λ e. written-by ∙ e) (answer-given (written-answers (length lines)) line_checks (line_causes lines room) line-judged)

module _ (s : List ℕ) (p : ℤ) (o : Outcomes) (w : HourWord) (room : ℕ) where
  abbrev lines : List ℕ
  lines = listing s p o w

  abbrev listing_checks : List Check
  listing_checks = (word_kept w else Range) ∷ line_checks lines room

  listing-by : listing_written s p o w room ≡ written_for (length lines) (first_of listing_checks)
  listing-by = by (word_kept w)
    where
      by : (t : Bool) → cond t (written_by (fitted (length lines) room)) (Err Range)
          ≡ written_for (length lines) (unless t Range (first_of (line_checks lines room)))
      by true = written-by lines room
      by false = refl

  word-judged : (w : HourWord) → (word_kept w ≡ false) ↔ WordTooLarge w
  word-judged None = (λ e. absurd (false≢true (sym e)), λ no. absurd no)
  word-judged (Some word) = (λ e. let least = ltb-false word 16777216 e in omega arith, λ h. le-ltb word 16777216 (omega arith))

  listing-judged : Judged listing_checks (listing_causes lines w room)
  listing-judged = (refl, word-judged w, λ _. line-judged lines room)

  pub listing-refused : {cause : Cause} → (listing_written s p o w room ≡ Err cause) ↔ FirstOf (listing_causes lines w room) cause
  listing-refused =
      Iff.trans (λ e. sym listing-by ∙ e, λ e. listing-by ∙ e)
      (answer-refused (written-answers (length lines)) listing_checks (listing_causes lines w room) listing-judged)

  pub listing-given : (listing_written s p o w room ≡ Ok (length lines)) ↔ NoneOf (listing_causes lines w room)
  listing-given =
      Iff.trans (λ e. sym listing-by ∙ e, λ e. listing-by ∙ e)
      (answer-given (written-answers (length lines)) listing_checks (listing_causes lines w room) listing-judged)

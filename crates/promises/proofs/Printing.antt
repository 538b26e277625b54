-- What is printed for a text: by its report, how long it is, and what a buffer then holds.
use Rattle.std.specs.Prelude.{Err, None, Ok, Some}
use mathlib.Core.Path.{◌≡◌, refl, sym, ap, ◌∙◌}
use mathlib.Core.Bool.{Bool, true, false, cond}
use mathlib.Core.List.{List, [], ◌∷◌, ◌++◌}
use mathlib.Core.Logic.{◌↔◌, inl, inr}
use Prim.Native.Nat.{ℕ, suc, ◌+◌, ◌*◌, ◌≤◌, ◌<◌}
use native.Mathlib.Omega.{arith}
use borrow.Author.Tests.{le-leb, lt-leb, leb-true, leb-false, eqb-true}
use lib.Dec.{leb, eqb}
use lib.IntN.{ℤ}
use lib.ListN.{length, drop, length-append}
use lib.Seq.{take-append_seam}
use Rattle.lists.specs.Every.{every}
use Rattle.lists.proofs.Conjunctions.{both}
use Rattle.commitment.specs.declared.Cause.{Cause}
use Rattle.commitment.specs.declared.Cause.TheVariants.{Form}
use Rattle.commitment.specs.Types.{Checked}
use Rattle.commitment.specs.declared.Generator.{Generator}
use Rattle.commitment.specs.declared.Limitation.{Limitation}
use Rattle.commitment.specs.declared.Limitation.TheVariants.{Starts, Hours, Mwh}
use Rattle.commitment.specs.declared.Outcomes.{Outcomes}
use Rattle.commitment.specs.declared.UnitRecord.{UnitRecord}
use Rattle.commitment.specs.Best.{Plan, nothing, plan, best}
use Rattle.commitment.specs.Bounds.{most_mw, most_horizon}
use Rattle.commitment.specs.Causes.{number_of, answered_number}
use Rattle.commitment.specs.Ranges.{prices_kept}
use Rattle.commitment.specs.Schedule.{is_output, is_schedule}
use Rattle.commitment.specs.Valuing.{outcome_of, outcomes_of}
use Rattle.commitment.proofs.Passing.{Passing, passing}
use Rattle.optimality.proofs.Optimal.{plan-exactly, outcome-exactly}
use Rattle.assessment.proofs.Bounds.{output-most}
use Rattle.casetext.specs.Form.{most_bytes, form_kept}
use Rattle.casefile.specs.Reading.{unit_in, prices_in}
use Rattle.writing.proofs.AsWritten.{text-as-written}
use Rattle.listing.specs.Types.{Fit}
use Rattle.listing.specs.Types.{HourWord}
use Rattle.listing.specs.Listing.{interval_line, interval_lines, listing, refusal, fitted, written_by, buffer_after}
use Rattle.listing.proofs.Numbers.{number_short, number_digits}
use Rattle.listing.proofs.Lengths.{line-length, totals-short, window-short, listing-length, refusal-length}
use Rattle.planner.specs.declared.Report.{Report}
use Rattle.planner.specs.Types.{Reported}
use Rattle.planner.specs.Planning.{planned_part}
use Rattle.planner.specs.Reporting.{reported_by}
use Rattle.answers.specs.declared.Answered.{Answered}
use Rattle.answers.specs.Answering.{word_of, report_printed, answered_by, all_found, report_on, answered, printed}
use Rattle.answers.specs.Sizes.{out_room}
use Rattle.answers.proofs.Found.{all-passed}
use Rattle.promises.specs.Causes.{FirstOf, NoneOf, answering_causes}
use Rattle.promises.specs.Outcomes.{outcome_for}
use Rattle.promises.specs.Printed.{BestPlanPrinted, Prints}
use Rattle.promises.proofs.Causes.{answering-refused, answering-answered}
use Rattle.promises.proofs.FirstCause.{apart, not-given}

-- ---- a listing of n intervals takes at most 9 bytes for each, such as `2976,500` and its end, and 146 for the rest

numbers-below : (i mw : ℕ) → i < 10000 → mw ≤ most_mw → length (interval_line i mw) ≤ 9
numbers-below i mw few small =
    omega (arith, line-length i mw, number_digits 3 i (omega arith) (omega arith), number_digits 2 mw (omega arith) (omega arith))

module _ (g : Generator) (small : (m : ℕ) → is_output g m ≡ true → m ≤ most_mw) where
  lines-most : (i : ℕ) (s : List ℕ) → every (is_output g) s ≡ true → i + length s ≤ 10000 → length (interval_lines i s) ≤ 9 * length s
  lines-most i [] kept few = omega arith
  lines-most i (mw ∷ s) kept few =
      let k = both (is_output g mw) (every (is_output g) s) kept in
      omega (
        arith,
        length-append (interval_line i mw) (interval_lines (suc i) s),
        numbers-below i mw (omega arith) (small mw k.0),
        lines-most (suc i) s k.1 (omega arith),
      )

  listing-most : (n : ℕ) (s : List ℕ) (p : ℤ) (o : Outcomes) (w : HourWord) → is_schedule g n s ≡ true → n ≤ most_horizon
      → length (listing s p o w) ≤ 9 * n + 146
  listing-most n s p o w kept short =
      let k = both (eqb (length s) n) (every (is_output g) s) kept in
      let count = eqb-true (length s) n k.0 in
      omega (
        arith,
        count,
        listing-length s p o w,
        lines-most 1 s k.1 (omega arith),
        totals-short p o,
        window-short w,
      )

-- ---- a text that is not refused

module _ (text : List ℕ) where
  abbrev unit : UnitRecord
  unit = unit_in text

  abbrev prices : List ℤ
  prices = prices_in text

  -- the case passed, and there is a best plan, which is what is printed
  record Planned : Type 0 where
    passed : all_found text ≡ Ok tt
    schedule : List ℕ
    profit : ℤ
    is : best unit prices ≡ plan schedule profit

  planned-by : (r : Report) → report_on text ≡ Ok r → Planned
  planned-by r e = by (all_found text) (best unit prices) refl refl e
    where
      by : (k : Checked) (b : Plan) → all_found text ≡ k → best unit prices ≡ b → reported_by k b (outcomes_of unit prices) ≡ Ok r → Planned
      by (Ok _) nothing i is e = let z : ◌≡◌ {A = ℕ} 0 1 = cc in absurd (omega arith)
      by (Ok _) (plan s p) i is e = record { passed = i; schedule = s; profit = p; is = is }
      by (Err cause) b i is e = let z : ◌≡◌ {A = ℕ} 0 1 = cc in absurd (omega arith)

  case-of : Planned → Passing unit (prices_kept prices) (length prices)
  case-of w = passing unit (prices_kept prices) (length prices) (all-passed text w.passed).checks

  lines_of : (w : Planned) → printed text ≡ listing w.schedule w.profit (outcomes_of unit prices) (word_of unit.permit)
  unfolding printed
  lines_of w = rw (w.passed, w.is) refl

  best-printed : Planned → BestPlanPrinted text
  best-printed w =
      let h = (case-of w).order in
      let passed = all-passed text w.passed in
      record {
        unit = unit;
        prices = prices;
        written = text-as-written text passed.form passed.names passed.checks;
        schedule = w.schedule;
        profit = w.profit;
        outcomes = outcomes_of unit prices;
        best = (plan-exactly unit h.ranges h.shape prices w.schedule w.profit).0 w.is;
        says = λ which. (outcome-exactly unit h.ranges h.shape prices which (outcome_for (outcomes_of unit prices) which)).0 (same which);
        lines = lines_of w;
      }
    where
      same : (which : Limitation) → outcome_for (outcomes_of unit prices) which ≡ outcome_of unit prices which
      same Starts = refl
      same Hours = refl
      same Mwh = refl

  -- ---- a text that is refused

  refused-line : (cause : Cause) → report_on text ≡ Err cause → printed text ≡ refusal (number_of cause)
  unfolding printed
  refused-line cause e =
      ap (λ (r : Reported). report_printed (word_of unit.permit) r (planned_part (all_found text) (best unit prices))) e

  -- ---- either way, the program's buffer has room

  by-report : {A : Type 0} → (Planned → A) → ((cause : Cause) → report_on text ≡ Err cause → A) → A
  by-report {A} given refused = by (report_on text) refl
    where
      by : (r : Reported) → report_on text ≡ r → A
      by (Ok r) e = given (planned-by r e)
      by (Err cause) e = refused cause e

  printed-most : length (printed text) ≤ out_room
  printed-most = by-report long short
    where
      long : Planned → length (printed text) ≤ out_room
      long w =
          let h = (case-of w).order in
          let own = ((plan-exactly unit h.ranges h.shape prices w.schedule w.profit).0 w.is).own in
          let most =
          listing-most unit.generator (output-most unit h.ranges h.shape) (length prices) w.schedule w.profit (outcomes_of unit prices)
          (word_of unit.permit) own.schedule h.checked in
          omega (arith, ap length (lines_of w), most, h.checked)

      short : (cause : Cause) → report_on text ≡ Err cause → length (printed text) ≤ out_room
      short cause e =
          omega (arith, ap length (refused-line cause e), refusal-length (number_of cause), number_short (number_of cause))

  -- ---- what a buffer of any length gets

  module _ (room : ℕ) where
    -- by whether the lines fit
    answered-by : {t : Bool} → leb (length (printed text)) room ≡ t
        → answered text room ≡ answered_by (report_on text) (written_by (cond {A = Fit} t (Some (length (printed text))) None))
    unfolding answered printed
    answered-by e = rw e refl

    bytes-by : (r : Reported) (t : Bool)
        → (answered_by r (written_by (cond {A = Fit} t (Some (length (printed text))) None))).bytes ≡ cond t (length (printed text)) 0
    bytes-by (Ok r) true = refl
    bytes-by (Ok r) false = refl
    bytes-by (Err cause) true = refl
    bytes-by (Err cause) false = refl

    bytes-are : {t : Bool} → leb (length (printed text)) room ≡ t → (answered text room).bytes ≡ cond t (length (printed text)) 0
    bytes-are {t} e = ap (λ (a : Answered). a.bytes) (answered-by e) ∙ bytes-by (report_on text) t

    pub refused-number : (cause : Cause) → FirstOf (answering_causes text) cause → (answered text room).number ≡ number_of cause
    refused-number cause first =
        ap (λ (a : Answered). a.number)
        (answered-by refl ∙ ap (λ (r : Reported). answered_by r (written_by (fitted (length (printed text)) room))) ((answering-refused text).1 first))

    -- 0 and 7 are given to no refusal
    no-refusal : {number : ℕ} → apart number (answering_causes text) ≡ true → (cause : Cause) → report_on text ≡ Err cause
        → (answered text room).number ≡ number → ⊥
    no-refusal {number} away cause e is =
        let first = (answering-refused text).0 e in
        not-given number (answering_causes text) away cause first (sym (refused-number cause first) ∙ is)

    -- a plan has the number of writing its listing
    plan-number : (r : Report) → report_on text ≡ Ok r → {t : Bool} → leb (length (printed text)) room ≡ t
        → (answered text room).number ≡ answered_number (written_by (cond {A = Fit} t (Some (length (printed text))) None))
    plan-number r e {t} fits =
        ap (λ (a : Answered). a.number)
        (answered-by fits ∙ ap (λ (x : Reported). answered_by x (written_by (cond {A = Fit} t (Some (length (printed text))) None))) e)

    pub written-exactly : ((answered text room).number ≡ 0) ↔ (NoneOf (answering_causes text) × (length (printed text) ≤ room))
    written-exactly = (given, λ so. let none = (answering-answered text).1 so.0 in plan-number none.0 none.1 (le-leb _ room so.1))
      where
        given : (answered text room).number ≡ 0 → NoneOf (answering_causes text) × (length (printed text) ≤ room)
        given is = by (report_on text) refl
          where
            by : (r : Reported) → report_on text ≡ r → NoneOf (answering_causes text) × (length (printed text) ≤ room)
            by (Ok r) e = ((answering-answered text).0 (r, e), fits (leb (length (printed text)) room) refl)
              where
                fits : (t : Bool) → leb (length (printed text)) room ≡ t → length (printed text) ≤ room
                fits true i = leb-true (length (printed text)) room i
                fits false i = absurd (omega (arith, sym (plan-number r e i) ∙ is))
            by (Err cause) e = absurd (no-refusal {number = 0} refl cause e is)

    pub seven-exactly : ((answered text room).number ≡ 7) ↔ (NoneOf (answering_causes text) × (room < length (printed text)))
    seven-exactly = (given, λ so. let none = (answering-answered text).1 so.0 in plan-number none.0 none.1 (lt-leb _ room so.1))
      where
        given : (answered text room).number ≡ 7 → NoneOf (answering_causes text) × (room < length (printed text))
        given is = by (report_on text) refl
          where
            by : (r : Reported) → report_on text ≡ r → NoneOf (answering_causes text) × (room < length (printed text))
            by (Ok r) e = ((answering-answered text).0 (r, e), long (leb (length (printed text)) room) refl)
              where
                long : (t : Bool) → leb (length (printed text)) room ≡ t → room < length (printed text)
                long true i = absurd (omega (arith, sym (plan-number r e i) ∙ is))
                long false i = leb-false (length (printed text)) room i
            by (Err cause) e = absurd (no-refusal {number = 7} refl cause e is)

  pub fitting-written : (out : List ℕ) → length (printed text) ≤ length out
      → ((answered text (length out)).bytes ≡ length (printed text)) × (buffer_after (printed text) out ≡ printed text ++ drop (length (printed text)) out)
  fitting-written out fits =
      let e = le-leb (length (printed text)) (length out) fits in
      (bytes-are (length out) e, ap (λ (t : Bool). cond t (printed text ++ drop (length (printed text)) out) out) e)

  pub short-untouched : (out : List ℕ) → length out < length (printed text)
      → ((answered text (length out)).bytes ≡ 0) × (buffer_after (printed text) out ≡ out)
  short-untouched out short =
      let e = lt-leb (length (printed text)) (length out) short in
      (bytes-are (length out) e, ap (λ (t : Bool). cond t (printed text ++ drop (length (printed text)) out) out) e)

  pub every-text-is-answered : ((answered text out_room).bytes ≡ length (printed text)) × ((answered text out_room).number ≡ 7 → ⊥)
  every-text-is-answered =
      (bytes-are out_room (le-leb _ out_room printed-most), λ is. omega (arith, printed-most, ((seven-exactly out_room).0 is).1))

  pub prints : Prints text
  prints =
      record {
        either = by-report (λ w. inl ((answering-answered text).0 (given w))) (λ cause e. inr (cause, (answering-refused text).0 e));
        planned = λ none. let r = (answering-answered text).1 none in best-printed (planned-by r.0 r.1);
        refused = λ cause first. refused-line cause ((answering-refused text).1 first);
        whole =
            λ out long.
            let w = fitting-written out (omega (arith, printed-most, long)) in
            rw (w.0, w.1) (take-append_seam (printed text) (drop (length (printed text)) out));
      }
    where
      given : (w : Planned) → (r : Report) × (report_on text ≡ Ok r)
      given w = (record { count = length w.schedule; profit = w.profit; outcomes = outcomes_of unit prices }, rw (w.passed, w.is) refl)

-- ---- a text longer than a text may be, whatever follows it

form-short : (text : List ℕ) → most_bytes < length text → form_kept text ≡ false
unfolding form_kept
form-short text long = rw (lt-leb (length text) most_bytes long)

pub longer-refused : (text more : List ℕ) → most_bytes < length text
    → FirstOf (answering_causes text) Form × FirstOf (answering_causes (text ++ more)) Form
longer-refused text more long = (too_long text long, too_long (text ++ more) (omega (arith, long, length-append text more)))
  where
    too_long : (text : List ℕ) → most_bytes < length text → FirstOf (answering_causes text) Form
    too_long text long = inl (refl, form-short text long)

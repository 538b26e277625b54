-- What is printed and answered, by what was found of a case and reported.
use Rattle.std.specs.Prelude.{Err, None, Ok, Some}
use Rattle.std.specs.Result.{result_unwrap_or}
use mathlib.Core.Path.{◌≡◌, refl, sym, ap, ◌∙◌}
use mathlib.Core.Bool.{true}
use mathlib.Core.List.{List}
use Prim.Native.Nat.{ℕ, ◌≤◌}
use native.Mathlib.Omega.{arith}
use borrow.Author.Tests.{lt-ltb}
use lib.Dec.{leb}
use lib.IntN.{ℤ}
use lib.ListN.{length, take}
use Rattle.commitment.specs.Types.{Checked}
use Rattle.commitment.specs.declared.Outcomes.{Outcomes}
use Rattle.commitment.specs.Types.{Permit}
use Rattle.commitment.specs.declared.UnitRecord.{UnitRecord}
use Rattle.commitment.specs.Best.{Plan, best}
use Rattle.commitment.specs.Ranges.{permit_kept}
use Rattle.commitment.proofs.Causes.{then-passed}
use Rattle.commitment.proofs.Ranges.{in-range, window-ranges}
use Rattle.calendar.specs.Words.{past_words}
use Rattle.commitment.specs.Valuing.{outcomes_of}
use Rattle.casefile.specs.Reading.{unit_in, prices_in}
use Rattle.listing.specs.Types.{Written}
use Rattle.listing.specs.Listing.{fitted, written_by, bytes_in, buffer_after, word_kept}
use Rattle.listing.proofs.Fitting.{bytes_fit}
use Rattle.planner.specs.declared.Report.{Report}
use Rattle.planner.specs.Types.{Reported}
use Rattle.planner.specs.Planning.{planned_by, planned_count, planned_part, schedule_after, lent_checked, schedule_checked, plan_checked}
use Rattle.planner.specs.Reporting.{reported_by, plan_in}
use Rattle.planner.proofs.Answering.{plan-in, part-is}
use Rattle.planner.proofs.Lent.{lent, plan-turn}
use Rattle.answers.specs.declared.Answered.{Answered}
use Rattle.answers.specs.Answering.{word_of, report_for, report_printed, printed_for, answered_by, answered_for, all_found, report_on, answered}

pub answered-as : {number n bytes b : ℕ} → number ≡ n → bytes ≡ b
    → ◌≡◌ {A = Answered} (record { number = number; bytes = bytes }) (record { number = n; bytes = b })
answered-as e i = rw (e, i)

pub bytes-are : (w : Written) → result_unwrap_or w 0 ≡ bytes_in w
bytes-are (Ok bytes) = refl
bytes-are (Err cause) = refl

module _ (found : Checked) (u : UnitRecord) (prices : List ℤ) where
  abbrev part : List ℕ
  part = planned_part found (best u prices)

  -- what a report prints and says, into any buffer
  module _ (out : List ℕ) (answer : Reported) (e : report_for found u prices ≡ answer) where
    abbrev pub Wrote : Answered → List ℕ → Type 0
    Wrote r after = (r ≡ answered_for found u prices (length out)) × (after ≡ buffer_after (printed_for found u prices) out)

    pub wrote : {lines after : List ℕ} {r : Answered} → lines ≡ report_printed (word_of u.permit) answer part
        → (r ≡ answered_by answer (written_by (fitted (length lines) (length out)))) × (after ≡ buffer_after lines out) → Wrote r after
    wrote same w =
        let lines = same ∙ ap (λ (a : Reported). report_printed (word_of u.permit) a part) (sym e) in
        (w.0 ∙ rw (e, sym same), w.1 ∙ ap (λ (text : List ℕ). buffer_after text out) lines)

  -- the part that a report counts is the plan
  pub part-counted : (was : List ℕ) (r : Report) → report_for found u prices ≡ Ok r
      → take r.count (schedule_after found (best u prices) was) ≡ part
  part-counted was r e =
      let plan = sym (plan-in found (best u prices) (outcomes_of u prices)) in
      let count : planned_count (planned_by found (best u prices)) ≡ r.count =
      ap planned_count plan ∙ ap (λ (a : Reported). planned_count (plan_in a)) e in
      ap (λ (n : ℕ). take n (schedule_after found (best u prices) was)) (sym count) ∙ part-is found (best u prices) was

-- ---- the hour word of a case that has a report is in its range

kept_word : (permit : Permit) → permit_kept permit ≡ true → word_kept (word_of permit) ≡ true
kept_word None e = refl
kept_word (Some w) e = lt-ltb w.word past_words (omega (arith, (window-ranges w e).word-most))

report-passed : (found : Checked) (b : Plan) (o : Outcomes) (r : Report) → reported_by found b o ≡ Ok r → found ≡ Ok tt
report-passed (Ok _) b o r e = refl
report-passed (Err cause) b o r e = let z : ◌≡◌ {A = ℕ} 0 1 = cc in absurd (omega arith)

pub word_kept_lem : (u : UnitRecord) (prices : List ℤ) (cells entries : ℕ) (r : Report)
    → report_for (plan_checked u prices cells entries) u prices ≡ Ok r → word_kept (word_of u.permit) ≡ true
word_kept_lem u prices cells entries r e =
    let long = leb (length prices) entries in
    let passed = report-passed (plan_checked u prices cells entries) (best u prices) (outcomes_of u prices) r e in
    let before = then-passed (lent_checked u prices long cells) (schedule_checked u prices) (sym (plan-turn u prices cells entries) ∙ passed) in
    kept_word u.permit (in-range u (lent u prices long cells before.0).case.order.ranges).permit

-- the bytes of an answer are in the buffer
bytes-by : (answer : Reported) (w : Written) (room : ℕ) → bytes_in w ≤ room → (answered_by answer w).bytes ≤ room
bytes-by (Ok r) w room h = h
bytes-by (Err cause) w room h = h

pub answered-fits : (text : List ℕ) (room : ℕ) → (answered text room).bytes ≤ room
unfolding answered
answered-fits text room =
    let lines = length (printed_for (all_found text) (unit_in text) (prices_in text)) in
    bytes-by (report_on text) (written_by (fitted lines room)) room (bytes_fit lines room)

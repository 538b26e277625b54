-- The first cause of a text, by the tests in order; and what the answer and the slice then are.
use Rattle.std.specs.Prelude.{Err, Ok}
use mathlib.Core.Path.{◌≡◌, refl, sym, ap, ap₂, ◌∙◌}
use mathlib.Core.Bool.{true, false}
use mathlib.Core.List.{List, ◌++◌}
use Prim.Native.Nat.{ℕ, ◌≤◌, ◌<◌}
use native.Mathlib.Omega.{arith}
use lib.Dec.{leb}
use lib.IntN.{ℤ}
use lib.ListN.{length, take, drop}
use lib.Seq.{take-append_seam}
use borrow.Author.Tests.{le-leb, lt-leb, leb-true}
use Rattle.commitment.specs.declared.Cause.{Cause}
use Rattle.commitment.specs.declared.Cause.TheVariants.{Form, Name, Length}
use Rattle.commitment.specs.Types.{Checked}
use Rattle.commitment.specs.declared.UnitRecord.{UnitRecord}
use Rattle.commitment.specs.Ranges.{prices_kept, case_checked}
use Rattle.commitment.specs.Causes.{first_of}
use Rattle.commitment.proofs.Causes.{checked_then, in-turn, unless-passed, then-passed}
use Rattle.casefile.specs.declared.Case.{Case}
use Rattle.casefile.specs.Types.{CaseRead, case_with}
use Rattle.casefile.specs.Answers.{read_by, prices_left, front_part, case_found, read_case, read_prices, read_part, read_count}
use Rattle.casetext.specs.Form.{form_kept, names_kept}
use Rattle.casefile.specs.Reading.{unit_in, prices_in, case_in, written_checks, room_checks, written_checked, text_checked}

-- ---- 1, 2, and those of the case

module _ (text : List ℕ) where
  abbrev held : Checked → CaseRead
  held k = read_by k (unit_in text) (length (prices_in text))

  pub wrong-form : form_kept text ≡ false → Err Form ≡ case_found text
  unfolding case_found written_checked
  wrong-form f = rw f

  pub wrong-names : form_kept text ≡ true → names_kept text ≡ false → Err Name ≡ case_found text
  unfolding case_found written_checked
  wrong-names f n = rw (f, n)

  pub case-decides : form_kept text ≡ true → names_kept text ≡ true → case_in text ≡ written_checked text
  unfolding case_in case_checked written_checked
  case-decides f n = rw (f, n)

  pub case-found : form_kept text ≡ true → names_kept text ≡ true → held (case_in text) ≡ case_found text
  unfolding case_found
  case-found f n = ap held (case-decides f n)

  -- ---- a text in which no cause is found

  pub record WrittenPassed : Type 0 where
    pub form : form_kept text ≡ true
    pub names : names_kept text ≡ true
    pub checks : case_checked (unit_in text) (prices_kept (prices_in text)) (length (prices_in text)) ≡ Ok tt

  pub written-passed : written_checked text ≡ Ok tt → WrittenPassed
  unfolding written_checked case_in
  written-passed e =
      let f = unless-passed (form_kept text) Form _ e in
      let n = unless-passed (names_kept text) Name _ f.1 in
      record { form = f.0; names = n.0; checks = case-decides f.0 n.0 ∙ e }

-- ---- then 7

module _ (text : List ℕ) (room : ℕ) where
  pub text_in-turn : text_checked text room ≡ checked_then (written_checked text) (first_of (room_checks text room))
  unfolding text_checked written_checked
  text_in-turn = in-turn (written_checks text) (room_checks text room)

  -- ---- a text that is not refused

  pub record TextPassed : Type 0 where
    pub written : WrittenPassed text
    pub fits : length (prices_in text) ≤ room

  pub text-passed : text_checked text room ≡ Ok tt → TextPassed
  text-passed e =
      let t = then-passed (written_checked text) (first_of (room_checks text room)) (sym text_in-turn ∙ e) in
      let r = unless-passed (leb (length (prices_in text)) room) Length (Ok tt) t.1 in
      record { written = written-passed text t.0; fits = leb-true (length (prices_in text)) room r.0 }

-- ---- the answer and the slice

-- a case is read where no cause was found
pub read-case : (k : Checked) (u v : UnitRecord) (m n : ℕ) → read_by k u m ≡ case_with v n → (k ≡ Ok tt) × (u ≡ v) × (m ≡ n)
read-case (Ok _) u v m n e =
    let same : ◌≡◌ {A = Case} (record { unit = u; count = m }) (record { unit = v; count = n }) = cc in
    (refl, ap (λ (case : Case). case.unit) same, ap (λ (case : Case). case.count) same)
read-case (Err cause) u v m n e = let z : ◌≡◌ {A = ℕ} 0 1 = cc in absurd (omega arith)

-- and a refusal has the cause that was
pub read-refused : (k : Checked) (u : UnitRecord) (m : ℕ) (cause : Cause) → read_by k u m ≡ Err cause → k ≡ Err cause
read-refused (Ok _) u m cause e = let z : ◌≡◌ {A = ℕ} 0 1 = cc in absurd (omega arith)
read-refused (Err given) u m cause e = let same : given ≡ cause = cc in ap Err same

module _ (text : List ℕ) (slice : List ℤ) where
  abbrev pub Answer : CaseRead → List ℤ → Type 0
  Answer r left = (r ≡ read_case text (length slice)) × (left ≡ read_prices text slice)

  answer-by : (k : Checked) → text_checked text (length slice) ≡ k
      → Answer (read_by k (unit_in text) (length (prices_in text))) (prices_left k (prices_in text) slice)
  unfolding read_case read_prices
  answer-by k e = (rw e, rw e)

  pub answer-read : text_checked text (length slice) ≡ Ok tt
      → Answer (case_with (unit_in text) (length (prices_in text))) (prices_in text ++ drop (length (prices_in text)) slice)
  answer-read e = answer-by (Ok tt) e

  -- by what was found of the text, and the room
  then-room : {k : Checked} → written_checked text ≡ k → text_checked text (length slice) ≡ checked_then k (first_of (room_checks text (length slice)))
  then-room e = text_in-turn text (length slice) ∙ ap (λ (k : Checked). checked_then k (first_of (room_checks text (length slice)))) e

  pub found-refused : (cause : Cause) → case_found text ≡ Err cause → Answer (Err cause) slice
  unfolding case_found
  found-refused cause e = answer-by (Err cause) (then-room (read-refused (written_checked text) (unit_in text) (length (prices_in text)) cause e))

  pub record Held (unit : UnitRecord) (count : ℕ) : Type 0 where
    pub unit-is : unit ≡ unit_in text
    pub count-is : count ≡ length (prices_in text)
    pub checked-is : text_checked text (length slice) ≡ first_of (room_checks text (length slice))

  pub held-is : (unit : UnitRecord) (count : ℕ) → case_found text ≡ case_with unit count → Held unit count
  unfolding case_found
  held-is unit count e =
      let k = read-case (written_checked text) (unit_in text) unit (length (prices_in text)) count e in
      record { unit-is = sym k.1; count-is = sym k.2; checked-is = then-room k.0 }

  module _ {unit : UnitRecord} {count : ℕ} (h : Held unit count) where
    pub no_room : length slice < count → Answer (Err Length) slice
    no_room short =
        answer-by (Err Length) (h.checked-is ∙ simp (lt-leb (length (prices_in text)) (length slice) (omega (arith, h.count-is))))

    pub room : count ≤ length slice → Answer (case_with unit count) (prices_in text ++ drop (length (prices_in text)) slice)
    room fits =
        let e = answer-by (Ok tt) (h.checked-is ∙ simp (le-leb (length (prices_in text)) (length slice) (omega (arith, h.count-is)))) in
        (ap₂ case_with h.unit-is h.count-is ∙ e.0, e.1)

-- ---- the front part of the slice

module _ (text : List ℕ) (slice : List ℤ) where
  pub part-fits : read_count (read_case text (length slice)) ≤ length slice
  unfolding read_case
  part-fits = go (text_checked text (length slice)) refl
    where
      go : (k : Checked) → text_checked text (length slice) ≡ k → read_count (read_by k (unit_in text) (length (prices_in text))) ≤ length slice
      go (Ok _) e = (text-passed text (length slice) e).fits
      go (Err cause) e = omega arith

  pub part-read : take (read_count (read_case text (length slice))) (read_prices text slice) ≡ read_part text (length slice)
  unfolding read_case read_prices read_part
  part-read = go (text_checked text (length slice))
    where
      go : (k : Checked) → take (read_count (read_by k (unit_in text) (length (prices_in text)))) (prices_left k (prices_in text) slice) ≡ front_part k (prices_in text)
      go (Ok _) = take-append_seam (prices_in text) (drop (length (prices_in text)) slice)
      go (Err cause) = refl

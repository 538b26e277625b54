-- What is found of a text and by the work, in turn, by what reading it answers.
use Rattle.std.specs.Prelude.{Err, Ok}
use mathlib.Core.Path.{◌≡◌, refl, sym, ap, ap₂, ◌∙◌}
use mathlib.Core.Bool.{Bool, true, false}
use mathlib.Core.List.{List, ◌∷◌}
use Prim.Native.Nat.{ℕ, ◌≤◌}
use native.Mathlib.Omega.{arith}
use borrow.Author.Tests.{le-leb, leb-true}
use lib.Dec.{leb}
use lib.IntN.{ℤ}
use lib.ListN.{length, take, drop}
use lib.Seq.{take-append_seam}
use Rattle.commitment.specs.declared.Cause.{Cause}
use Rattle.commitment.specs.declared.Cause.TheVariants.{Length, Scratch}
use Rattle.commitment.specs.Types.{Checked}
use Rattle.commitment.specs.declared.UnitRecord.{UnitRecord}
use Rattle.commitment.specs.Causes.{◌else◌, unless, first_of}
use Rattle.commitment.specs.Cells.{cells_needed}
use Rattle.commitment.specs.Ranges.{prices_kept}
use Rattle.commitment.proofs.Causes.{checked_then, in-turn, then-passed}
use Rattle.commitment.proofs.Passing.{Passing, passing}
use Rattle.casefile.specs.Answers.{read_case, read_prices}
use Rattle.casefile.specs.Reading.{unit_in, prices_in, written_checks, room_checks, written_checked, text_checked}
use Rattle.casefile.proofs.Checking.{WrittenPassed, written-passed, text_in-turn, read-case, read-refused, answer-read}
use Rattle.planner.specs.Planning.{lent_checked, schedule_checks, schedule_checked, plan_checked}
use Rattle.planner.proofs.Lent.{lent-turn, plan-turn}
use Rattle.answers.specs.Answering.{all_found}
use Rattle.answers.specs.Sizes.{price_room, cell_room}
use Rattle.casefile.specs.Types.{case_with}

module _ (text : List ℕ) where
  abbrev unit : UnitRecord
  unit = unit_in text

  abbrev prices : List ℤ
  prices = prices_in text

  abbrev count : ℕ
  count = length (prices_in text)

  -- 8 and 9
  abbrev worked : Checked
  worked = first_of ((leb (cells_needed unit count) cell_room else Scratch) ∷ schedule_checks unit prices)

  all-in-turn : all_found text ≡ checked_then (written_checked text) worked
  unfolding all_found written_checked
  all-in-turn = in-turn (written_checks text) ((leb (cells_needed unit count) cell_room else Scratch) ∷ schedule_checks unit prices)

  all-by : {k : Checked} → written_checked text ≡ k → all_found text ≡ checked_then k worked
  all-by e = all-in-turn ∙ ap (λ (k : Checked). checked_then k worked) e

  -- ---- the prices of a text in which no cause was found fit, so that reading gives no 7

  written-passing : written_checked text ≡ Ok tt → Passing unit (prices_kept prices) count
  written-passing e = passing unit (prices_kept prices) count (written-passed text e).checks

  room_for : written_checked text ≡ Ok tt → leb count price_room ≡ true
  room_for e = le-leb count price_room (omega (arith, (written-passing e).order.checked))

  turn : {k : Checked} → written_checked text ≡ k → text_checked text price_room ≡ checked_then k (first_of (room_checks text price_room))
  turn e = text_in-turn text price_room ∙ ap (λ (k : Checked). checked_then k (first_of (room_checks text price_room))) e

  read_is : text_checked text price_room ≡ written_checked text
  read_is = by (written_checked text) refl
    where
      by : (k : Checked) → written_checked text ≡ k → text_checked text price_room ≡ written_checked text
      by (Ok _) e = turn e ∙ ap (λ (t : Bool). unless t Length (Ok tt)) (room_for e) ∙ sym e
      by (Err cause) e = turn e ∙ sym e

  -- a text whose plan is printed has no cause
  pub all-passed : all_found text ≡ Ok tt → WrittenPassed text
  all-passed e = written-passed text (then-passed (written_checked text) worked (sym all-in-turn ∙ e)).0

  -- ---- planning with the program's cells finds what is found of the text, with any schedule slice that is long enough

  pub planned-in-room : written_checked text ≡ Ok tt → (entries : ℕ) → count ≤ entries → plan_checked unit prices cell_room entries ≡ all_found text
  planned-in-room e entries long =
      let lent : lent_checked unit prices (leb count entries) cell_room ≡ unless (leb (cells_needed unit count) cell_room) Scratch (Ok tt) =
      lent-turn unit prices (leb count entries) cell_room ∙ rw ((written-passed text e).checks, le-leb count entries long) in
      plan-turn unit prices cell_room entries
      ∙ ap (λ (k : Checked). checked_then k (schedule_checked unit prices)) lent
      ∙ eight (leb (cells_needed unit count) cell_room)
      ∙ sym (all-by e)
    where
      eight : (t : Bool) → checked_then (unless t Scratch (Ok tt)) (schedule_checked unit prices) ≡ unless t Scratch (schedule_checked unit prices)
      eight true = refl
      eight false = refl

  -- ---- by what reading answers

  pub refused-is : (cause : Cause) → read_case text price_room ≡ Err cause → all_found text ≡ Err cause
  unfolding read_case
  refused-is cause e = all-by (sym read_is ∙ read-refused (text_checked text price_room) unit count cause e)

  pub record Read (u : UnitRecord) (n : ℕ) : Type 0 where
    pub unit-is : u ≡ unit_in text
    pub count-is : n ≡ length (prices_in text)
    pub fits : n ≤ price_room
    pub front : (slice : List ℤ) → length slice ≡ price_room → take n (read_prices text slice) ≡ prices_in text
    pub plan-is : plan_checked (unit_in text) (prices_in text) cell_room price_room ≡ all_found text

  pub read-is-planned : (u : UnitRecord) (n : ℕ) → read_case text price_room ≡ case_with u n → Read u n
  unfolding read_case
  read-is-planned u n e =
      let k = read-case (text_checked text price_room) unit u count n e in
      let passed = sym read_is ∙ k.0 in
      record {
        unit-is = sym k.1;
        count-is = sym k.2;
        fits = omega (arith, k.2, (written-passing passed).order.checked);
        front =
            λ slice long.
            ap₂ (λ (m : ℕ) (l : List ℤ). take m l) (sym k.2) (sym (answer-read text slice (ap (text_checked text) long ∙ k.0)).1)
            ∙ take-append_seam prices (drop count slice);
        plan-is = planned-in-room passed price_room (leb-true count price_room (room_for passed));
      }

-- The totals and the window first, then the intervals in the room that they leave.
use Rattle.std.specs.Prelude.{None, Some}
use Rattle.std.proofs.Common.{rules, ◌≡◌, sym, ap, ◌∙◌, ℕ, ◌+◌, ◌-◌, ◌≤◌, List, length, arith}
use borrow.Author.Tests.{lt-leb}
use lib.IntN.{ℤ}
use Rattle.commitment.specs.declared.Outcomes.{Outcomes}
use Rattle.integers.proofs.Ranges.{plain_fits}
use Rattle.listing.specs.Types.{Fit}
use Rattle.listing.specs.Types.{HourWord}
use Rattle.listing.specs.Listing.{interval_lines, profit_line, outcome_lines, window_line, listing, fitted}
use Rattle.listing.proofs.Fitting.{lengthened, fit-more}
use Rattle.listing.proofs.Lengths.{totals-short, window-short, listing-length}
use Rattle.listing.proofs.listing_fit.Goals as goal

-- the whole has the lines of the intervals, and what the totals and the window take
module _ (s : List ℕ) (p : ℤ) (o : Outcomes) (w : HourWord) {totals window : ℕ}
    (totals-are : totals ≡ 24 + (length (profit_line p) + length (outcome_lines o))) (window-is : window ≡ length (window_line w)) where
  parts : length (listing s p o w) ≡ length (interval_lines 1 s) + (totals + window)
  parts = omega (arith, listing-length s p o w)

  -- what the fit of the intervals makes of the whole
  whole : {room : ℕ} {lines : Fit} → totals + window ≤ room → lines ≡ fitted (length (interval_lines 1 s)) (room - (totals + window))
      → (r : Fit) → lines ≡ r → lengthened (totals + window) r ≡ fitted (length (listing s p o w)) room
  whole {room} {lines} fits is r e =
      sym
      (ap (λ (k : ℕ). fitted k room) parts
      ∙ fit-more (length (interval_lines 1 s)) (totals + window) room fits
      ∙ ap (lengthened (totals + window)) (sym is ∙ e))

pub overflow_add-totals : goal.overflow_add-totals
overflow_add-totals c =
    let totals-are = rw (plain_fits c.ranges.profit) at c.totals_length.ensures in
    omega (arith, totals-are, totals-short c.args.profit c.args.outcomes, window-short c.args.word)

pub returns-then-room-totals : goal.returns-then-room-totals
returns-then-room-totals c =
    let totals-are = rw (plain_fits c.ranges.profit) at c.totals_length.ensures in
    let all = parts c.args.schedule.now c.args.profit c.args.outcomes c.args.word totals-are c.window_length.ensures in
    simp (lt-leb (length (listing c.args.schedule.now c.args.profit c.args.outcomes c.args.word)) c.args.room (omega (arith, all)))

pub returns-in_err-bytes : goal.returns-in_err-bytes
returns-in_err-bytes c =
    let totals-are = rw (plain_fits c.ranges.profit) at c.totals_length.ensures in
    rw (sym (whole c.args.schedule.now c.args.profit c.args.outcomes c.args.word totals-are c.window_length.ensures
    c.if-room-totals.false c.intervals_fit.ensures None c.in_err-bytes.was)) (search rules)

pub returns : goal.returns
returns c =
    let totals-are = rw (plain_fits c.ranges.profit) at c.totals_length.ensures in
    whole c.args.schedule.now c.args.profit c.args.outcomes c.args.word totals-are c.window_length.ensures
    c.if-room-totals.false c.intervals_fit.ensures (Some c.in_ok-bytes.bytes) c.in_ok-bytes.was

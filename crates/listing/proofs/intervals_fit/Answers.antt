-- A number has at most 20 digits.
use Rattle.std.specs.Prelude.{List, ℕ, length, take, get_or, None, Some}
use Rattle.std.proofs.Common.{rules, ◌≡◌, ◌+◌, ◌≤◌, ◌<◌, sym, ap, ◌∙◌, arith}
use borrow.Author.Tests.{le-leb, lt-leb}
use lib.ListN.{length-append}
use lib.Seq.{take_all}
use Rattle.listing.specs.Numbers.{number}
use Rattle.listing.specs.Listing.{interval_line, interval_lines}
use Rattle.listing.proofs.Numbers.{number_short}
use Rattle.listing.proofs.Lengths.{line-length}
use Rattle.listing.proofs.Lines.{lines_next, lines-short}
use Rattle.listing.proofs.intervals_fit.Goals as goal

-- the bytes of the lines passed, and of one more
counted : (s : List ℕ) (i bytes a b : ℕ) → i < length s → bytes ≡ length (interval_lines 1 (take i s)) → a ≡ length (number (i + 1))
    → b ≡ length (number (get_or s i 0)) → bytes + (a + b + 2) ≡ length (interval_lines 1 (take (i + 1) s))
counted s i bytes a b h so first second =
    omega (
      arith,
      so,
      first,
      second,
      line-length (i + 1) (get_or s i 0),
      ap length (lines_next s i h),
      length-append (interval_lines 1 (take i s)) (interval_line (i + 1) (get_or s i 0)),
    )

pub overflow_sub-room : goal.overflow_sub-room
overflow_sub-room c = c.loop-i.invariant.1

pub returns-then-room-bytes : goal.returns-then-room-bytes
returns-then-room-bytes c =
    let s = c.args.schedule.now in
    let l = c.loop-i in
    let line = counted s l.i l.bytes _ _ c.loop-i-test.true l.invariant.0 c.number_length.ensures c.number_length-in-loop-i.ensures in
    let over : c.args.room < length (interval_lines 1 s) = omega (arith, line, l.invariant.1, c.if-room-bytes.true, lines-short s (l.i + 1)) in
    simp (lt-leb (length (interval_lines 1 s)) c.args.room over)

pub loop-i-preserved : goal.loop-i-preserved
loop-i-preserved c =
    let l = c.loop-i in (
      counted c.args.schedule.now l.i l.bytes _ _ c.loop-i-test.true l.invariant.0 c.number_length.ensures c.number_length-in-loop-i.ensures,
      omega (arith, l.invariant.1, c.if-room-bytes.false),
    )

pub returns : goal.returns
returns c =
    let s = c.args.schedule.now in
    let l = c.loop-i in
    let all = ap (λ (t : List ℕ). length (interval_lines 1 t)) (take_all l.i s c.loop-i-test.false) in
    let fits : length (interval_lines 1 s) ≤ c.args.room = omega (arith, all, l.invariant.0, l.invariant.1) in
    simp (le-leb (length (interval_lines 1 s)) c.args.room fits) (ap Some (l.invariant.0 ∙ all))

pub overflow_add-line : goal.overflow_add-line
overflow_add-line c =
    let a : c.number_length.result ≤ 20 = rw c.number_length.ensures (number_short (c.loop-i.i + 1)) in
    let b : c.number_length-in-loop-i.result ≤ 20 = rw c.number_length-in-loop-i.ensures (number_short (get_or c.args.schedule.now c.loop-i.i 0)) in
    search (rules, a, b)

pub overflow_add-line-in-loop-i : goal.overflow_add-line-in-loop-i
overflow_add-line-in-loop-i c =
    let a : c.number_length.result ≤ 20 = rw c.number_length.ensures (number_short (c.loop-i.i + 1)) in
    let b : c.number_length-in-loop-i.result ≤ 20 = rw c.number_length-in-loop-i.ensures (number_short (get_or c.args.schedule.now c.loop-i.i 0)) in
    search (rules, a, b)

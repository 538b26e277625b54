use Rattle.std.specs.Prelude.{List, ℕ, length, take, get_or}
use Rattle.std.proofs.Common.{◌≡◌, ◌+◌, ◌≤◌, ◌<◌, sym, ap, arith}
use lib.ListN.{length-append}
use lib.Seq.{take_all}
use Rattle.listing.specs.Listing.{interval_line, interval_lines}
use Rattle.listing.proofs.Lines.{lines_next, lines-short}
use Rattle.listing.proofs.Writing.{put-none, put_then, put_as}
use Rattle.listing.proofs.put_intervals.Goals as goal

-- room for the lines so far, and for the next
line-room : (s : List ℕ) (at room i : ℕ) → at + length (interval_lines 1 s) ≤ room → i < length s
    → at + length (interval_lines 1 (take i s)) + length (interval_line (i + 1) (get_or s i 0)) ≤ room
line-room s at room i fits h =
    let line = length-append (interval_lines 1 (take i s)) (interval_line (i + 1) (get_or s i 0)) in
    omega (arith, fits, line, lines-short s (i + 1), ap length (lines_next s i h))

pub loop-i-init : goal.loop-i-init
loop-i-init c = put-none c.args.out.now c.args.at

pub put_interval-place-requires : goal.put_interval-place-requires
put_interval-place-requires c =
    let l = c.loop-i in
    let fits = line-room c.args.schedule.now c.args.at (length c.args.out.now) l.i c.requires c.loop-i-test.true in
    omega (arith, fits, l.invariant.place, l.auto.out)

pub loop-i-preserved : goal.loop-i-preserved
loop-i-preserved c =
    let l = c.loop-i in
    let s = c.args.schedule.now in
    let fits = line-room s c.args.at (length c.args.out.now) l.i c.requires c.loop-i-test.true in
    put_as (sym (lines_next s l.i c.loop-i-test.true)) (put_then fits l.invariant c.put_interval-place.ensures)

pub returns : goal.returns
returns c = put_as (ap (interval_lines 1) (take_all c.loop-i.i c.args.schedule.now c.loop-i-test.false)) c.loop-i.invariant

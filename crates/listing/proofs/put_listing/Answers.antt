-- Heading, intervals, heading, profit, outcomes, window: six texts, one after the other.
use Rattle.std.proofs.Common.{ap, ◌++◌, arith}
use lib.ListN.{length-append}
use Rattle.integers.proofs.Ranges.{plain_fits}
use Rattle.listing.specs.Listing.{value_heading, interval_lines, profit_line, outcome_lines, window_line, listing}
use Rattle.listing.proofs.Lengths.{listing-length}
use Rattle.listing.proofs.Writing.{put_then, put_as}
use Rattle.listing.proofs.put_listing.Goals as goal

pub put_text-intervals-requires : goal.put_text-intervals-requires
put_text-intervals-requires c = omega (arith, listing-length c.args.schedule.now c.args.profit c.args.outcomes c.args.word)

pub put_intervals-heading-requires : goal.put_intervals-heading-requires
put_intervals-heading-requires c = omega (arith, listing-length c.args.schedule.now c.args.profit c.args.outcomes c.args.word)

pub put_text-value-requires : goal.put_text-value-requires
put_text-value-requires c = omega (arith, listing-length c.args.schedule.now c.args.profit c.args.outcomes c.args.word)

pub put_profit-lines-requires : goal.put_profit-lines-requires
put_profit-lines-requires c =
    rw (plain_fits c.ranges.profit) (omega (arith, listing-length c.args.schedule.now c.args.profit c.args.outcomes c.args.word))

pub put_outcomes-window-requires : goal.put_outcomes-window-requires
put_outcomes-window-requires c =
    let profit = rw (plain_fits c.ranges.profit) at c.put_profit-lines.ensures in
    omega (arith, listing-length c.args.schedule.now c.args.profit c.args.outcomes c.args.word, profit.place)

pub put_window-requires : goal.put_window-requires
put_window-requires c =
    let profit = rw (plain_fits c.ranges.profit) at c.put_profit-lines.ensures in
    (c.requires.0, omega (arith, listing-length c.args.schedule.now c.args.profit c.args.outcomes c.args.word, profit.place))

pub returns : goal.returns
unfolding listing
returns c =
    let whole = listing-length c.args.schedule.now c.args.profit c.args.outcomes c.args.word in
    let lines = interval_lines 1 c.args.schedule.now in
    let p = profit_line c.args.profit in
    let o = outcome_lines c.args.outcomes in
    let w = window_line c.args.word in
    let profit = put_as (ap profit_line (plain_fits c.ranges.profit)) c.put_profit-lines.ensures in
    let a4 = length-append o w in
    let a3 = length-append p (o ++ w) in
    let a2 = length-append value_heading (p ++ (o ++ w)) in
    let a1 = length-append lines (value_heading ++ (p ++ (o ++ w))) in
    (put_then (omega arith) c.put_text-intervals.ensures
    (put_then (omega arith) c.put_intervals-heading.ensures
    (put_then (omega arith) c.put_text-value.ensures
    (put_then (omega arith) profit
    (put_then (omega (arith, profit.place)) c.put_outcomes-window.ensures c.put_window.ensures))))).bytes

-- So many lines are done, and what lies past them is as it was.
use Rattle.std.proofs.Common.{◌≡◌, ◌+◌, map, ◌++◌, length, take, drop}
use Rattle.tabletext.specs.Pieces.{lines_of}
use Rattle.tabletext.specs.Places.{lines_left}
use Rattle.casefile.specs.Reading.{price_of}
use Rattle.casefile.proofs.pricing.store_rows.Given as goal

abbrev pub invariant-loop-at : goal.invariant-loop-at
invariant-loop-at l =
    let price = price_of l.head in
    let lines = lines_of l.rows in
    let left = lines_left l.at-iterator.iter in
    let at = l.at-iterator.count in
    record {
      count : length lines ≡ at + length left;
      done : map price lines ≡ take at l.prices ++ map price left;
      kept : drop at l.prices ≡ drop at l.fn.prices;
    }

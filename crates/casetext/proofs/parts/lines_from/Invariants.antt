-- So many lines are passed, and the others are left.
use Rattle.std.proofs.Common.{◌≡◌, drop}
use Rattle.tabletext.specs.Pieces.{lines_of}
use Rattle.tabletext.specs.Places.{lines_left}
use Rattle.casetext.proofs.parts.lines_from.Given as goal

abbrev pub invariant-loop : goal.invariant-loop
invariant-loop l = lines_left l.lines ≡ drop l.counter (lines_of l.text)

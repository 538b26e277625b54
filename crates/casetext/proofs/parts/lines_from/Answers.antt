-- `next` drops a line.
use Rattle.tabletext.specs.Pieces.{lines_of}
use Rattle.casetext.proofs.Ends.{next_drops}
use Rattle.casetext.proofs.parts.lines_from.Goals as goal

pub loop-preserved : goal.loop-preserved
loop-preserved c = next_drops c.loop.lines c.next.new.self c.next.result (lines_of c.args.text.now) c.loop.counter c.next.ensures.steps c.loop.invariant

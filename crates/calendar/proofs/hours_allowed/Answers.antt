-- The count of ones is that of the hours allowed.
use Rattle.std.proofs.Common.{arith}
use Rattle.calendar.proofs.Words.{ones-allowed}
use Rattle.calendar.proofs.hours_allowed.Goals as goal

pub returns : goal.returns
returns c = ones-allowed c.args.word (omega arith)

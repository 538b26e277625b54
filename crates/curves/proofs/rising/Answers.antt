use Rattle.std.proofs.Common.{rules}
use Rattle.curves.proofs.Ranges.{rises}
use Rattle.curves.proofs.rising.Goals as goal

pub returns : goal.returns
returns c = rises c.args.levels.now _ (search rules) (search rules)

-- Classes are compared by their numbers.
use Rattle.std.proofs.Common.{◌∙◌}
use Rattle.tabletext.specs.Bytes.{is_of}
use Rattle.tabletext.proofs.Classes.{same_rank}
use Rattle.tabletext.proofs.bytes.is_of.Goals as goal

pub returns : goal.returns
unfolding is_of
returns c = rw (← c.class_of.ensures) (c.eq.ensures ∙ same_rank c.class_of.result c.args.class)

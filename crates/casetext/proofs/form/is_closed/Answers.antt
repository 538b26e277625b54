-- The last byte is tested.
use Rattle.std.proofs.Common.{rules}
use Rattle.casetext.proofs.Ends.{closed_by}
use Rattle.casetext.proofs.form.is_closed.Goals as goal

pub returns : goal.returns
returns c = closed_by c.args.text.now c.is_some_and.result c.last.result c.last.ensures.value c.is_some_and.ensures (λ x h. search rules)

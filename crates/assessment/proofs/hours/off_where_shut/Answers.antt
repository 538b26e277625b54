use Rattle.std.proofs.Common.{◌≡◌, ◌+◌, Bool, sym, ap, ◌∙◌}
use mathlib.Core.Bool.{◌&&◌}
use borrow.Author.Tests.{not-true, not-false}
use lib.ListN.{drop}
use Rattle.commitment.specs.Keeping.{off_where_shut}
use Rattle.commitment.specs.Windows.{opens}
use Rattle.assessment.proofs.Shut.{shut-next, shut-end}
use Rattle.assessment.proofs.hours.off_where_shut.Goals as goal

pub returns-then-not-may_have : goal.returns-then-not-may_have
returns-then-not-may_have c =
    let i = c.loop-i.i in
    let s = c.args.schedule.now in
    let opens = opens c.args.hours in
    ap (λ (t : Bool). t && off_where_shut opens (i + 1) (drop (i + 1) s)) (sym (not-true c.may_have.result c.if-not-may_have.true-raw) ∙ c.may_have.ensures)
    ∙ sym (shut-next opens s i c.loop-i-test.true)
    ∙ c.loop-i.invariant

pub loop-i-preserved : goal.loop-i-preserved
loop-i-preserved c =
    let i = c.loop-i.i in
    let s = c.args.schedule.now in
    let opens = opens c.args.hours in
    ap (λ (t : Bool). t && off_where_shut opens (i + 1) (drop (i + 1) s)) (sym (not-false c.may_have.result c.if-not-may_have.false-raw) ∙ c.may_have.ensures)
    ∙ sym (shut-next opens s i c.loop-i-test.true)
    ∙ c.loop-i.invariant

pub returns : goal.returns
returns c = sym (shut-end (opens c.args.hours) c.args.schedule.now c.loop-i.i c.loop-i-test.false) ∙ c.loop-i.invariant

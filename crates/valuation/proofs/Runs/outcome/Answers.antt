-- A limitation in its range is small enough to be lowered.
use Rattle.std.proofs.Common.{sym, ap, ◌∙◌}
use borrow.Author.Tests.{leb-true}
use Rattle.commitment.specs.Bounds.{most_mwh}
use Rattle.commitment.specs.Limits.{limit_kept}
use Rattle.commitment.proofs.Ranges.{limit-small}
use Rattle.valuation.proofs.Runs.outcome.Goals as goal

pub lowered-requires : goal.lowered-requires
lowered-requires c =
    let r = c.args.self.now in
    let small = limit-small r.unit r.told.0.order.ranges c.args.which in
    leb-true c.in-Some.figure most_mwh (sym (ap (limit_kept most_mwh) (sym c.limit_for.ensures ∙ c.in-Some.is)) ∙ small)

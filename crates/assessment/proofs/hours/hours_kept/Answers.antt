-- The hours over the schedule are those of the permit.
use Rattle.std.proofs.Common.{◌∙◌, ◌+◌, arith}
use Rattle.commitment.specs.Keeping.{opens_in}
use Rattle.commitment.specs.Windows.{opens}
use Rattle.commitment.proofs.Ranges.{in-range}
use Rattle.assessment.proofs.Shut.{shut-same}
use Rattle.assessment.proofs.hours.hours_kept.Goals as goal

pub hours_of-requires : goal.hours_of-requires
hours_of-requires c = ((in-range c.args.unit c.requires.ranges).permit, c.requires.dated)

pub returns : goal.returns
returns c =
    c.off_where_shut.ensures
    ∙ shut-same (opens c.hours_of.result) (opens_in c.args.unit.permit) 0 c.args.schedule.now
    (λ t k. c.hours_of.ensures.same (0 + t) (omega (arith, c.requires.short)))

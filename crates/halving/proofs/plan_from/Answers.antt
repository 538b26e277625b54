use Rattle.std.proofs.Common.{ap, ◌∙◌, ◌++◌, List, length, drop, arith}
use Rattle.commitment.specs.Best.{schedule_of}
use Rattle.commitment.specs.Tries.{tries_over}
use Rattle.optimality.specs.Machine.{Quarter, anywhere}
use Rattle.optimality.specs.Cells.{plan_at}
use Rattle.intervals.proofs.Stretches.{same_from}
use Rattle.halving.proofs.Joining.{whole}
use Rattle.halving.proofs.plan_from.Goals as goal

pub halves-requires : goal.halves-requires
halves-requires c =
    let a = c.args in
    let k = c.requires.case_asked.0 in
    record {
      given =
          record {
            asked = k.asked;
            here = c.requires.case_asked.2;
            some = rw (whole a.f a.prices.now a.hours) c.requires.fact;
            long = c.requires.in_bounds.1;
          };
      apart = omega (arith, c.requires.in_bounds.0);
      wide = k.wide;
      two = omega arith;
      fits = k.fits;
      marked = c.requires.case_asked.1.marked;
    }

pub returns-clause-value : goal.returns-clause-value
returns-clause-value c =
    let a = c.args in
    c.halves.ensures.solved.tried
    ∙ ap (λ (qs : List Quarter). tries_over a.f.block a.f.pmin (schedule_of (plan_at a.f anywhere qs a.from))) (whole a.f a.prices.now a.hours)

pub returns-clause-schedule_after : goal.returns-clause-schedule_after
returns-clause-schedule_after c =
    let a = c.args in
    c.halves.ensures.solved.written
    ∙ ap (λ (qs : List Quarter). schedule_of (plan_at a.f anywhere qs a.from) ++ drop (length a.prices.now) a.schedule.now)
    (whole a.f a.prices.now a.hours)

pub returns-clause-beyond : goal.returns-clause-beyond
returns-clause-beyond c = same_from c.args.cells.now c.halves.new.cells _ c.halves.auto.cells c.halves.ensures.untouched

use Rattle.intervals.proofs.Stretches.{same_from}
use Rattle.halving.proofs.Joining.{first-layer}
use Rattle.halving.proofs.first_pass.Goals as goal

pub returns-clause-first_pass : goal.returns-clause-first_pass
returns-clause-first_pass c =
    let a = c.args in
    record { layer = first-layer a.f a.prices.now a.hours a.w c.pass.new.cells c.pass.ensures.marked; marked = c.pass.ensures.marked }

pub returns-clause-beyond : goal.returns-clause-beyond
returns-clause-beyond c = same_from c.args.cells.now c.pass.new.cells _ c.pass.auto.cells c.pass.ensures.beyond

use Rattle.std.proofs.Common.{arith}
use Rattle.months.proofs.Rounds.{round-asked, round-next}
use Rattle.months.proofs.ends.all_ends.Goals as goal

pub one_end-requires : goal.one_end-requires
one_end-requires c =
    let a = c.args in
    round-asked a.f a.prices.now a.hours a.m a.at a.cells.now c.requires c.loop-t.cells c.loop-t.t c.loop-t.invariant (omega arith)

pub loop-t-preserved : goal.loop-t-preserved
loop-t-preserved c =
    let a = c.args in
    round-next a.f a.prices.now a.hours a.m a.at a.cells.now c.requires c.loop-t.cells c.loop-t.t c.loop-t.invariant c.one_end.new.cells c.one_end.ensures

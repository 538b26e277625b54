use Rattle.std.proofs.Common.{◌≡◌, ◌+◌, arith}
use Rattle.months.specs.Ending.{Brought, InSection}
use Rattle.months.proofs.Bringing.{span-next}
use Rattle.months.proofs.ends.raise_by.Goals as goal
use Rattle.months.proofs.ends.raise_by.Goals.{After-raise_span}

-- a span more
next : (c : After-raise_span) → Brought c.args.f c.args.at c.args.w (InSection c.args.w (c.loop-x.x + 1)) c.args.cells.now c.raise_span.new.cells
next c =
    let a = c.args in
    span-next a.f a.at a.w a.cells.now c.requires c.loop-x.x c.loop-x.cells c.raise_span.new.cells (omega arith) c.loop-x.invariant c.raise_span.ensures

pub loop-x-preserved : goal.loop-x-preserved
loop-x-preserved c = next (goal.at.loop-x-preserved c).After-raise_span

pub returns-2 : goal.returns-2
returns-2 c = let all : c.loop-x.x ≡ c.args.f.most.starts = omega arith in rw all at (next (goal.at.returns-2 c).After-raise_span)

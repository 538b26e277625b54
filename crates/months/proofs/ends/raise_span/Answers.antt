use Rattle.std.proofs.Common.{◌≡◌, ◌+◌, arith}
use Rattle.months.specs.Ending.{Brought, InSpan}
use Rattle.months.proofs.Bringing.{row_next}
use Rattle.months.proofs.ends.raise_span.Goals as goal
use Rattle.months.proofs.ends.raise_span.Goals.{After-raise_at}

-- a row more
next : (c : After-raise_at) → Brought c.args.f c.args.at c.args.w (InSpan c.args.w c.args.x (c.loop-y.y + 1)) c.args.cells.now c.raise_at.new.cells
next c =
    let a = c.args in
    row_next a.f a.at a.w a.cells.now c.requires.0 a.x c.loop-y.y c.loop-y.cells c.raise_at.new.cells (omega arith) c.loop-y.invariant c.raise_at.ensures

pub loop-y-preserved : goal.loop-y-preserved
loop-y-preserved c = next (goal.at.loop-y-preserved c).After-raise_at

pub returns-2 : goal.returns-2
returns-2 c = let all : c.loop-y.y ≡ c.args.f.most.ons = omega arith in rw all at (next (goal.at.returns-2 c).After-raise_at)

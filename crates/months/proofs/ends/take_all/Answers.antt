use Rattle.std.proofs.Common.{◌<◌, arith}
use Rattle.optimality.specs.Cells.{with_most}
use Rattle.geometry.specs.Geometry.{width}
use Rattle.months.proofs.Taking.{ways-asked, way-taken}
use Rattle.months.proofs.ends.take_all.Goals as goal
use Rattle.months.proofs.ends.take_all.Goals.{In-loop-j}

numbered : (c : In-loop-j) → c.loop-j.j < width (with_most c.args.f c.args.cap)
numbered c = rw (← c.with_most.ensures) (omega (arith, c.layer_cells-j-end.ensures))

pub take_one-requires : goal.take_one-requires
take_one-requires c =
    let a = c.args in
    (ways-asked a.f a.cap a.at a.to a.cells.now c.requires c.loop-j.j c.loop-j.cells c.loop-j.invariant, numbered (goal.at.take_one-requires c).In-loop-j)

pub loop-j-preserved : goal.loop-j-preserved
loop-j-preserved c =
    let a = c.args in
    way-taken a.f a.cap a.at a.to a.cells.now c.requires c.loop-j.j c.loop-j.cells c.loop-j.invariant (numbered (goal.at.loop-j-preserved c).In-loop-j)
    c.take_one.new.cells c.take_one.auto.cells c.take_one.ensures

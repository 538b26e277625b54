use Rattle.std.proofs.Common.{◌≡◌, ◌<◌, arith}
use Rattle.optimality.specs.Cells.{less, with_most}
use Rattle.geometry.specs.Geometry.{section}
use Rattle.months.proofs.Parts.{class-asked, part-made, month-made}
use Rattle.months.proofs.chains.before_month.Goals as goal
use Rattle.months.proofs.chains.before_month.Goals.{In-loop-j}

-- the number of the part
numbered : (c : In-loop-j) → c.loop-j.j < section (with_most c.args.f (less c.args.f.most c.args.m.cap))
numbered c = rw (← c.less.ensures, ← c.with_most-h.ensures) (omega (arith, c.section_cells-j-end.ensures))

pub one_class-requires : goal.one_class-requires
one_class-requires c =
    let a = c.args in
    rw (c.cell_of.ensures, c.with_most-h.ensures, c.less.ensures)
    (class-asked a.f a.prices.now a.hours a.m a.at a.cells.now c.requires c.loop-j.cells c.loop-j.j
    (numbered (goal.at.one_class-requires c).In-loop-j) (c.loop-j.invariant c.requires))

pub loop-j-preserved : goal.loop-j-preserved
loop-j-preserved c asked =
    let a = c.args in
    part-made a.f a.prices.now a.hours a.m a.at a.cells.now asked c.loop-j.cells c.loop-j.j (numbered (goal.at.loop-j-preserved c).In-loop-j)
    (c.loop-j.invariant asked) c.one_class.new.cells
    (rw (c.cell_of.ensures, c.with_most-h.ensures, c.less.ensures) at c.one_class.ensures)

pub returns : goal.returns
returns c =
    let a = c.args in
    let count : c.section_cells-j-end.result ≡ section (with_most a.f (less a.f.most a.m.cap)) =
    rw (← c.less.ensures, ← c.with_most-h.ensures) c.section_cells-j-end.ensures in
    let all : c.loop-j.j ≡ section (with_most a.f (less a.f.most a.m.cap)) = omega (arith, count) in
    month-made a.f a.prices.now a.hours a.m a.at a.cells.now c.requires c.loop-j.cells (rw all at (c.loop-j.invariant c.requires))

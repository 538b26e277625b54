use Rattle.optimality.specs.Cells.{with_most}
use Rattle.months.proofs.Raising.{numbered-there, raised-within}
use Rattle.months.proofs.boxes.high_cell.Goals as goal

pub raised-requires : goal.raised-requires
raised-requires c =
    let a = c.args in
    (c.requires.0.sound, rw (c.cell_of.ensures, c.with_most.ensures) (raised-within a.f a.cap a.above c.requires.0 _ (numbered-there (with_most a.f a.cap) a.i c.requires.1).0))

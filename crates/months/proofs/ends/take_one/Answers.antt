use Rattle.std.proofs.Common.{◌+◌, pos, get_or, rules, FitsSigned, w64}
use Rattle.integers.proofs.Ranges.{plain_fits}
use Rattle.months.proofs.Taking.{take-asked}
use Rattle.months.proofs.ends.take_one.Goals as goal

pub take-requires : goal.take-requires
take-requires c =
    let a = c.args in
    let fits : FitsSigned w64 (get_or a.cells.now (a.at.work + a.j) (pos 0)) = search rules in
    rw (c.told-earned.ensures, c.cell_of-from.ensures, c.with_most.ensures, plain_fits fits)
    (take-asked a.f a.cap a.at a.to a.cells.now c.requires.0 a.j c.requires.1)

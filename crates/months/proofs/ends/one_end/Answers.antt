use Rattle.months.proofs.Rounds.{take-all-asked, end-taken}
use Rattle.months.proofs.ends.one_end.Goals as goal

pub take_all-requires : goal.take_all-requires
take_all-requires c =
    let a = c.args in
    let laid = rw (c.layer_cells-w.ensures, c.with_most-g.ensures) at c.put_end.ensures in
    take-all-asked a.f a.prices.now a.hours a.m a.at a.t a.cells.now c.requires c.put_end.new.cells c.put_end.auto.cells
    laid.layer laid.apart c.roll_box.new.cells c.roll_box.auto.cells (rw c.with_most-g.ensures at c.roll_box.ensures)

pub returns : goal.returns
returns c =
    let a = c.args in
    let laid = rw (c.layer_cells-w.ensures, c.with_most-g.ensures) at c.put_end.ensures in
    end-taken a.f a.prices.now a.hours a.m a.at a.t a.cells.now c.requires c.put_end.new.cells c.put_end.auto.cells
    laid.layer laid.apart c.roll_box.new.cells c.roll_box.auto.cells (rw c.with_most-g.ensures at c.roll_box.ensures)
    c.take_all.new.cells c.take_all.ensures

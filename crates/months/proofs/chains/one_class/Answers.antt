use Rattle.months.proofs.Classes.{box-asked, class-made}
use Rattle.months.proofs.chains.one_class.Goals as goal

pub roll_box-requires : goal.roll_box-requires
roll_box-requires c =
    let a = c.args in
    rw c.with_most-g.ensures
    (box-asked a.f a.prices.now a.hours a.m a.at a.above a.cells.now c.requires c.enter.new.cells c.enter.auto.cells
    (rw (c.layer_cells.ensures, c.with_most-g.ensures) at c.enter.ensures))

pub returns : goal.returns
returns c =
    let a = c.args in
    class-made a.f a.prices.now a.hours a.m a.at a.above a.cells.now c.requires c.enter.new.cells c.enter.auto.cells
    (rw (c.layer_cells.ensures, c.with_most-g.ensures) at c.enter.ensures) c.roll_box.new.cells c.roll_box.auto.cells
    (rw c.with_most-g.ensures at c.roll_box.ensures) c.store.new.cells c.store.auto.cells c.store.ensures

use Rattle.months.proofs.Rounds.{rounds-asked, rounds-made}
use Rattle.months.proofs.ends.before_month_by_ends.Goals as goal

pub all_ends-requires : goal.all_ends-requires
all_ends-requires c =
    let a = c.args in
    let filled = rw c.layer_cells-w.ensures at c.put.ensures in
    let long = c.put.auto.scratch in
    rw filled (rounds-asked a.f a.prices.now a.hours a.m a.at a.cells.now c.requires (rw filled at long))

pub returns : goal.returns
returns c =
    let a = c.args in
    let filled = rw c.layer_cells-w.ensures at c.put.ensures in
    let long = c.put.auto.scratch in
    rounds-made a.f a.prices.now a.hours a.m a.at a.cells.now c.requires (rw filled at long) c.all_ends.new.cells (rw filled at c.all_ends.ensures)

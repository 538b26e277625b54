use Rattle.std.proofs.Common.{◌≤◌, length, arith}
use Rattle.lists.proofs.Fills.{tail-part, tail-back}
use Rattle.layers.specs.Filling.{quarters_in, between}
use Rattle.months.proofs.Rolling.{part-rolled}
use Rattle.months.proofs.chains.roll_box.Goals as goal

pub returns : goal.returns
returns c =
    let a = c.args in
    let fits : a.at ≤ length a.cells.now = omega (arith, c.requires.fits) in
    let part = c.roll.new.scratch in
    let made = rw (tail-part a.at a.cells.now, c.layer_cells-w.ensures) at c.roll.ensures in
    let long = rw (tail-part a.at a.cells.now) at c.roll.auto.scratch in
    rw (tail-back a.at a.cells.now part fits)
    (part-rolled a.g a.cells.now a.at fits part (between (quarters_in a.hours a.prices.now) a.m.from a.m.to) long made.rolled_by made.beyond)

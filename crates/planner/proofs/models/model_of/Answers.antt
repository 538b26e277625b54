-- Each part of the model, of a case that passed.
use Rattle.std.proofs.Common.{ℕ, true, ap}
use lib.Dec.{leb}
use Rattle.commitment.proofs.Passing.{prices-small}
use Rattle.planner.proofs.Lent.{lent, lent-sound, permitted}
use Rattle.planner.proofs.models.model_of.Goals as goal

pub layer_cells-width-requires : goal.layer_cells-width-requires
layer_cells-width-requires c =
    let a = c.args in
    lent-sound a.unit a.prices.now a.lent (lent a.unit a.prices.now true a.lent c.requires) c.figures_of-figures.result c.figures_of-figures.ensures

pub hours_of-requires : goal.hours_of-requires
hours_of-requires c = let a = c.args in permitted a.unit a.prices.now a.lent (lent a.unit a.prices.now true a.lent c.requires)

pub returns : goal.returns
returns c =
    let a = c.args in
    let p = lent a.unit a.prices.now true a.lent c.requires in
    record {
      order = p.case.order;
      some = p.case.some;
      priced = prices-small a.prices.now p.case.prices;
      needed = p.cells;
      figures = c.figures_of-figures.ensures;
      wide = c.layer_cells-width.ensures;
      opened = c.hours_of.ensures;
      long = ap (λ (n : ℕ). leb n a.lent) c.cells_long.ensures;
    }

pub figures_of-figures-requires : goal.figures_of-figures-requires
figures_of-figures-requires c = let a = c.args in (lent a.unit a.prices.now true a.lent c.requires).case.order

pub cells_long-requires : goal.cells_long-requires
cells_long-requires c = let a = c.args in (lent a.unit a.prices.now true a.lent c.requires).case.order

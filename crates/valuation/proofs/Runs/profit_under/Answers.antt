-- The opening cell under the limitations tells their best profit.
use Rattle.std.proofs.Common.{◌≡◌, ◌∙◌, length}
use mathlib.Core.Path.{ap₂}
use Rattle.optimality.specs.declared.Figures.{Figures}
use Rattle.optimality.specs.declared.Cell.{Cell}
use Rattle.optimality.proofs.Opening.{order-under}
use Rattle.geometry.specs.Layers.{told, in_front}
use Rattle.valuation.proofs.Telling.{sound, run_inside, run-told}
use Rattle.valuation.proofs.Runs.profit_under.Goals as goal

pub opening_cell-opening-requires : goal.opening_cell-opening-requires
opening_cell-opening-requires c =
    let r = c.args.self.now in
    rw c.under_limits-run.ensures (order-under r.unit (length r.prices.now) c.args.limits c.requires r.told.0.order)

pub best_at-requires : goal.best_at-requires
best_at-requires c =
    let r = c.args.self.now in
    let t = r.told.0 in
    let cell = rw c.under_limits-run.ensures at c.opening_cell-opening.ensures in
    rw (r.told.1, cell)
    (sound r.unit r.prices.now r.cells.now t, run_inside r.unit r.prices.now r.cells.now t c.args.limits c.requires, t.wide)

pub returns : goal.returns
returns c =
    let r = c.args.self.now in
    let cell = rw c.under_limits-run.ensures at c.opening_cell-opening.ensures in
    c.best_at.ensures
    ∙ ap₂ (λ (f : Figures) (x : Cell). told (in_front f r.cells.now x)) r.told.1 cell
    ∙ run-told r.unit r.prices.now r.cells.now r.told.0 c.args.limits c.requires

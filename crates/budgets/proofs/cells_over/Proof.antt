-- A table of the figures has the cells that the specification counts.
use mathlib.Core.Path.{ap, ◌∙◌}
use Prim.Native.Nat.{ℕ, ◌+◌, ◌*◌}
use Rattle.optimality.specs.declared.Figures.{Figures}
use Rattle.optimality.proofs.Opening.{figures-sound}
use Rattle.optimality.proofs.Ranges.{ranged}
use Rattle.geometry.specs.Geometry.{width}
use Rattle.geometry.proofs.Widths.{width_is}
use borrow.Author.Rules.{rules}
use Rattle.budgets.proofs.cells_over.Statement.{statement}
use Rattle.budgets.proofs.cells_over.Tie as tie

table-cells-requires : tie.Need-table_cells-requires
table-cells-requires c κs =
    let s = c.before in
    let u = s.args.unit in (
      rw c.figures_of.ensures (figures-sound u (ranged u s.requires.0.ranges s.requires.0.shape) s.args.n s.requires.0.short),
      s.requires.1,
      rw (c.figures_of.ensures, width_is u s.args.n) s.requires.2,
    )

returns : tie.Need-returns
returns c =
    let s = c.before.before in
    c.table_cells.ensures
    ∙ ap (λ (f : Figures). (s.args.intervals + 1) * width f) c.before.figures_of.ensures
    ∙ ap (λ (w : ℕ). (s.args.intervals + 1) * w) (width_is s.args.unit s.args.n)

pub cells_over_spec : {M : Type 1} → statement M
cells_over_spec = tie.close (tie.spec (λ c κs. search rules) table-cells-requires returns)

-- The places of the cells in a layer: by the state, then the starts left, then the on-intervals left, then the blocks left.
use Rattle.std.specs.Prelude.{ℕ, ◌+◌, ◌*◌, ◌/◌, ◌%◌}
use Rattle.optimality.specs.declared.Figures.{Figures}
use Rattle.optimality.specs.declared.Cell.{Cell}
use Rattle.optimality.specs.Cells.{cell, states}

-- the cells of one row (all blocks left), of one span (all on-intervals left), of one section (one state, all starts left), of one layer
unfoldable pub row : Figures → ℕ
row f = f.most.blocks + 1

unfoldable pub span : Figures → ℕ
span f = (f.most.ons + 1) * row f

unfoldable pub section : Figures → ℕ
section f = (f.most.starts + 1) * span f

unfoldable pub width : Figures → ℕ
width f = states f * section f

unfoldable pub index : Figures → Cell → ℕ
index f c = c.state * section f + (c.left.starts * span f + (c.left.ons * row f + c.left.blocks))

-- the cell at a place
unfoldable pub cell_of : Figures → ℕ → Cell
cell_of f i = cell (i / section f) (i % section f / span f) (i % section f % span f / row f) (i % section f % span f % row f)

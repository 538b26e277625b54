-- No row, span or section is empty.
use Prim.Native.Nat.{◌<◌}
use native.Mathlib.Omega.{arith}
use borrow.Author.Rules.{rules}
use Rattle.optimality.specs.declared.Figures.{Figures}
use Rattle.geometry.specs.Geometry.{row, span, section, cell_of}
use Rattle.geometry.proofs.Places.{in_row, in_span, in-section}
use Rattle.geometry.proofs.cell_of.Statement.{statement}
use Rattle.geometry.proofs.cell_of.Tie as tie

some : (f : Figures) → (0 < row f) × (0 < span f) × (0 < section f)
some f = (
  omega (arith, in_row f 0 (omega arith)),
  omega (arith, in_span f 0 0 (omega arith) (omega arith)),
  omega (arith, in-section f 0 0 0 (omega arith) (omega arith) (omega arith)),
)

some-row : (c : tie.After-section_cells-section) → 0 < c.before.before.row_cells-row.result
some-row c = rw c.before.before.row_cells-row.ensures (some c.before.before.before.args.f).0

some-span : (c : tie.After-section_cells-section) → 0 < c.before.span_cells-span.result
some-span c = rw c.before.span_cells-span.ensures (some c.before.before.before.args.f).1

some-section : (c : tie.After-section_cells-section) → 0 < c.section_cells-section.result
some-section c = rw c.section_cells-section.ensures (some c.before.before.before.args.f).2

returns : tie.Need-returns
unfolding cell_of
returns c = rw (c.before.before.row_cells-row.ensures, c.before.span_cells-span.ensures, c.section_cells-section.ensures)

pub cell_of_spec : {M : Type 1} → statement M
cell_of_spec =
    tie.close
    (tie.spec (λ c κs. search rules) (λ c κs. search rules) (λ c κs. search rules) some-section some-span some-section some-span some-row some-row returns)

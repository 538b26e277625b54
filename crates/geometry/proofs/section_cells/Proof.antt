-- A span for each number of starts left.
use mathlib.Core.Path.{ap}
use Prim.Native.Nat.{ℕ, ◌+◌, ◌*◌}
use native.Mathlib.Nat.{lt_of_le_of_lt}
use lib.Dec.{lit<}
use borrow.Author.Rules.{rules}
use Rattle.geometry.specs.Geometry.{section}
use Rattle.geometry.proofs.Sizes.{section-most}
use Rattle.geometry.proofs.section_cells.Statement.{statement}
use Rattle.geometry.proofs.section_cells.Tie as tie

mul-result : tie.Need-overflow_mul-result
unfolding section
mul-result c =
    let s = c.before.before in
    rw c.span_cells.ensures (record { fits = lt_of_le_of_lt (section-most s.args.f s.requires) (lit< tt) })

returns : tie.Need-returns
unfolding section
returns c = ap (λ (cells : ℕ). (c.before.before.args.f.most.starts + 1) * cells) c.span_cells.ensures

pub section_cells_spec : {M : Type 1} → statement M
section_cells_spec = tie.close (tie.spec (λ c. search rules) (λ c κs. search rules) mul-result returns)

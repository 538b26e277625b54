-- A section for each state.
use mathlib.Core.Path.{ap}
use Prim.Native.Nat.{ℕ, ◌+◌, ◌*◌}
use native.Mathlib.Nat.{lt_of_le_of_lt}
use lib.Dec.{lit<}
use borrow.Author.Rules.{rules}
use Rattle.geometry.specs.Geometry.{width}
use Rattle.geometry.proofs.Sizes.{width-most}
use Rattle.geometry.proofs.layer_cells.Statement.{statement}
use Rattle.geometry.proofs.layer_cells.Tie as tie

mul-result : tie.Need-overflow_mul-result
unfolding width
mul-result c =
    let s = c.before.before in
    rw c.section_cells.ensures (record { fits = lt_of_le_of_lt (width-most s.args.f s.requires) (lit< tt) })

returns : tie.Need-returns
unfolding width
returns c = ap (λ (cells : ℕ). (c.before.before.args.f.mot + c.before.before.args.f.mdt) * cells) c.section_cells.ensures

pub layer_cells_spec : {M : Type 1} → statement M
layer_cells_spec = tie.close (tie.spec (λ c. search rules) (λ c κs. search rules) mul-result returns)

-- A row for each number of on-intervals left.
use mathlib.Core.Path.{ap}
use Prim.Native.Nat.{ℕ, ◌+◌, ◌*◌}
use native.Mathlib.Nat.{lt_of_le_of_lt}
use lib.Dec.{lit<}
use borrow.Author.Rules.{rules}
use Rattle.geometry.specs.Geometry.{span}
use Rattle.geometry.proofs.Sizes.{span-most}
use Rattle.geometry.proofs.span_cells.Statement.{statement}
use Rattle.geometry.proofs.span_cells.Tie as tie

mul-result : tie.Need-overflow_mul-result
unfolding span
mul-result c =
    let s = c.before.before in
    rw c.row_cells.ensures (record { fits = lt_of_le_of_lt (span-most s.args.f s.requires) (lit< tt) })

returns : tie.Need-returns
unfolding span
returns c = ap (λ (cells : ℕ). (c.before.before.args.f.most.ons + 1) * cells) c.row_cells.ensures

pub span_cells_spec : {M : Type 1} → statement M
span_cells_spec = tie.close (tie.spec (λ c. search rules) (λ c κs. search rules) mul-result returns)

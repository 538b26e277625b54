-- A layer for each interval and one more.
use mathlib.Core.Path.{ap}
use Prim.Native.Nat.{ℕ, ◌+◌, ◌*◌}
use borrow.Author.Rules.{rules}
use Rattle.geometry.proofs.table_cells.Statement.{statement}
use Rattle.geometry.proofs.table_cells.Tie as tie

mul-result : tie.Need-overflow_mul-result
mul-result c = rw c.layer_cells.ensures (record { fits = c.before.requires.2 })

returns : tie.Need-returns
returns c = ap (λ (cells : ℕ). (c.before.args.n + 1) * cells) c.layer_cells.ensures

pub table_cells_spec : {M : Type 1} → statement M
table_cells_spec = tie.close (tie.spec (λ c. search rules) (λ c κs. search rules) mul-result returns)

-- A layer of the table has the cells that the specification counts.
use mathlib.Core.Path.{◌≡◌, sym, ◌∙◌}
use Prim.Native.Nat.{ℕ, ◌+◌, ◌*◌}
use native.Mathlib.Nat.{mul_assoc}
use Rattle.commitment.specs.declared.Limitation.TheVariants.{Starts, Hours, Mwh}
use Rattle.commitment.specs.declared.UnitRecord.{UnitRecord}
use Rattle.commitment.specs.Cells.{count_for, layer_cells}
use Rattle.optimality.specs.Cells.{figures_of}
use Rattle.geometry.specs.Geometry.{row, span, section, width}

pub width_is : (u : UnitRecord) (n : ℕ) → width (figures_of u n) ≡ layer_cells u n
unfolding width section span row figures_of
width_is u n = grouped (u.generator.mot + u.generator.mdt) (count_for u n Starts + 1) (count_for u n Hours + 1) (count_for u n Mwh + 1)
  where
    grouped : (s a b c : ℕ) → s * (a * (b * c)) ≡ s * a * b * c
    grouped s a b c = sym (mul_assoc (s * a) b c ∙ mul_assoc s a (b * c))

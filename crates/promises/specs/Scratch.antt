-- The scratch where the work was begun: the cells used are 0, and the cells beyond are as they were (specification 14).
use Rattle.std.specs.Prelude.{List, ◌++◌, ℤ, pos, length, drop, replicate}
use Rattle.commitment.specs.declared.UnitRecord.{UnitRecord}
use Rattle.commitment.specs.Cells.{cells_used}

abbrev pub cleared : UnitRecord → List ℤ → List ℤ → List ℤ
cleared u prices was =
    replicate (cells_used u (length prices) (length was)) (pos 0) ++ drop (cells_used u (length prices) (length was)) was

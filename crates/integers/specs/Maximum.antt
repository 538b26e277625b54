-- The larger of two integers.
use Rattle.std.specs.Prelude.{cond, ℤ}
use Rattle.std.specs.Int.Signed.{lt_z}

-- the second where the first is less, else the first
unfoldable pub maxℤ : ℤ → ℤ → ℤ
maxℤ x y = cond (lt_z x y) y x

-- The cells of scratch that a case of n intervals needs, and those that it uses (specification 14).
use Rattle.std.specs.Prelude.{cond, ℕ, ◌+◌, ◌*◌, ◌/◌, min, leb, Some, None}
use Rattle.commitment.specs.Types.{Limit}
use Rattle.commitment.specs.declared.Limitation.{Limitation}
use Rattle.commitment.specs.declared.Limitation.TheVariants.{Starts, Hours, Mwh}
use Rattle.commitment.specs.declared.Generator.{Generator}
use Rattle.commitment.specs.declared.UnitRecord.{UnitRecord}
use Rattle.commitment.specs.Limits.{limit_for}

-- a is the smaller of starts and n, b of 4 × hours and n, c of 4 × mwh / block rounded down and n × pmax; each is 0 where `none`

-- what a limitation's figure comes to, in starts, on-intervals and output blocks
abbrev pub in_counts : Generator → Limitation → ℕ → ℕ
in_counts g Starts figure = figure
in_counts g Hours figure = 4 * figure
in_counts g Mwh figure = 4 * figure / g.block

-- and the most of them that n intervals can take
abbrev pub most_counts : Generator → Limitation → ℕ → ℕ
most_counts g Starts n = n
most_counts g Hours n = n
most_counts g Mwh n = n * g.pmax

abbrev pub counted : Generator → ℕ → Limitation → Limit → ℕ
counted g n which None = 0
counted g n which (Some figure) = min (in_counts g which figure) (most_counts g which n)

abbrev pub count_for : UnitRecord → ℕ → Limitation → ℕ
count_for u n which = counted u.generator n which (limit_for u.limits which)

-- the cells of one interval
abbrev pub layer_cells : UnitRecord → ℕ → ℕ
layer_cells u n =
    (u.generator.mot + u.generator.mdt) * (count_for u n Starts + 1) * (count_for u n Hours + 1) * (count_for u n Mwh + 1)

-- two layers: 2 × (mot+mdt) × (a+1) × (b+1) × (c+1)
abbrev pub cells_needed : UnitRecord → ℕ → ℕ
cells_needed u n = 2 * layer_cells u n

-- the long table, a layer for each interval and one more: (n+1) × (mot+mdt) × (a+1) × (b+1) × (c+1)
abbrev pub cells_long : UnitRecord → ℕ → ℕ
cells_long u n = (n + 1) * layer_cells u n

-- of a scratch of so many cells the long table is used where it fits, else two layers
abbrev pub cells_used : UnitRecord → ℕ → ℕ → ℕ
cells_used u n lent = cond (leb (cells_long u n) lent) (cells_long u n) (cells_needed u n)

-- How many cells a layer can have, and the long table of a horizon that is checked.
use Prim.Native.Nat.{ℕ, ◌+◌, ◌*◌, ◌≤◌}
use native.Mathlib.Nat.{mul-le-mul}
use native.Mathlib.Omega.{arith}
use Rattle.commitment.specs.declared.UnitRecord.{UnitRecord}
use Rattle.commitment.specs.Bounds.{most_blocks, most_time, most_horizon, most_intervals}
use Rattle.optimality.specs.declared.Figures.{Figures}
use Rattle.optimality.specs.Cells.{Sound, Within, budgets, states, figures_of}
use Rattle.optimality.proofs.Opening.{counts-within, figures-sound}
use Rattle.optimality.proofs.Ranges.{Ranged}
use Rattle.geometry.specs.Geometry.{row, span, section, width}

-- ---- with the budgets of so many intervals

abbrev pub most_row : ℕ → ℕ
most_row n = n * most_blocks + 1

abbrev pub most_span : ℕ → ℕ
most_span n = (n + 1) * most_row n

abbrev pub most_section : ℕ → ℕ
most_section n = (n + 1) * most_span n

abbrev pub most_width : ℕ → ℕ
most_width n = (most_time + most_time) * most_section n

product : (x y m n : ℕ) → x ≤ m → y ≤ n → x * y ≤ m * n
product x y m n h k = mul-le-mul h k

module _ (f : Figures) (ok : Sound f) (n : ℕ) (few : Within f.most (budgets n n (n * most_blocks))) where
  row_within : row f ≤ most_row n
  unfolding row
  row_within = omega (arith, few.blocks)

  span-within : span f ≤ most_span n
  unfolding span
  span-within = product (f.most.ons + 1) (row f) (n + 1) (most_row n) (omega (arith, few.ons)) row_within

  section-within : section f ≤ most_section n
  unfolding section
  section-within = product (f.most.starts + 1) (span f) (n + 1) (most_span n) (omega (arith, few.starts)) span-within

  width-within : width f ≤ most_width n
  unfolding width
  width-within =
      product (states f) (section f) (most_time + most_time) (most_section n) (omega (arith, ok.mot-most, ok.mdt-most)) section-within

-- ---- over any intervals

module _ (f : Figures) (ok : Sound f) where
  pub row-most : row f ≤ most_row most_intervals
  row-most = row_within f ok most_intervals ok.most

  pub span-most : span f ≤ most_span most_intervals
  span-most = span-within f ok most_intervals ok.most

  pub section-most : section f ≤ most_section most_intervals
  section-most = section-within f ok most_intervals ok.most

  pub width-most : width f ≤ most_width most_intervals
  width-most = width-within f ok most_intervals ok.most

-- ---- over all layers of a table, for a horizon that is checked: a year's could outgrow 64 bits

pub table-most : (u : UnitRecord) → Ranged u → (n : ℕ) → n ≤ most_horizon → (n + 1) * width (figures_of u n) ≤ (most_horizon + 1) * most_width most_horizon
unfolding figures_of
table-most u ok n h =
    product (n + 1) (width (figures_of u n)) (most_horizon + 1) (most_width most_horizon) (omega arith)
    (width-within (figures_of u n) (figures-sound u ok n (omega arith)) most_horizon (counts-within u ok n most_horizon h))

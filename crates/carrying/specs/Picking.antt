-- Of several outputs the first whose value is the largest, and the mark that goes with it.
use Rattle.std.specs.Prelude.{◌≡◌, ℕ, ◌<◌, ℤ, ◌≤ℤ◌, ◌<ℤ◌}

pub record Picked (Of : ℕ → Type 0) (value mark : ℕ → ℤ) (v m : ℤ) : Type 0 where
  pub at : ℕ
  pub inside : Of at
  pub is : value at ≡ v
  pub marked : mark at ≡ m
  pub most : (k : ℕ) → Of k → value k ≤ℤ v
  pub first : (k : ℕ) → Of k → k < at → value k <ℤ v

-- What the signed division of the code asks: a divisor, and numbers far inside an i64.
use Rattle.std.specs.Prelude.{ℕ, ◌^◌, ◌<◌, ◌≤◌, ℤ, nat_abs}

pub record Sizes (num : ℤ) (den : ℕ) : Type 0 where
  pub num-most : nat_abs num ≤ 2 ^ 61
  pub den-some : 0 < den
  pub den-most : den ≤ 2 ^ 61

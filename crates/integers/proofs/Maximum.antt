-- The larger of two integers: above both, one of both, least of what is above both; a constant goes through it.
use mathlib.Core.Path.{◌≡◌, refl}
use mathlib.Core.Logic.{◌⊎◌, ⊎_elim, inl, inr}
use lib.IntN.{ℤ}
use lib.Signed.{◌≤ℤ◌}
use Rattle.integers.specs.Maximum.{maxℤ}
use Rattle.integers.proofs.Linear.{zarith}
use Rattle.integers.proofs.Order.{lt_z-dec}

pub record Max (x y m : ℤ) : Type 0 where
  pub left : x ≤ℤ m
  pub right : y ≤ℤ m
  pub one_of : (m ≡ x) ⊎ (m ≡ y)

pub max-is : (x y : ℤ) → Max x y (maxℤ x y)
unfolding maxℤ
max-is x y =
    ⊎_elim
    (λ w. rw w.0 (record { left = omega zarith; right = omega zarith; one_of = inr refl }))
    (λ w. rw w.0 (record { left = omega zarith; right = omega zarith; one_of = inl refl }))
    (lt_z-dec x y)

pub max_least : (x y z : ℤ) → x ≤ℤ z → y ≤ℤ z → maxℤ x y ≤ℤ z
max_least x y z h k = ⊎_elim (λ e. rw e h) (λ e. rw e k) (max-is x y).one_of

-- A size that is given up beyond a most: when it is the size itself, and how it is multiplied on.
use mathlib.Core.Path.{◌≡◌, refl, sym, ap, ◌∙◌}
use mathlib.Core.Bool.{Bool, true, false}
use Prim.Native.Nat.{ℕ, ◌*◌, ◌≤◌, ◌<◌}
use native.Mathlib.Nat.{mul-le-mul}
use native.Mathlib.Omega.{arith}
use borrow.Author.Tests.{le-leb, lt-leb, leb-true, leb-false}
use lib.Dec.{leb}
use Rattle.integers.specs.Capped.{largest, capped}

pub within_cap : (most size : ℕ) → size ≤ most → capped most size ≡ size
unfolding capped
within_cap most size h = rw (le-leb size most h)

pub beyond-cap : (most size : ℕ) → most < size → capped most size ≡ largest
unfolding capped
beyond-cap most size h = rw (lt-leb size most h)

-- a factor more: what was given up stays so, since no factor is 0
pub capped-times : (most size factor : ℕ) → most < largest → 1 ≤ factor → capped most (capped most size * factor) ≡ capped most (size * factor)
capped-times most size factor small some = by (leb size most) refl
  where
    at_least : (x : ℕ) → most < x → most < x * factor
    at_least x h = omega (arith, mul-le-mul {n₁ = x} {m₁ = 1} {n₂ = x} {m₂ = factor} (omega arith) some)

    by : (t : Bool) → leb size most ≡ t → capped most (capped most size * factor) ≡ capped most (size * factor)
    by true e = ap (λ (x : ℕ). capped most (x * factor)) (within_cap most size (leb-true size most e))
    by false e =
        let h = leb-false size most e in
        ap (λ (x : ℕ). capped most (x * factor)) (beyond-cap most size h)
        ∙ beyond-cap most (largest * factor) (at_least largest small)
        ∙ sym (beyond-cap most (size * factor) (at_least size h))

-- The places of the layers: in front of the work, and apart from one another while they are in use.
use mathlib.Core.Path.{◌≡◌, refl, sym}
use mathlib.Core.Bool.{Bool, true, false, true≢false}
use mathlib.Core.List.{List}
use mathlib.Core.Logic.{◌⊎◌, ⊎_elim, inl, inr}
use Prim.Native.Nat.{ℕ, ◌+◌, ◌*◌, ◌%◌, ◌≤◌, ◌<◌}
use native.Mathlib.Nat.{mul-le-mul_right}
use native.Mathlib.Omega.{arith}
use borrow.Author.Tests.{ltb-true, ltb-false}
use lib.Dec.{ltb}
use lib.IntN.{ℤ}
use lib.ListN.{length}
use Rattle.months.specs.declared.annual.Year.{Year}
use Rattle.months.specs.Annual.{slot_of, slots, place_of, YearAsked}

-- one place before another
before : (a b w : ℕ) → a < b → a * w + w ≤ b * w
before a b w h = let d : (a + 1) * w ≤ b * w = mul-le-mul_right w (omega arith) in omega arith

slot_lt : (all : Bool) (cuts : List ℕ) (k : ℕ) → k < length cuts → slot_of all k < slots all cuts
slot_lt true cuts k h = h
slot_lt false cuts k h = omega arith

slots_apart : (all : Bool) (w k j : ℕ) → k < j → (all ≡ true) ⊎ (j ≤ k + 1)
    → (slot_of all k * w + w ≤ slot_of all j * w) ⊎ (slot_of all j * w + w ≤ slot_of all k * w)
slots_apart true w k j h near = inl (before k j w h)
slots_apart false w k j h near = by (ltb (k % 2) (j % 2)) refl
  where
    next : j ≡ k + 1
    next = ⊎_elim (λ (e : false ≡ true). absurd (true≢false (sym e))) (λ (l : j ≤ k + 1). omega arith) near

    by : (t : Bool) → ltb (k % 2) (j % 2) ≡ t → (k % 2 * w + w ≤ j % 2 * w) ⊎ (j % 2 * w + w ≤ k % 2 * w)
    by true e = inl (before (k % 2) (j % 2) w (ltb-true (k % 2) (j % 2) e))
    by false e = inr (before (j % 2) (k % 2) w (omega (arith, ltb-false (k % 2) (j % 2) e, next)))

module _ (y : Year) (cells : ℕ) (prices : List ℤ) (cuts : List ℕ) (asked : YearAsked y cells prices cuts) where
  pub place-fits : (k : ℕ) → k < length cuts → place_of y k + y.width ≤ y.work
  place-fits k h = omega (arith, before (slot_of y.all k) (slots y.all cuts) y.width (slot_lt y.all cuts k h), asked.layers)

  pub places-apart : (k j : ℕ) → k < j → (y.all ≡ true) ⊎ (j ≤ k + 1)
      → (place_of y k + y.width ≤ place_of y j) ⊎ (place_of y j + y.width ≤ place_of y k)
  places-apart k j h near = slots_apart y.all y.width k j h near

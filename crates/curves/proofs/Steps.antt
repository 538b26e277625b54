-- The curve from an open segment on: a dearer one closes it, any other makes it longer.
use mathlib.Core.Path.{◌≡◌}
use mathlib.Core.Bool.{true, false}
use mathlib.Core.List.{List, ◌∷◌}
use lib.IntN.{ℤ}
use lib.Signed.{lt_z, ≤ℤ_refl}
use Rattle.integers.specs.Maximum.{maxℤ}
use Rattle.integers.proofs.Linear.{zarith}
use Rattle.integers.proofs.Order.{lt_z-true, le-le_z, lt-le_z}
use Rattle.curves.specs.declared.Segment.{Segment}
use Rattle.curves.specs.Curve.{extended}
use Rattle.curves.specs.Passes.{curve_from, dearer}

pub max-up : (x y : ℤ) → lt_z x y ≡ true → maxℤ x y ≡ y
unfolding maxℤ
max-up x y e = simp e

pub max-stay : (x y : ℤ) → lt_z x y ≡ false → maxℤ x y ≡ x
unfolding maxℤ
max-stay x y e = simp e

module _ (last next : Segment) (rest : List Segment) where
  pub closes : dearer last next ≡ true → curve_from last (next ∷ rest) ≡ last ∷ curve_from next rest
  closes e =
      let h = lt_z-true last.price next.price e in
      rw (max-up last.price next.price e)
      (simp (le-le_z last.price next.price (omega zarith), lt-le_z next.price last.price h))

  pub longer : dearer last next ≡ false → curve_from last (next ∷ rest) ≡ curve_from (extended last next.to) rest
  longer e = rw (max-stay last.price next.price e) (simp (le-le_z last.price last.price (≤ℤ_refl last.price)))

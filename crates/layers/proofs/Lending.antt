-- A layer filled in the part of the scratch that starts with it is filled in the scratch.
use mathlib.Core.Path.{◌≡◌, refl, sym, ap, ◌∙◌, fun_ext}
use mathlib.Core.List.{List, ◌++◌}
use mathlib.Core.Logic.{◌⊎◌, ⊎_elim, inr}
use Prim.Native.Nat.{ℕ, ◌+◌, ◌-◌, ◌≤◌, ◌<◌}
use native.Mathlib.Omega.{arith}
use borrow.Author.Tests.{ltb-true, ltb-false}
use lib.Dec.{ltb}
use lib.IntN.{ℤ, pos}
use lib.ListN.{length, take, drop, get_or, length-drop}
use lib.Seq.{get_or-drop}
use mathlib.Core.Bool.{Bool, true, false}
use Rattle.lists.proofs.Fills.{tail-before, tail-read}
use Rattle.optimality.specs.declared.Figures.{Figures}
use Rattle.optimality.specs.declared.Cell.{Cell}
use Rattle.optimality.specs.Machine.{Quarter}
use Rattle.geometry.specs.Geometry.{width, index}
use Rattle.geometry.specs.Layers.{stored_at}
use Rattle.intervals.specs.Stretches.{Behind, FrontMade, LayerMade}
use Rattle.intervals.specs.Turns.{quarter_stored}

module _ (s part : List ℤ) (at : ℕ) (fits : at ≤ length s) where
  pub behind-part : (w : ℕ) → Behind s at (at + w) w → Behind (drop at s) 0 w w
  behind-part w b =
      record {
        before = omega arith;
        fits = omega (arith, b.fits, length-drop at s);
        small = λ i k. rw (get_or-drop at s (w + i) (pos 0)) (rw (shift at w i) at (b.small i k));
      }
    where
      shift : (a w i : ℕ) → a + w + i ≡ a + (w + i)
      shift a w i = omega arith

  module _ (f : Figures) (q : Quarter) where
    stored_same : stored_at f (drop at s) (width f) ≡ stored_at f s (at + width f)
    stored_same = fun_ext (λ c. get_or-drop at s (width f + index f c) (pos 0) ∙ ap (λ (k : ℕ). get_or s k (pos 0)) (omega arith))

    pub lent-made : FrontMade f q (drop at s) part → LayerMade f q s (take at s ++ part) at
    lent-made made =
        record {
          inside = λ c h.
              tail-read at s part fits (index f c) (pos 0) ∙ made.inside c h ∙ ap (λ (stored : Cell → ℤ). quarter_stored f stored c q) stored_same;
          apart = λ j h. outside j h (ltb j at) refl;
        }
      where
        outside : (j : ℕ) → (j < at) ⊎ (at + width f ≤ j) → (t : Bool) → ltb j at ≡ t → get_or (take at s ++ part) j (pos 0) ≡ get_or s j (pos 0)
        outside j h true e = tail-before at s part fits j (pos 0) (ltb-true j at e)
        outside j h false e =
            let low = ltb-false j at e in
            let past : 0 + width f ≤ j - at = ⊎_elim (λ (x : j < at). omega arith) (λ (x : at + width f ≤ j). omega arith) h in
            let place : at + (j - at) ≡ j = omega arith in
            ap (λ (k : ℕ). get_or (take at s ++ part) k (pos 0)) (sym place)
            ∙ tail-read at s part fits (j - at) (pos 0)
            ∙ made.apart (j - at) (inr past)
            ∙ get_or-drop at s (j - at) (pos 0)
            ∙ ap (λ (k : ℕ). get_or s k (pos 0)) place

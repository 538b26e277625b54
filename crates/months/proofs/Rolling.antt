-- A month rolled in a part of the scratch is rolled in the scratch.
use mathlib.Core.Path.{◌≡◌, refl, sym, ap, ◌∙◌, subst, fun_ext}
use mathlib.Core.Bool.{Bool, true, false}
use mathlib.Core.List.{List, ◌++◌}
use mathlib.Core.Logic.{◌⊎◌, ⊎_elim}
use Prim.Native.Nat.{ℕ, ◌+◌, ◌-◌, ◌≤◌, ◌<◌}
use native.Mathlib.Omega.{arith}
use borrow.Author.Tests.{ltb-true, ltb-false}
use lib.Dec.{ltb}
use lib.IntN.{ℤ, pos}
use lib.ListN.{length, take, drop, get_or, length-drop}
use lib.Seq.{get_or-drop}
use Rattle.lists.proofs.Fills.{tail-before, tail-read}
use Rattle.commitment.specs.Types.{Hours}
use Rattle.optimality.specs.declared.Cell.{Cell}
use Rattle.optimality.specs.declared.Figures.{Figures}
use Rattle.optimality.specs.Machine.{Quarter}
use Rattle.optimality.specs.Cells.{value_at}
use Rattle.geometry.specs.Geometry.{width, index}
use Rattle.geometry.specs.Layers.{LayerAt, stored_at, in_front}
use Rattle.layers.specs.Filling.{Beyond}
use Rattle.pair.specs.Rolling.{RollAsked, RolledBy}
use Rattle.months.specs.Chaining.{BoxAsked, RolledAt}

module _ (g : Figures) (cells : List ℤ) (at : ℕ) (fits : at ≤ length cells) where
  -- what stands so far into the part
  part-stored : (k : ℕ) → stored_at g (drop at cells) k ≡ stored_at g cells (at + k)
  part-stored k = fun_ext (λ c. get_or-drop at cells (k + index g c) (pos 0) ∙ ap (λ (j : ℕ). get_or cells j (pos 0)) (omega arith))

  pub part-asked : (prices : List ℤ) (hours : Hours) (from to w : ℕ) → w ≡ width g → BoxAsked g cells prices hours from to at
      → RollAsked g w prices (drop at cells) hours from to
  part-asked prices hours from to w wide b =
      record {
        sound = b.sound;
        wide = wide;
        fits = omega (arith, wide, b.fits, length-drop at cells);
        priced = b.priced;
        clocked = b.clocked;
        short = b.short;
        some = b.some;
        inside = b.inside;
        ends = b.ends;
        ahead = b.ahead;
        few = b.few;
        last = rw (part-stored (width g)) b.last;
      }

  module _ (part : List ℤ) where
    front-stored : in_front g part ≡ stored_at g (take at cells ++ part) at
    front-stored = fun_ext (λ c. sym (tail-read at cells part fits (index g c) (pos 0)))

    pub part-rolled : (quarters : List Quarter) → length part ≡ length (drop at cells) → RolledBy g quarters (drop at cells) part
        → Beyond (width g + width g) (drop at cells) part → RolledAt g quarters cells (take at cells ++ part) at
    part-rolled quarters long r beyond =
        record {
          rolled = λ ends n few last.
              subst (λ (stored : Cell → ℤ). LayerAt g (n + length quarters) (value_at g ends quarters) stored) front-stored
              (r ends n few (rw (part-stored (width g)) last));
          apart = λ j out. outside j out (ltb j at) refl;
        }
      where
        two : ℕ
        two = width g + width g

        outside : (j : ℕ) → (j < at) ⊎ (at + two ≤ j) → (t : Bool) → ltb j at ≡ t → get_or (take at cells ++ part) j (pos 0) ≡ get_or cells j (pos 0)
        outside j h true e = tail-before at cells part fits j (pos 0) (ltb-true j at e)
        outside j h false e =
            let low = ltb-false j at e in
            let past : two ≤ j - at = ⊎_elim (λ (x : j < at). omega arith) (λ (x : at + two ≤ j). omega arith) h in
            let place : at + (j - at) ≡ j = omega arith in
            let split : two + (j - at - two) ≡ j - at = omega arith in
            ap (λ (k : ℕ). get_or (take at cells ++ part) k (pos 0)) (sym place)
            ∙ tail-read at cells part fits (j - at) (pos 0)
            ∙ ap (λ (k : ℕ). get_or part k (pos 0)) (sym split)
            ∙ sym (get_or-drop two part (j - at - two) (pos 0))
            ∙ ap (λ (l : List ℤ). get_or l (j - at - two) (pos 0)) beyond
            ∙ get_or-drop two (drop at cells) (j - at - two) (pos 0)
            ∙ ap (λ (k : ℕ). get_or (drop at cells) k (pos 0)) split
            ∙ get_or-drop at cells (j - at) (pos 0)
            ∙ ap (λ (k : ℕ). get_or cells k (pos 0)) place

-- The layer after the last interval says where a plan may end.
use Rattle.std.specs.Prelude.{None, Some}
use mathlib.Core.Path.{◌≡◌, refl, sym, ap, ◌∙◌}
use mathlib.Core.Bool.{Bool, true, false, true≢false, cond, ◌&&◌}
use mathlib.Core.List.{List, []}
use mathlib.Core.Logic.{⊎_elim}
use Prim.Native.Nat.{ℕ, ◌+◌, ◌*◌, ◌≤◌, ◌<◌}
use native.Mathlib.Omega.{arith}
use borrow.Author.Tests.{eqb-true, eq-eqb}
use lib.Dec.{eqb}
use lib.IntN.{ℤ, pos}
use lib.ListN.{length, set}
use lib.Seq.{get_or-set_same, get_or-set_other}
use Rattle.lists.proofs.Conjunctions.{both}
use Rattle.optimality.specs.declared.Cell.{Cell}
use Rattle.optimality.specs.declared.Figures.{Figures}
use Rattle.optimality.specs.Cells.{InTable, cell, states}
use Rattle.optimality.proofs.Turns.{value-end}
use Rattle.geometry.specs.Geometry.{section, width, index, cell_of}
use Rattle.geometry.specs.Layers.{infeasible, Holds, Layer, stored_at}
use Rattle.geometry.proofs.Holding.{holds-none}
use Rattle.geometry.proofs.Places.{index-lt, cell-there}
use Rattle.intervals.specs.Stretches.{Apart}
use Rattle.intervals.proofs.Stretches.{put_in, put-inside, put-apart}
use Rattle.marks.specs.Standing.{ends_in}

-- whether a cell is that of the state with nothing left
abbrev is_bare : ℕ → Cell → Bool
is_bare s c = eqb c.state s && eqb c.left.starts 0 && eqb c.left.ons 0 && eqb c.left.blocks 0

bare-is : (s : ℕ) (c : Cell) → is_bare s c ≡ true → c ≡ cell s 0 0 0
bare-is s c e =
    let a = both _ (eqb c.left.blocks 0) e in
    let b = both _ (eqb c.left.ons 0) a.0 in
    let d = both (eqb c.state s) (eqb c.left.starts 0) b.0 in
    let same : cell c.state c.left.starts c.left.ons c.left.blocks ≡ cell s 0 0 0 =
    rw (eqb-true c.state s d.0, eqb-true c.left.starts 0 d.1, eqb-true c.left.ons 0 b.1, eqb-true c.left.blocks 0 a.1) in
    same

is-bare : (s : ℕ) → is_bare s (cell s 0 0 0) ≡ true
is-bare s = rw (eq-eqb s s refl)

module _ (f : Figures) (s : ℕ) (inside : s < states f) where
  -- the cell of the state with nothing left, and its place
  abbrev bare : Cell
  bare = cell s 0 0 0

  bare-inside : InTable f bare
  bare-inside = record { state = inside; left = record { starts = omega arith; ons = omega arith; blocks = omega arith } }

  pub bare-place : index f bare ≡ s * section f
  unfolding index
  bare-place = omega arith

  pub bare-lt : s * section f < width f
  bare-lt = omega (arith, index-lt f bare bare-inside, bare-place)

  module _ (was : List ℤ) (at : ℕ) (room : at + width f ≤ length was) where
    abbrev barred : List ℤ
    barred = put_in was at (width f) infeasible

    abbrev pub ended : List ℤ
    ended = set barred (at + s * section f) (pos 0)

    module _ (long : length barred ≡ length was) where
      here : (c : Cell) → c ≡ bare → Holds 0 (Some (pos 0)) (stored_at f ended at c)
      here c e =
          let place : at + index f c ≡ at + s * section f = ap (λ (z : Cell). at + index f z) e ∙ ap (λ (n : ℕ). at + n) bare-place in
          rw place (get_or-set_same barred (at + s * section f) (pos 0) (pos 0) (omega (arith, long, room, bare-lt)), omega arith)

      -- another cell stands at another place
      placed : (c : Cell) → InTable f c → at + s * section f ≡ at + index f c → c ≡ bare
      placed c i e =
          let same : index f c ≡ index f bare = omega (arith, e, bare-place) in
          sym (cell-there f c i) ∙ ap (cell_of f) same ∙ cell-there f bare bare-inside

      other : (c : Cell) → InTable f c → (c ≡ bare → ⊥) → Holds 0 None (stored_at f ended at c)
      other c i differs =
          rw (
            get_or-set_other barred (at + s * section f) (at + index f c) (pos 0) (pos 0) (λ e. differs (placed c i (omega (arith, e)))),
            put-inside was at (width f) infeasible room (index f c) (index-lt f c i),
          ) (holds-none 0 (omega arith))

      either : (c : Cell) → InTable f c → (t : Bool) → is_bare s c ≡ t → Holds 0 (cond t (Some (pos 0)) None) (stored_at f ended at c)
      either c i true e = here c (bare-is s c e)
      either c i false e = other c i (λ k. true≢false (sym (ap (is_bare s) k ∙ is-bare s) ∙ e))

      pub ended-in : Layer f (ends_in s) [] (stored_at f ended at)
      ended-in = record { holds = λ c i. rw (value-end f (ends_in s) c) (either c i (is_bare s c) refl) }

      pub end-apart : Apart was ended at (width f)
      end-apart j out =
          get_or-set_other barred (at + s * section f) j (pos 0) (pos 0)
          (λ e. ⊎_elim (λ (l : j < at). omega (arith, e)) (λ (l : at + width f ≤ j). omega (arith, e, bare-lt)) out)
          ∙ put-apart was at (width f) infeasible room j out

-- Pairs of value and mark, place by place: a value and its mark at each.
use mathlib.Core.Path.{◌≡◌, refl, sym, ap, ap₂, ◌∙◌, subst}
use mathlib.Core.Bool.{Bool, true, false, cond}
use mathlib.Core.List.{List}
use mathlib.Core.Logic.{◌⊎◌, ⊎_elim, inl, inr}
use Prim.Native.Nat.{ℕ, ◌+◌, ◌-◌, ◌≤◌, ◌<◌}
use native.Mathlib.Omega.{arith}
use borrow.Author.Tests.{ltb-true, ltb-false}
use lib.Dec.{ltb}
use lib.IntN.{ℤ, pos}
use lib.ListN.{length, get_or, set, length-set}
use lib.Signed.{lt_z}
use lib.Seq.{get_or-set_same, get_or-set_other}
use Rattle.intervals.proofs.Stretches.{last-or-before}
use Rattle.carrying.specs.declared.images.Slope.{Slope}
use Rattle.carrying.specs.Images.{piece, Aside, DownPicked, Descended, Imaged}
use Rattle.carrying.specs.Pairs.{Pairs, Joined, put_pair, join_pair}

pub pairs-none : (behind : ℕ) (Stands : ℕ → ℤ → ℤ → Type 0) (was : List ℤ) (to : ℕ) → Pairs behind Stands was was to 0
pairs-none behind Stands was to =
    record { inside = λ i h. absurd (omega arith); apart = record { same = refl; values = λ j h o. refl; marks = λ j h o. refl; beyond = λ j h. refl } }

module _ (behind : ℕ) (was : List ℤ) (at : ℕ) (v m : ℤ) (inside : at < behind) (room : behind + behind ≤ length was) where
  abbrev pub both-set : List ℤ
  both-set = put_pair behind was at v m

  pub value_there : get_or both-set at (pos 0) ≡ v
  value_there = get_or-set_other (set was at v) (behind + at) at m (pos 0) (λ e. omega arith) ∙ get_or-set_same was at v (pos 0) (omega arith)

  pub mark-there : get_or both-set (behind + at) (pos 0) ≡ m
  mark-there = get_or-set_same (set was at v) (behind + at) m (pos 0) (omega (arith, length-set was at v))

  pub value-elsewhere : (j : ℕ) → j < behind → (j ≡ at → ⊥) → get_or both-set j (pos 0) ≡ get_or was j (pos 0)
  value-elsewhere j h other =
      get_or-set_other (set was at v) (behind + at) j m (pos 0) (λ e. omega arith) ∙ get_or-set_other was at j v (pos 0) (λ e. other (omega arith))

  pub mark-elsewhere : (j : ℕ) → (j ≡ at → ⊥) → get_or both-set (behind + j) (pos 0) ≡ get_or was (behind + j) (pos 0)
  mark-elsewhere j other =
      get_or-set_other (set was at v) (behind + at) (behind + j) m (pos 0) (λ e. other (omega arith))
      ∙ get_or-set_other was at (behind + j) v (pos 0) (λ e. omega arith)

  pub beyond-both : (j : ℕ) → behind + behind ≤ j → get_or both-set j (pos 0) ≡ get_or was j (pos 0)
  beyond-both j h =
      get_or-set_other (set was at v) (behind + at) j m (pos 0) (λ e. omega arith) ∙ get_or-set_other was at j v (pos 0) (λ e. omega arith)

  pub both_long : length both-set ≡ length was
  both_long = length-set (set was at v) (behind + at) m ∙ length-set was at v

pub pairs_next : (behind : ℕ) (Stands : ℕ → ℤ → ℤ → Type 0) (was out : List ℤ) (to i : ℕ) (v m : ℤ) → to + i < behind → behind + behind ≤ length out
    → Pairs behind Stands was out to i → Stands i v m → Pairs behind Stands was (put_pair behind out (to + i) v m) to (i + 1)
pairs_next behind Stands was out to i v m fits room a this =
    record {
      inside = λ j h.
          ⊎_elim
          (λ (e : j ≡ i). rw (e, value_there behind out (to + i) v m fits room, mark-there behind out (to + i) v m fits room) this)
          (λ (l : j < i).
          rw (
            value-elsewhere behind out (to + i) v m fits room (to + j) (omega arith) (λ e. omega arith),
            mark-elsewhere behind out (to + i) v m fits room (to + j) (λ e. omega arith),
          )
          (a.inside j l))
          (last-or-before j i h);
      apart =
          record {
            same = both_long behind out (to + i) v m fits room ∙ a.apart.same;
            values = λ j h o. value-elsewhere behind out (to + i) v m fits room j h (λ e. apart_from j o e) ∙ a.apart.values j h (wider j o);
            marks = λ j h o. mark-elsewhere behind out (to + i) v m fits room j (λ e. apart_from j o e) ∙ a.apart.marks j h (wider j o);
            beyond = λ j h. beyond-both behind out (to + i) v m fits room j h ∙ a.apart.beyond j h;
          };
    }
  where
    apart_from : (j : ℕ) → (j < to) ⊎ (to + (i + 1) ≤ j) → j ≡ to + i → ⊥
    apart_from j o e = ⊎_elim (λ (l : j < to). omega arith) (λ (l : to + (i + 1) ≤ j). omega arith) o

    wider : (j : ℕ) → (j < to) ⊎ (to + (i + 1) ≤ j) → (j < to) ⊎ (to + i ≤ j)
    wider j o = ⊎_elim (λ (l : j < to). inl l) (λ (l : to + (i + 1) ≤ j). inr (omega arith)) o

-- from the first place on
pub imaged : (Stands : ℕ → ℤ → ℤ → Type 0) (was out : List ℤ) (count : ℕ) → Aside Stands was out 0 count → Imaged Stands was out count
imaged Stands was out count a =
    record {
      inside = λ i h. let e : 0 + i ≡ i = omega arith in rw e at (a.inside i h);
      same = a.apart.same;
    }

-- ---- from the last place down

module _ (cells : List ℤ) (w : ℕ) (slope : Slope) (was : List ℤ) (to : ℕ) where
  pub descended-none : Descended cells w slope was was to 0
  descended-none =
      record { inside = λ j lo hi. absurd (omega arith); apart = record { same = refl; values = λ j h o. refl; marks = λ j h o. refl; beyond = λ j h. refl } }

  pub descended-next : (out : List ℤ) (i : ℕ) (v m : ℤ) → i < slope.count → to + slope.count ≤ piece → piece + piece ≤ length was
      → Descended cells w slope was out to i → DownPicked cells w slope i v m
      → Descended cells w slope was (join_pair piece out (to + (slope.count - 1 - i)) v m) to (i + 1)
  descended-next out i v m inside fits long d this =
      record {
        inside = λ k lo hi.
            ⊎_elim (λ (e : k ≡ j). rw e (here (subst (λ (n : ℕ). DownPicked cells w slope n v m) (sym turn) this)))
            (λ (l : j < k).
            rw (
              value-elsewhere piece out (to + j) v' m' at room (to + k) (omega arith) (λ e. omega arith),
              mark-elsewhere piece out (to + j) v' m' at room (to + k) (λ e. omega arith),
            )
            (d.inside k (omega arith) hi))
            (this-or-after k (omega arith));
        apart =
            record {
              same = both_long piece out (to + j) v' m' at room ∙ d.apart.same;
              values = λ k h o. value-elsewhere piece out (to + j) v' m' at room k h (λ e. not-here k o e) ∙ d.apart.values k h (wider k o);
              marks = λ k h o. mark-elsewhere piece out (to + j) v' m' at room k (λ e. not-here k o e) ∙ d.apart.marks k h (wider k o);
              beyond = λ k h. beyond-both piece out (to + j) v' m' at room k h ∙ d.apart.beyond k h;
            };
      }
    where
      j : ℕ
      j = slope.count - 1 - i

      turn : slope.count - 1 - j ≡ i
      turn = omega arith

      at : to + j < piece
      at = omega arith

      room : piece + piece ≤ length out
      room = omega (arith, d.apart.same)

      v' : ℤ
      v' = cond (lt_z (get_or out (to + j) (pos 0)) v) v (get_or out (to + j) (pos 0))

      m' : ℤ
      m' = cond (lt_z (get_or out (to + j) (pos 0)) v) m (get_or out (piece + (to + j)) (pos 0))

      this-or-after : (k : ℕ) → j ≤ k → (k ≡ j) ⊎ (j < k)
      this-or-after k h = by (ltb j k) refl
        where
          by : (t : Bool) → ltb j k ≡ t → (k ≡ j) ⊎ (j < k)
          by true e = inr (ltb-true j k e)
          by false e = let l = ltb-false j k e in inl (omega arith)

      old_value : get_or out (to + j) (pos 0) ≡ get_or was (to + j) (pos 0)
      old_value = d.apart.values (to + j) at (inl (omega arith))

      old-mark : get_or out (piece + (to + j)) (pos 0) ≡ get_or was (piece + (to + j)) (pos 0)
      old-mark = d.apart.marks (to + j) at (inl (omega arith))

      here : DownPicked cells w slope (slope.count - 1 - j) v m
          → Joined (get_or was (to + j) (pos 0)) (get_or was (piece + (to + j)) (pos 0)) (get_or (join_pair piece out (to + j) v m) (to + j) (pos 0))
          (get_or (join_pair piece out (to + j) v m) (piece + (to + j)) (pos 0)) (DownPicked cells w slope (slope.count - 1 - j))
      here p =
          record {
            value = v;
            mark = m;
            of = p;
            larger = value_there piece out (to + j) v' m' at room ∙ ap (λ (x : ℤ). cond (lt_z x v) v x) old_value;
            marked = mark-there piece out (to + j) v' m' at room ∙ ap₂ (λ (x y : ℤ). cond (lt_z x v) m y) old_value old-mark;
          }

      not-here : (k : ℕ) → (k < to + (slope.count - (i + 1))) ⊎ (to + (slope.count - (i + 1)) + (i + 1) ≤ k) → k ≡ to + j → ⊥
      not-here k o e = ⊎_elim (λ (l : k < to + (slope.count - (i + 1))). omega arith) (λ (l : to + (slope.count - (i + 1)) + (i + 1) ≤ k). omega arith) o

      wider : (k : ℕ) → (k < to + (slope.count - (i + 1))) ⊎ (to + (slope.count - (i + 1)) + (i + 1) ≤ k)
          → (k < to + (slope.count - i)) ⊎ (to + (slope.count - i) + i ≤ k)
      wider k o =
          ⊎_elim (λ (l : k < to + (slope.count - (i + 1))). inl (omega arith)) (λ (l : to + (slope.count - (i + 1)) + (i + 1) ≤ k). inr (omega arith)) o

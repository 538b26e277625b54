-- A stretch made segment by segment from the front, all of one size: the segments done are right, and all else is as it was.
use mathlib.Core.Path.{◌≡◌, ap, refl, ◌∙◌}
use mathlib.Core.List.{List}
use mathlib.Core.Logic.{⊎_elim, inl, inr}
use Prim.Native.Nat.{ℕ, ◌+◌, ◌-◌, ◌*◌, ◌≤◌, ◌<◌}
use native.Mathlib.Nat.{mul-le-mul_right}
use native.Mathlib.Omega.{arith}
use lib.IntN.{ℤ, pos}
use lib.ListN.{length, get_or}
use Rattle.intervals.specs.Stretches.{Apart, Behind}
use Rattle.intervals.proofs.Stretches.{last-or-before}

-- the places in a segment are those of K, and segment v is to hold `now v`
module _ {K : Type 0} (place : K → ℕ) (size : ℕ) (inside : (k : K) → place k < size) (was : List ℤ) (to : ℕ) (now : ℕ → K → ℤ) where
  pub record Done (s : List ℤ) (n : ℕ) : Type 0 where
    pub right : (v : ℕ) → v < n → (k : K) → get_or s (to + (v * size + place k)) (pos 0) ≡ now v k
    pub before : (j : ℕ) → j < to → get_or s j (pos 0) ≡ get_or was j (pos 0)
    pub after : (j : ℕ) → to + n * size ≤ j → get_or s j (pos 0) ≡ get_or was j (pos 0)
    pub same : length s ≡ length was

  -- segments that are right from the start
  pub done_first : (n : ℕ) → ((v : ℕ) → v < n → (k : K) → get_or was (to + (v * size + place k)) (pos 0) ≡ now v k) → Done was n
  done_first n h = record { right = h; before = λ j l. refl; after = λ j l. refl; same = refl }

  pub done_next : (s t : List ℤ) (n : ℕ) → Done s n → length t ≡ length s → Apart s t (to + n * size) size
      → ((k : K) → get_or t (to + n * size + place k) (pos 0) ≡ now n k) → Done t (n + 1)
  done_next s t n old long apart new =
      record {
        right = λ v l k. ⊎_elim (λ (e : v ≡ n). rw e (last k)) (λ (h : v < n). apart (to + (v * size + place k)) (inl (earlier v k h)) ∙ old.right v h k)
            (last-or-before v n l);
        before = λ j l. apart j (inl (omega arith)) ∙ old.before j l;
        after = λ j l. let h : to + n * size + size ≤ j = omega arith in apart j (inr h) ∙ old.after j (omega arith);
        same = long ∙ old.same;
      }
    where
      last : (k : K) → get_or t (to + (n * size + place k)) (pos 0) ≡ now n k
      last k = let e : to + n * size + place k ≡ to + (n * size + place k) = omega arith in rw e at (new k)

      earlier : (v : ℕ) (k : K) → v < n → to + (v * size + place k) < to + n * size
      earlier v k h = let d : (v + 1) * size ≤ n * size = mul-le-mul_right size (omega arith) in omega (arith, inside k)

  pub done-apart : (s : List ℤ) (n all : ℕ) → n * size ≤ all → Done s n → Apart was s to all
  done-apart s n all h d j out = ⊎_elim (λ (l : j < to). d.before j l) (λ (l : to + all ≤ j). d.after j (omega arith)) out

-- ---- a part of a stretch and what it is made from, while all from there on is as it was
pub behind-within : (was s : List ℤ) (to from all at behind size : ℕ) → Behind was to from all → at + size ≤ behind → from ≤ behind → behind + size ≤ from + all
    → length s ≡ length was → ((j : ℕ) → behind ≤ j → get_or s j (pos 0) ≡ get_or was j (pos 0)) → Behind s at behind size
behind-within was s to from all at behind size b apart lo hi long same =
    record {
      before = apart;
      fits = omega (arith, b.fits);
      small = λ i h.
          let e : from + (behind - from + i) ≡ behind + i = omega arith in
          rw (same (behind + i) (omega arith)) (rw e at (b.small (behind - from + i) (omega arith)));
    }

-- ---- a loop that makes segment first + x from segment x of a stretch behind: what a round reads is behind what it makes, and as it was

module _ (size first to from x : ℕ) where
  pub round-place : to + first * size + x * size ≡ to + (first + x) * size
  round-place = omega arith

  pub round-source : from + x * size ≡ from + (first + x - first) * size
  round-source = ap (λ (n : ℕ). from + n * size) (less first x)
    where
      less : (a b : ℕ) → b ≡ a + b - a
      less a b = omega arith

  pub round-behind : (was s : List ℤ) (all : ℕ) → Behind was to from all → (first + x) * size + size ≤ all → length s ≡ length was
      → ((j : ℕ) → to + (first + x) * size ≤ j → get_or s j (pos 0) ≡ get_or was j (pos 0))
      → Behind s (to + first * size + x * size) (from + x * size) size
  round-behind was s all b room long same =
      behind-within was s to from all (to + first * size + x * size) (from + x * size) size b (omega (arith, b.before)) (omega arith) (omega arith) long
      (λ j h. same j (omega (arith, b.before)))

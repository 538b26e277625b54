-- Off wherever it is shut, interval by interval.
use mathlib.Core.Path.{◌≡◌, refl, ap, ap₂, ◌∙◌, sym}
use mathlib.Core.Bool.{Bool, true, false, ◌&&◌, ◌||◌}
use mathlib.Core.List.{List, [], ◌∷◌}
use Prim.Native.Nat.{ℕ, zero, suc, ◌+◌, ◌≤◌, ◌<◌}
use native.Mathlib.Nat.{add-zero}
use native.Mathlib.Omega.{arith}
use borrow.Author.Tests.{ne_eqb}
use lib.Dec.{eqb}
use lib.ListN.{length, drop, get_or, drop_of_length-le}
use Rattle.lists.proofs.Fills.{drop-next}
use Rattle.commitment.specs.Keeping.{off_where_shut}

-- the first interval, and the rest
shut-first : (opens : ℕ → Bool) (i m : ℕ) (s : List ℕ)
    → off_where_shut opens i (m ∷ s) ≡ ((eqb m 0 || opens i) && off_where_shut opens (suc i) s)
shut-first opens i zero s = refl
shut-first opens i (suc m) s = rw (ne_eqb (suc m) 0 (λ e. omega arith))

-- one interval more, of those from i on
pub shut-next : (opens : ℕ → Bool) (s : List ℕ) (i : ℕ) → i < length s
    → off_where_shut opens i (drop i s) ≡ ((eqb (get_or s i 0) 0 || opens i) && off_where_shut opens (i + 1) (drop (i + 1) s))
shut-next opens s i h =
    let e : suc i ≡ i + 1 = omega arith in
    rw (drop-next s i 0 h) (shut-first opens i (get_or s i 0) (drop (i + 1) s)
    ∙ ap (λ (j : ℕ). (eqb (get_or s i 0) 0 || opens i) && off_where_shut opens j (drop (i + 1) s)) e)

pub shut-end : (opens : ℕ → Bool) (s : List ℕ) (i : ℕ) → length s ≤ i → off_where_shut opens i (drop i s) ≡ true
shut-end opens s i h = rw (drop_of_length-le s {i = i} h)

-- openings that agree over the schedule
pub shut-same : (a b : ℕ → Bool) (i : ℕ) (s : List ℕ) → ((t : ℕ) → t < length s → a (i + t) ≡ b (i + t)) → off_where_shut a i s ≡ off_where_shut b i s
shut-same a b i [] h = refl
shut-same a b i (zero ∷ s) h =
    shut-same a b (suc i) s (λ t k. let e : suc i + t ≡ i + suc t = omega arith in rw e (h (suc t) (omega arith)))
shut-same a b i (suc m ∷ s) h =
    let first : a i ≡ b i = rw (add-zero i) at (h 0 (omega arith)) in
    ap₂ ◌&&◌ first (shut-same a b (suc i) s (λ t k. let e : suc i + t ≡ i + suc t = omega arith in rw e (h (suc t) (omega arith))))

-- Values and their marks in one list, each mark so far behind its value.
use Rattle.std.specs.Prelude.{◌≡◌, cond, List, ◌⊎◌, ℕ, ◌+◌, ◌≤◌, ◌<◌, ℤ, pos, length, get_or, set}
use Rattle.std.specs.Int.Signed.{lt_z}

-- places apart from these are as they were, of the values and of the marks
pub record PairsApart (behind : ℕ) (was now : List ℤ) (to count : ℕ) : Type 0 where
  pub same : length now ≡ length was
  pub values : (j : ℕ) → j < behind → (j < to) ⊎ (to + count ≤ j) → get_or now j (pos 0) ≡ get_or was j (pos 0)
  pub marks : (j : ℕ) → j < behind → (j < to) ⊎ (to + count ≤ j) → get_or now (behind + j) (pos 0) ≡ get_or was (behind + j) (pos 0)
  pub beyond : (j : ℕ) → behind + behind ≤ j → get_or now j (pos 0) ≡ get_or was j (pos 0)

-- what stands from `to` on, for so many places
pub record Pairs (behind : ℕ) (Stands : ℕ → ℤ → ℤ → Type 0) (was now : List ℤ) (to count : ℕ) : Type 0 where
  pub inside : (i : ℕ) → i < count → Stands i (get_or now (to + i) (pos 0)) (get_or now (behind + (to + i)) (pos 0))
  pub apart : PairsApart behind was now to count

abbrev pub put_pair : ℕ → List ℤ → ℕ → ℤ → ℤ → List ℤ
put_pair behind was at value mark = set (set was at value) (behind + at) mark

-- in place of what stands there, where the value is larger
abbrev pub join_pair : ℕ → List ℤ → ℕ → ℤ → ℤ → List ℤ
join_pair behind was at value mark =
    let larger = lt_z (get_or was at (pos 0)) value in
    put_pair behind was at (cond larger value (get_or was at (pos 0))) (cond larger mark (get_or was (behind + at) (pos 0)))

-- a value and mark in place of others, where the value is larger
pub record Joined (v₀ m₀ v m : ℤ) (Of : ℤ → ℤ → Type 0) : Type 0 where
  pub value : ℤ
  pub mark : ℤ
  pub of : Of value mark
  pub larger : v ≡ cond (lt_z v₀ value) value v₀
  pub marked : m ≡ cond (lt_z v₀ value) mark m₀

-- the larger of two, with its mark; the first where both are the same
abbrev pub Larger : ℤ → ℤ → ℤ → ℤ → ℤ → ℤ → Type 0
Larger v₀ m₀ value mark v m = (v ≡ cond (lt_z v₀ value) value v₀) × (m ≡ cond (lt_z v₀ value) mark m₀)

-- as many places from `to` on, each with what stands aside for it
abbrev pub JoinedFrom : ℕ → ℕ → List ℤ → List ℤ → ℕ → ℕ → ℤ → ℤ → Type 0
JoinedFrom behind aside was image to i v m =
    Larger (get_or was (to + i) (pos 0)) (get_or was (behind + (to + i)) (pos 0)) (get_or image i (pos 0)) (get_or image (aside + i) (pos 0)) v m

-- The list of outputs that is tried has exactly the outputs of the specification, ascending.
use mathlib.Core.Path.{◌≡◌, refl, ap, ◌∙◌, subst}
use mathlib.Core.Bool.{true, ◌&&◌}
use mathlib.Core.List.Memᴰ
use mathlib.Core.List.{List, [], ◌∷◌, Memᴰ}
use mathlib.Core.Logic.{⊎_elim}
use Prim.Native.Nat.{ℕ, zero, suc, ◌+◌, ◌-◌, ◌*◌, ◌/◌, ◌%◌, ◌<◌, ◌≤◌}
use native.Mathlib.Nat.{div-add-mod', mul-le-mul_right, le_of_mul-le-mul_right, mul-mod_left}
use native.Mathlib.Omega.{arith}
use borrow.Author.Tests.{le-leb, eq-eqb, leb-true, eqb-true}
use lib.Dec.{leb, eqb}
use Rattle.commitment.specs.declared.UnitRecord.{UnitRecord}
use Rattle.lists.specs.Every.{every}
use Rattle.commitment.specs.Schedule.{is_output}
use Rattle.commitment.specs.Best.{ladder, outputs}
use Rattle.lists.proofs.Conjunctions.{both}
use Rattle.optimality.proofs.Ranges.{Ranged}
use Rattle.optimality.proofs.Rival.{Ascending, AllIn}

-- ---- the ladder: so many rungs from the first on, a block apart

ladder-from : (count first block n : ℕ) → 1 ≤ block → Memᴰ n (ladder block first count) → first ≤ n
ladder-from zero first block n h i = absurd (Memᴰ.not-nil i)
ladder-from (suc count) first block n h i =
    ⊎_elim (λ (e : n ≡ first). omega arith)
    (λ (j : Memᴰ n (ladder block (first + block) count)). omega (arith, ladder-from count (first + block) block n h j))
    (Memᴰ.cases_cons i)

ladder-ascending : (count first block : ℕ) → 1 ≤ block → Ascending (ladder block first count)
ladder-ascending zero first block h = tt
ladder-ascending (suc count) first block h =
    (λ n i. omega (arith, ladder-from count (first + block) block n h i), ladder-ascending count (first + block) block h)

-- behind 0
pub ladder-after-zero : (count first block : ℕ) → 1 ≤ block → 1 ≤ first → Ascending (0 ∷ ladder block first count)
ladder-after-zero count first block h some =
    (λ n i. omega (arith, ladder-from count first block n h i), ladder-ascending count first block h)

ladder-has : (count first block j : ℕ) → j < count → Memᴰ (first + j * block) (ladder block first count)
ladder-has zero first block j h = absurd (omega arith)
ladder-has (suc count) first block zero h = Memᴰ.head {x = first} (omega arith)
ladder-has (suc count) first block (suc j) h =
    Memᴰ.tail
    (subst (λ (n : ℕ). Memᴰ n (ladder block (first + block) count)) (omega arith) (ladder-has count (first + block) block j (omega arith)))

pub ladder-is : (count first block n : ℕ) → Memᴰ n (ladder block first count) → (j : ℕ) × (j < count) × (n ≡ first + j * block)
ladder-is zero first block n i = absurd (Memᴰ.not-nil i)
ladder-is (suc count) first block n i =
    ⊎_elim (λ (e : n ≡ first). (0, omega arith, omega arith))
    (λ (t : Memᴰ n (ladder block (first + block) count)).
    let r = ladder-is count (first + block) block n t in
    (suc r.0, omega (arith, r.1), omega (arith, r.2)))
    (Memᴰ.cases_cons i)

-- from a blocks to b blocks
pub blocks-join : (a b block : ℕ) → a ≤ b → a * block + (b - a) * block ≡ b * block
blocks-join a b block h = by (b - a) (omega arith)
  where
    by : (d : ℕ) → a + d ≡ b → a * block + d * block ≡ b * block
    by d e = subst (λ (n : ℕ). a * block + d * block ≡ n * block) e (omega arith)

-- ---- the outputs of a unit

module _ (u : UnitRecord) (ok : Ranged u) where
  abbrev block : ℕ
  block = u.generator.block

  -- the least output but 0, and how many there are
  abbrev first : ℕ
  first = u.generator.pmin * block

  abbrev count : ℕ
  count = suc u.generator.pmax - u.generator.pmin

  pub outputs-ascending : Ascending (outputs u.generator)
  outputs-ascending = ladder-after-zero count first block ok.block (omega (arith, mul-le-mul_right block ok.pmin, ok.block))

  -- an output but 0 that is tried is so many blocks
  pub blocks-of : (m : ℕ) → Memᴰ (suc m) (outputs u.generator) → (k : ℕ) × (suc m ≡ k * block) × (u.generator.pmin ≤ k) × (k ≤ u.generator.pmax)
  blocks-of m i =
      ⊎_elim (λ (e : suc m ≡ 0). absurd (omega arith))
      (λ (t : Memᴰ (suc m) (ladder block first count)).
      let r = ladder-is count first block (suc m) t in
      (u.generator.pmin + r.0, omega (arith, r.2), omega arith, omega (arith, r.1, ok.pmax)))
      (Memᴰ.cases_cons i)

  output-tried : (m : ℕ) → is_output u.generator m ≡ true → Memᴰ m (outputs u.generator)
  output-tried zero e = Memᴰ.head refl
  output-tried (suc m) e =
      let whole = eqb (suc m % block) 0 in
      let low = leb first (suc m) in
      let high = leb (suc m) (u.generator.pmax * block) in
      let t = both (whole && low) high e in
      let s = both whole low t.0 in
      let z = eqb-true (suc m % block) 0 s.0 in
      let lo = leb-true first (suc m) s.1 in
      let hi = leb-true (suc m) (u.generator.pmax * block) t.1 in
      let k : ℕ = suc m / block in
      let is : k * block ≡ suc m = omega (arith, div-add-mod' (suc m) block, z) in
      let least : u.generator.pmin ≤ k = le_of_mul-le-mul_right {k = block} (omega arith) ok.block in
      let greatest : k ≤ u.generator.pmax = le_of_mul-le-mul_right {k = block} (omega arith) ok.block in
      Memᴰ.tail
      (subst (λ (n : ℕ). Memᴰ n (ladder block first count)) (blocks-join u.generator.pmin k block least ∙ is)
      (ladder-has count first block (k - u.generator.pmin) (omega arith)))

  tried-output : (m : ℕ) → Memᴰ m (outputs u.generator) → is_output u.generator m ≡ true
  tried-output zero i = refl
  tried-output (suc m) i =
      let r = blocks-of m i in
      let k : ℕ = r.0 in
      let z : suc m % block ≡ 0 = ap (λ (n : ℕ). n % block) r.1 ∙ mul-mod_left k block in
      simp (
        z,
        eq-eqb 0 0 refl,
        le-leb first (suc m) (omega (arith, r.1, mul-le-mul_right block r.2)),
        le-leb (suc m) (u.generator.pmax * block) (omega (arith, r.1, mul-le-mul_right block r.3)),
      )

  -- a list is of outputs exactly where each is tried
  pub all-tried : (s : List ℕ) → every (is_output u.generator) s ≡ true → AllIn (outputs u.generator) s
  all-tried [] e = tt
  all-tried (m ∷ s) e =
      let t = both (is_output u.generator m) (every (is_output u.generator) s) e in
      (output-tried m t.0, all-tried s t.1)

  pub tried-all : (s : List ℕ) → AllIn (outputs u.generator) s → every (is_output u.generator) s ≡ true
  tried-all [] i = refl
  tried-all (m ∷ s) i = simp (tried-output m i.0) (tried-all s i.1)

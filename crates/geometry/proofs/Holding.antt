-- What a cell's number says of its value: how it goes through an interval and through the larger of two, and what is told from it.
use Rattle.std.specs.Prelude.{None, Some}
use mathlib.Core.Path.{◌≡◌, refl, sym, ap, ◌∙◌}
use mathlib.Core.Bool.{true, false}
use mathlib.Core.Logic.{◌⊎◌, ⊎_elim, inl, inr}
use Prim.Native.Nat.{ℕ, suc, ◌+◌, ◌*◌, ◌^◌, ◌≤◌, ◌<◌}
use native.Mathlib.Omega.{arith}
use lib.IntN.{ℤ, pos, negsuc, nat_abs, ◌+ℤ◌, +ℤ_comm, +ℤ_idl}
use lib.Signed.{lt_z, ◌≤ℤ◌, ◌<ℤ◌}
use Rattle.integers.specs.Maximum.{maxℤ}
use Rattle.integers.proofs.Linear.{up, dn, up_pos, dn-pos, zarith, zsum}
use Rattle.integers.proofs.Order.{≤ℤ-trans, lt_z-dec, lt-lt_z, le-lt_z}
use Rattle.integers.proofs.Ranges.{Within, within-abs, abs-within, within-weaken, within-sum}
use Rattle.commitment.specs.Types.{BestProfit}
use Rattle.optimality.specs.Machine.{more, plus}
use Rattle.optimality.proofs.Values.{no-earning}
use Rattle.commitment.specs.Bounds.{most_intervals}
use Rattle.geometry.specs.Layers.{infeasible, swing, Holds}

-- ---- the sentinel in parts

pub up-infeasible : up infeasible ≡ 0
unfolding up
up-infeasible = refl

pub dn-infeasible : dn infeasible ≡ 2 ^ 62
unfolding dn
dn-infeasible = refl

one-sided : (x : ℤ) → (up x ≡ 0) ⊎ (dn x ≡ 0)
unfolding up dn
one-sided (pos a) = inr refl
one-sided (negsuc a) = inl refl

-- n intervals above it
pub above-infeasible : (n : ℕ) → n ≤ most_intervals → (up (infeasible +ℤ pos (n * swing)) ≡ 0) × (dn (infeasible +ℤ pos (n * swing)) + n * swing ≡ 2 ^ 62)
above-infeasible n short =
    let k = n * swing in
    let e = zsum infeasible (pos k) in
    ⊎_elim
    (λ (z : up (infeasible +ℤ pos k) ≡ 0). (z, omega (arith, e.is, up-infeasible, dn-infeasible, up_pos k, dn-pos k)))
    (λ (z : dn (infeasible +ℤ pos k) ≡ 0). absurd (omega (arith, e.is, up-infeasible, dn-infeasible, up_pos k, dn-pos k)))
    (one-sided (infeasible +ℤ pos k))

-- ---- what a candidate for a cell says: as `Holds`, with no least number

abbrev pub Offers : ℕ → BestProfit → ℤ → Type 0
Offers n None r = r ≤ℤ (infeasible +ℤ pos (n * swing))
Offers n (Some p) r = (r ≡ p) × (nat_abs p ≤ n * swing)

pub offered : (n : ℕ) (v : BestProfit) (r : ℤ) → Holds n v r → Offers n v r
offered n None r h = h.1
offered n (Some p) r h = h

-- the larger of what a cell holds and of a candidate
pub holds_more : (n : ℕ) (v w : BestProfit) (a b : ℤ) → n ≤ most_intervals → Holds n v a → Offers n w b → Holds n (more v w) (maxℤ a b)
unfolding maxℤ
holds_more n None None a b short h k =
    ⊎_elim (λ (t : (lt_z a b ≡ true) × (a <ℤ b)). let l : a ≤ℤ b = let m = t.1 in omega zarith in rw t.0 (≤ℤ-trans h.0 l, k))
    (λ (t : (lt_z a b ≡ false) × (b ≤ℤ a)). rw t.0 h)
    (lt_z-dec a b)
holds_more n None (Some q) a b short h k =
    let m : a <ℤ b = omega (zarith, above-infeasible n short, within-abs q, h.1, k.0, k.1) in
    rw (lt-lt_z a b m) k
holds_more n (Some p) None a b short h k =
    let m : b ≤ℤ a = omega (zarith, above-infeasible n short, within-abs p, h.0, h.1) in
    rw (le-lt_z a b m) h
holds_more n (Some p) (Some q) a b short h k =
    rw (h.0, k.0)
    (⊎_elim (λ (t : (lt_z p q ≡ true) × (p <ℤ q)). rw t.0 (refl, k.1)) (λ (t : (lt_z p q ≡ false) × (q ≤ℤ p)). rw t.0 (refl, h.1)) (lt_z-dec p q))

-- ---- one interval more

-- that earns g
pub offers-plus : (n : ℕ) (v : BestProfit) (a g : ℤ) → n < most_intervals → nat_abs g ≤ swing → Holds n v a → Offers (suc n) (plus g v) (a +ℤ g)
offers-plus n None a g short small h =
    omega (zarith, above-infeasible n (omega arith), above-infeasible (suc n) (omega arith), within-abs g, zsum a g, h.1)
offers-plus n (Some p) a g short small h =
    (ap (λ (x : ℤ). x +ℤ g) h.0 ∙ +ℤ_comm p g, omega (arith, abs-within (within-sum (within-abs g) (within-abs p)), h.1))

-- that earns nothing
pub holds-stay : (n : ℕ) (v : BestProfit) (a : ℤ) → n < most_intervals → Holds n v a → Holds (suc n) (plus (pos 0) v) a
holds-stay n None a short h = (h.0, omega (zarith, above-infeasible n (omega arith), above-infeasible (suc n) (omega arith), h.1))
holds-stay n (Some p) a short h = (h.0 ∙ sym (+ℤ_idl p), rw (+ℤ_idl p) (omega (arith, h.1)))

pub holds-none : (n : ℕ) → n ≤ most_intervals → Holds n None infeasible
holds-none n short = (omega zarith, omega (zarith, above-infeasible n short, up-infeasible, dn-infeasible))

-- ---- what is told from a number

-- it fits with an interval added
pub holds-small : (n : ℕ) (v : BestProfit) (a : ℤ) → n ≤ most_intervals → Holds n v a → nat_abs a ≤ 2 ^ 62
holds-small n None a short h =
    let l = above-infeasible n short in
    let le = h.1 in
    let ge = h.0 in
    ⊎_elim
    (λ (t : up a ≡ 0). abs-within {x = a} (record { over = omega arith; under = omega (zarith, up-infeasible, dn-infeasible) }))
    (λ (t : dn a ≡ 0). abs-within {x = a} (record { over = omega (zarith, l); under = omega arith }))
    (one-sided a)
holds-small n (Some p) a short h = rw h.0 (omega (arith, h.1))

pub gained-within : (x g : ℤ) → nat_abs x ≤ 2 ^ 62 → nat_abs g ≤ swing → Within (2 ^ 62 + swing) (x +ℤ g)
gained-within x g h k = within-sum (within-weaken h (within-abs x)) (within-weaken k (within-abs g))

-- a candidate as large as a profit earns it
pub offers-best : (n : ℕ) (v : BestProfit) (best : ℤ) → n ≤ most_intervals → nat_abs best ≤ n * swing → Offers n v best → v ≡ Some best
offers-best n None best short small h = absurd (omega (zarith, above-infeasible n short, within-abs best))
offers-best n (Some p) best short small h = ap Some (sym h.0)

-- a candidate that earns a profit is as large
pub offers-earning : (n : ℕ) (v : BestProfit) (a best : ℤ) → Offers n v a → v ≡ Some best → a ≡ best
offers-earning n None a best h e = absurd (no-earning e)
offers-earning n (Some p) a best h e = let i : p ≡ best = cc in h.0 ∙ i

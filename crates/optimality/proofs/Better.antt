-- `better` is a monoid, and an interval in front distributes over it: so the best of all lists is found step by step.
use mathlib.Core.Path.{◌≡◌, refl, sym, ap, ◌∙◌}
use mathlib.Core.Bool.{Bool, true, false, cond}
use mathlib.Core.List.{List, [], ◌∷◌, ◌++◌, map}
use mathlib.Core.Logic.{⊎_elim}
use Prim.Native.Nat.{ℕ}
use lib.IntN.{ℤ, ◌+ℤ◌}
use lib.Signed.{◌≤ℤ◌, ◌<ℤ◌, lt_z}
use Rattle.integers.proofs.Linear.{zarith, zsum}
use Rattle.integers.proofs.Order.{lt_z-dec, lt-lt_z, le-lt_z}
use Rattle.commitment.specs.Best.{Plan, nothing, plan, better, first_best}
use Rattle.optimality.specs.Machine.{after}

-- ---- a monoid

pub better-nothing : (a : Plan) → better a nothing ≡ a
better-nothing nothing = refl
better-nothing (plan s p) = refl

pub better-assoc : (a b c : Plan) → better (better a b) c ≡ better a (better b c)
better-assoc nothing b c = refl
better-assoc (plan s p) nothing c = refl
better-assoc (plan s p) (plan t q) nothing = better-nothing (cond (lt_z p q) (plan t q) (plan s p))
better-assoc (plan s p) (plan t q) (plan u r) =
    ⊎_elim
    (λ (w : (lt_z p q ≡ true) × (p <ℤ q)).
    ⊎_elim
    (λ (v : (lt_z q r ≡ true) × (q <ℤ r)). let h : p <ℤ r = omega zarith in simp (w.0, v.0, lt-lt_z p r h))
    (λ (v : (lt_z q r ≡ false) × (r ≤ℤ q)). simp (w.0, v.0))
    (lt_z-dec q r))
    (λ (w : (lt_z p q ≡ false) × (q ≤ℤ p)).
    ⊎_elim
    (λ (v : (lt_z q r ≡ true) × (q <ℤ r)). simp (w.0, v.0))
    (λ (v : (lt_z q r ≡ false) × (r ≤ℤ q)). let h : r ≤ℤ p = omega zarith in simp (w.0, v.0, le-lt_z p r h))
    (lt_z-dec q r))
    (lt_z-dec p q)

-- the best of two lists of plans is the better of the best of each
pub best-append : (xs ys : List Plan) → first_best (xs ++ ys) ≡ better (first_best xs) (first_best ys)
best-append [] ys = refl
best-append (x ∷ xs) ys = ap (better x) (best-append xs ys) ∙ sym (better-assoc x (first_best xs) (first_best ys))

-- ---- an interval in front

shift-lt_z : (g p q : ℤ) → lt_z (g +ℤ p) (g +ℤ q) ≡ lt_z p q
shift-lt_z g p q =
    ⊎_elim
    (λ (w : (lt_z p q ≡ true) × (p <ℤ q)). lt-lt_z (g +ℤ p) (g +ℤ q) (omega (zarith, zsum g p, zsum g q)) ∙ sym w.0)
    (λ (w : (lt_z p q ≡ false) × (q ≤ℤ p)). le-lt_z (g +ℤ p) (g +ℤ q) (omega (zarith, zsum g p, zsum g q)) ∙ sym w.0)
    (lt_z-dec p q)

after-cond : (m : ℕ) (g : ℤ) (t : Bool) (a b : Plan) → cond t (after m g a) (after m g b) ≡ after m g (cond t a b)
after-cond m g true a b = refl
after-cond m g false a b = refl

after-better : (m : ℕ) (g : ℤ) (a b : Plan) → better (after m g a) (after m g b) ≡ after m g (better a b)
after-better m g nothing b = refl
after-better m g (plan s p) nothing = refl
after-better m g (plan s p) (plan t q) = rw (shift-lt_z g p q) (after-cond m g (lt_z p q) (plan t q) (plan s p))

pub best-after : (m : ℕ) (g : ℤ) (xs : List Plan) → first_best (map (after m g) xs) ≡ after m g (first_best xs)
best-after m g [] = refl
best-after m g (x ∷ xs) = ap (better (after m g x)) (best-after m g xs) ∙ after-better m g x (first_best xs)

-- The best plan's profit alone, and the plan read off by it: the first output that reaches the best remaining profit is the plan's.
use Rattle.std.specs.Prelude.{None, Some}
use mathlib.Core.Path.{◌≡◌, refl, sym, ap, ap₂, ◌∙◌}
use mathlib.Core.Bool.{Bool, true, false, cond}
use mathlib.Core.List.{List, [], ◌∷◌, ◌++◌, map, Memᴰ}
use mathlib.Core.Logic.{⊎_elim}
use Prim.Native.Nat.{ℕ}
use native.Mathlib.Omega.{arith}
use lib.IntN.{ℤ}
use lib.Signed.{◌≤ℤ◌, ◌<ℤ◌, lt_z}
use Rattle.integers.proofs.Linear.{zarith}
use Rattle.integers.proofs.Order.{lt_z-dec}
use Rattle.commitment.specs.Best.{Plan, nothing, plan, better, first_best, profit_of}
use Rattle.commitment.specs.Types.{BestProfit}
use Rattle.optimality.proofs.Better.{better-assoc}
use Rattle.optimality.specs.Machine.{Step, stop, go, ended, after, along, best_from, more, most, plus, value_along, value_from}

pub no-earning : {p : ℤ} → None ≡ Some p → ⊥
no-earning e = let z : ◌≡◌ {A = ℕ} 0 1 = cc in omega arith

-- ---- the value of a plan that is made of others

value-better : (a b : Plan) → profit_of (better a b) ≡ more (profit_of a) (profit_of b)
value-better nothing b = refl
value-better (plan s p) nothing = refl
value-better (plan s p) (plan t q) = by (lt_z p q)
  where
    by : (t' : Bool) → profit_of (cond t' (plan t q) (plan s p)) ≡ cond t' (Some q) (Some p)
    by true = refl
    by false = refl

value_after : (m : ℕ) (g : ℤ) (a : Plan) → profit_of (after m g a) ≡ plus g (profit_of a)
value_after m g nothing = refl
value_after m g (plan s p) = refl

value-ended : (v : BestProfit) → profit_of (ended v) ≡ v
value-ended None = refl
value-ended (Some p) = refl

-- so the larger of two profits is as associative as the better of two plans
pub more-assoc : (u v w : BestProfit) → more (more u v) w ≡ more u (more v w)
more-assoc u v w =
    let a = ended u in
    let b = ended v in
    let c = ended w in
    rw (value-ended u, value-ended v, value-ended w)
    at (rw (value-better (better a b) c, value-better a b, value-better a (better b c), value-better b c) at (ap profit_of (better-assoc a b c)))

value-along : {State : Type 0} (m : ℕ) (t : Step State) (f : State → Plan) (v : State → BestProfit) → ((x : State) → profit_of (f x) ≡ v x)
    → profit_of (along m t f) ≡ value_along t v
value-along m stop f v h = refl
value-along m (go g x) f v h = value_after m g (f x) ∙ ap (plus g) (h x)

value-most : (f : ℕ → Plan) (v : ℕ → BestProfit) → ((m : ℕ) → profit_of (f m) ≡ v m) → (ms : List ℕ) → profit_of (first_best (map f ms)) ≡ most (map v ms)
value-most f v h [] = refl
value-most f v h (m ∷ ms) = value-better (f m) (first_best (map f ms)) ∙ ap₂ more (h m) (value-most f v h ms)

-- ---- the first that reaches the best

reaches : (a : Plan) (bs : List Plan) → profit_of a ≡ profit_of (first_best (a ∷ bs)) → first_best (a ∷ bs) ≡ a
reaches a bs e = first a (first_best bs) e
  where
    first : (a b : Plan) → profit_of a ≡ profit_of (better a b) → better a b ≡ a
    first nothing nothing e = refl
    first nothing (plan t q) e = absurd (no-earning e)
    first (plan s p) nothing e = refl
    first (plan s p) (plan t q) e =
        ⊎_elim
        (λ (w : (lt_z p q ≡ true) × (p <ℤ q)). let v : Some p ≡ Some q = rw w.0 at e in let i : p ≡ q = cc in absurd (omega zarith))
        (λ (w : (lt_z p q ≡ false) × (q ≤ℤ p)). rw w.0)
        (lt_z-dec p q)

-- one that falls short is passed over
falls-short : (a : Plan) (bs : List Plan) → (profit_of a ≡ profit_of (first_best (a ∷ bs)) → ⊥) → first_best (a ∷ bs) ≡ first_best bs
falls-short a bs h = later a (first_best bs) h
  where
    later : (a b : Plan) → (profit_of a ≡ profit_of (better a b) → ⊥) → better a b ≡ b
    later nothing b h = refl
    later (plan s p) nothing h = absurd (h refl)
    later (plan s p) (plan t q) h =
        ⊎_elim (λ (w : (lt_z p q ≡ true) × (p <ℤ q)). rw w.0) (λ (w : (lt_z p q ≡ false) × (q ≤ℤ p)). absurd (h (rw w.0))) (lt_z-dec p q)

first_of : (f : ℕ → Plan) (passed : List ℕ) (m : ℕ) (later : List ℕ) (best : BestProfit) → profit_of (first_best (map f (passed ++ (m ∷ later)))) ≡ best
    → ((n : ℕ) → Memᴰ n passed → profit_of (f n) ≡ best → ⊥) → profit_of (f m) ≡ best → first_best (map f (passed ++ (m ∷ later))) ≡ f m
first_of f [] m later best e short h = reaches (f m) (map f later) (h ∙ sym e)
first_of f (n ∷ passed) m later best e short h =
    let i = falls-short (f n) (map f (passed ++ (m ∷ later))) (λ o. short n (Memᴰ.head refl) (o ∙ e)) in
    i ∙ first_of f passed m later best (ap profit_of (sym i) ∙ e) (λ j mem. short j (Memᴰ.tail mem)) h

-- ---- of any machine

module _ (State Input : Type 0) (step : State → Input → ℕ → Step State) (ends : State → BestProfit) (outputs : List ℕ) where
  pub value-from : (is : List Input) (x : State) → profit_of (best_from State Input step ends outputs is x) ≡ value_from State Input step ends outputs is x
  value-from [] x = value-ended (ends x)
  value-from (i ∷ is) x =
      let f = best_from State Input step ends outputs is in
      let v = value_from State Input step ends outputs is in
      value-most (λ m. along m (step x i m) f) (λ m. value_along (step x i m) v) (λ m. value-along m (step x i m) f v (λ y. value-from is y)) outputs

  -- the first output that reaches the best remaining profit is the plan's
  pub first-reaching : (i : Input) (is : List Input) (x : State) (passed : List ℕ) (m : ℕ) (later : List ℕ) → outputs ≡ passed ++ (m ∷ later)
      → ((n : ℕ) → Memᴰ n passed
      → value_along (step x i n) (value_from State Input step ends outputs is) ≡ value_from State Input step ends outputs (i ∷ is) x → ⊥)
      → value_along (step x i m) (value_from State Input step ends outputs is) ≡ value_from State Input step ends outputs (i ∷ is) x
      → best_from State Input step ends outputs (i ∷ is) x ≡ along m (step x i m) (best_from State Input step ends outputs is)
  first-reaching i is x passed m later e short h =
      let f : ℕ → Plan = λ n. along n (step x i n) (best_from State Input step ends outputs is) in
      let v : (n : ℕ) → profit_of (f n) ≡ value_along (step x i n) (value_from State Input step ends outputs is) =
      λ n. value-along n (step x i n) (best_from State Input step ends outputs is) (value_from State Input step ends outputs is) (λ y. value-from is y) in
      ap (λ (ms : List ℕ). first_best (map f ms)) e
      ∙ first_of f passed m later (value_from State Input step ends outputs (i ∷ is) x)
      (ap (λ (ms : List ℕ). profit_of (first_best (map f ms))) (sym e) ∙ value-from (i ∷ is) x)
      (λ n mem o. short n mem (sym (v n) ∙ o))
      (v m ∙ h)

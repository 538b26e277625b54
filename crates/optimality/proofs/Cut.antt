-- The intervals of a machine cut in two: best profits of the later ones are the ends of the earlier ones, and the best plan of all is the best plan under
-- these ends, followed by the best plan from the state that it leads to. The first of the best plans is the first in both.
use Rattle.std.specs.Prelude.{None, Some}
use mathlib.Core.Path.{◌≡◌, refl, sym, ap, ◌∙◌, fun_ext}
use mathlib.Core.Bool.{Bool, true, false, cond}
use mathlib.Core.List.{List, [], ◌∷◌, ◌++◌, map}
use Prim.Native.Nat.{ℕ}
use native.Mathlib.Omega.{arith}
use lib.IntN.{ℤ, pos, ◌+ℤ◌, +ℤ_idl}
use lib.Signed.{lt_z}
use Rattle.integers.proofs.Linear.{zarith, zsum}
use Rattle.commitment.specs.Types.{BestProfit}
use Rattle.commitment.specs.Best.{Plan, nothing, plan, better, first_best, profit_of}
use Rattle.optimality.specs.Machine.{Step, stop, go, ended, after, along, earning, then, walk, best_from, most, value_along, value_from}
use Rattle.optimality.proofs.Values.{no-earning, value-from}

module _ (State Input : Type 0) (step : State → Input → ℕ → Step State) (ends : State → BestProfit) (outputs : List ℕ) where
  -- ---- best profits

  pub cut-value : (is js : List Input) (x : State)
      → value_from State Input step ends outputs (is ++ js) x ≡ value_from State Input step (value_from State Input step ends outputs js) outputs is x
  cut-value [] js x = refl
  cut-value (i ∷ is) js x =
      ap (λ (v : State → BestProfit). most (map (λ m. value_along (step x i m) v) outputs)) (fun_ext (λ y. cut-value is js y))

  module _ (js : List Input) where
    -- what the later intervals are worth
    abbrev worth : State → BestProfit
    worth = value_from State Input step ends outputs js

    -- ---- a plan a of the earlier intervals that comes to g, the worth of the later ones included, and the plan s of all that it is continued to

    pub record Joined (is : List Input) (x : State) (a s : List ℕ) (g : ℤ) : Type 0 where
      pub at : State
      pub earned : ℤ
      pub leads : walk State Input step is x a ≡ go earned at
      pub rest : List ℕ
      pub profit : ℤ
      pub goes_on : best_from State Input step ends outputs js at ≡ plan rest profit
      pub sum : earned +ℤ profit ≡ g
      pub whole : s ≡ a ++ rest

    abbrev Onward : List Input → State → Plan → Plan → Type 0
    Onward is x nothing nothing = Unit {0}
    Onward is x nothing (plan s p) = ⊥
    Onward is x (plan a g) nothing = ⊥
    Onward is x (plan a g) (plan s p) = (p ≡ g) × Joined is x a s g

    -- ---- the better of two, by what they come to alone

    choose : (is : List Input) (x : State) (t : Bool) (p q p' q' : Plan) → Onward is x p q → Onward is x p' q' → Onward is x (cond t p p') (cond t q q')
    choose is x true p q p' q' h k = h
    choose is x false p q p' q' h k = k

    onward-better : (is : List Input) (x : State) (p q p' q' : Plan) → Onward is x p q → Onward is x p' q' → Onward is x (better p p') (better q q')
    onward-better is x nothing nothing p' q' h k = k
    onward-better is x nothing (plan s r) p' q' h k = absurd h
    onward-better is x (plan a g) nothing p' q' h k = absurd h
    onward-better is x (plan a g) (plan s r) nothing nothing h k = h
    onward-better is x (plan a g) (plan s r) nothing (plan s' r') h k = absurd k
    onward-better is x (plan a g) (plan s r) (plan a' g') nothing h k = absurd k
    onward-better is x (plan a g) (plan s r) (plan a' g') (plan s' r') h k =
        rw (h.0, k.0) (choose is x (lt_z g g') (plan a' g') (plan s' g') (plan a g) (plan s g) (refl, k.1) (refl, h.1))

    -- ---- one interval in front

    onward-along : (i : Input) (is : List Input) (x : State) (m : ℕ) (p q : State → Plan) → ((y : State) → Onward is y (p y) (q y))
        → Onward (i ∷ is) x (along m (step x i m) p) (along m (step x i m) q)
    onward-along i is x m p q h = by (step x i m) refl
      where
        front : (d : ℤ) (y : State) → step x i m ≡ go d y → (a b : Plan) → Onward is y a b → Onward (i ∷ is) x (after m d a) (after m d b)
        front d y e nothing nothing h = tt
        front d y e nothing (plan s r) h = absurd h
        front d y e (plan a g) nothing h = absurd h
        front d y e (plan a g) (plan s r) (same, j) = (
          ap (λ (z : ℤ). d +ℤ z) same,
          record {
            at = j.at;
            earned = d +ℤ j.earned;
            leads = ap (λ (t : Step State). then t (λ z. walk State Input step is z a)) e ∙ ap (earning d) j.leads;
            rest = j.rest;
            profit = j.profit;
            goes_on = j.goes_on;
            sum = omega (zarith, j.sum, zsum d j.earned, zsum (d +ℤ j.earned) j.profit, zsum j.earned j.profit, zsum d g);
            whole = ap (◌∷◌ m) j.whole;
          },
        )

        by : (t : Step State) → step x i m ≡ t → Onward (i ∷ is) x (along m t p) (along m t q)
        by stop e = tt
        by (go d y) e = front d y e (p y) (q y) (h y)

    onward-best : (i : Input) (is : List Input) (x : State) (p q : State → Plan) → ((y : State) → Onward is y (p y) (q y)) → (ms : List ℕ)
        → Onward (i ∷ is) x (first_best (map (λ m. along m (step x i m) p) ms)) (first_best (map (λ m. along m (step x i m) q) ms))
    onward-best i is x p q h [] = tt
    onward-best i is x p q h (m ∷ ms) =
        onward-better (i ∷ is) x (along m (step x i m) p) (along m (step x i m) q) (first_best (map (λ m. along m (step x i m) p) ms))
        (first_best (map (λ m. along m (step x i m) q) ms)) (onward-along i is x m p q h) (onward-best i is x p q h ms)

    -- ---- plans

    onward : (is : List Input) (x : State)
        → Onward is x (best_from State Input step worth outputs is x) (best_from State Input step ends outputs (is ++ js) x)
    onward [] x = by (best_from State Input step ends outputs js x) refl (worth x) (value-from State Input step ends outputs js x)
      where
        by : (q : Plan) → best_from State Input step ends outputs js x ≡ q → (v : BestProfit) → profit_of (best_from State Input step ends outputs js x) ≡ v
            → Onward [] x (ended v) q
        by nothing e None w = tt
        by nothing e (Some p) w = absurd (no-earning (rw e at w))
        by (plan s p) e None w = absurd (no-earning (sym (rw e at w)))
        by (plan s p) e (Some g) w =
            let total : Some p ≡ Some g = rw e at w in
            let same : p ≡ g = cc in
            (same, record { at = x; earned = pos 0; leads = refl; rest = s; profit = p; goes_on = e; sum = +ℤ_idl p ∙ same; whole = refl })
    onward (i ∷ is) x = onward-best i is x (best_from State Input step worth outputs is) (best_from State Input step ends outputs (is ++ js))
        (λ y. onward is y) outputs

    -- the best plan of all intervals, by that of the earlier ones
    pub record Continued (is : List Input) (x : State) (a : List ℕ) (g : ℤ) : Type 0 where
      pub all : List ℕ
      pub joined : Joined is x a all g
      pub best : best_from State Input step ends outputs (is ++ js) x ≡ plan all g

    pub continued : (is : List Input) (x : State) (a : List ℕ) (g : ℤ) → best_from State Input step worth outputs is x ≡ plan a g → Continued is x a g
    continued is x a g e = by (best_from State Input step ends outputs (is ++ js) x) refl (rw e at (onward is x))
      where
        by : (q : Plan) → best_from State Input step ends outputs (is ++ js) x ≡ q → Onward is x (plan a g) q → Continued is x a g
        by nothing i h = absurd h
        by (plan s p) i h =
            record { all = s; joined = h.1; best = i ∙ ap (plan s) h.0 }

    pub none-continued : (is : List Input) (x : State) → best_from State Input step worth outputs is x ≡ nothing
        → best_from State Input step ends outputs (is ++ js) x ≡ nothing
    none-continued is x e = by (best_from State Input step ends outputs (is ++ js) x) refl (rw e at (onward is x))
      where
        by : (q : Plan) → best_from State Input step ends outputs (is ++ js) x ≡ q → Onward is x nothing q
            → best_from State Input step ends outputs (is ++ js) x ≡ nothing
        by nothing i h = i
        by (plan s p) i h = absurd h

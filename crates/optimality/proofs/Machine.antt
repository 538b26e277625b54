-- The principle of optimality, for any machine of steps: the best of all lists of outputs is the best first output with the best of the rest.
use mathlib.Core.Path.{◌≡◌, refl, sym, ap, ap₂, ◌∙◌, fun_ext}
use mathlib.Core.List.{List, [], ◌∷◌, ◌++◌, map}
use Prim.Native.Nat.{ℕ}
use lib.ListN.{length}
use Rattle.commitment.specs.Types.{BestProfit}
use Rattle.commitment.specs.Best.{Plan, nothing, better, first_best, prefixed, lists}
use Rattle.optimality.specs.Machine.{Step, stop, go, then, walk, ended, after, along, run, best_from}
use Rattle.optimality.proofs.Better.{better-nothing, best-append, best-after}

-- ---- lists

pub map-map : {A B C : Type 0} (f : B → C) (g : A → B) (xs : List A) → map f (map g xs) ≡ map (λ x. f (g x)) xs
map-map f g [] = refl
map-map f g (x ∷ xs) = ap (◌∷◌ (f (g x))) (map-map f g xs)

pub map-append : {A B : Type 0} (f : A → B) (xs ys : List A) → map f (xs ++ ys) ≡ map f xs ++ map f ys
map-append f [] ys = refl
map-append f (x ∷ xs) ys = ap (◌∷◌ (f x)) (map-append f xs ys)

none-best : (ss : List (List ℕ)) → first_best (map (λ (s : List ℕ). nothing) ss) ≡ nothing
none-best [] = refl
none-best (s ∷ ss) = none-best ss

-- ---- one step, then all lists

pub along-ext : {State : Type 0} (m : ℕ) (t : Step State) (f g : State → Plan) → ((x : State) → f x ≡ g x) → along m t f ≡ along m t g
along-ext m stop f g h = refl
along-ext m (go e x) f g h = ap (after m e) (h x)

best-along : {State : Type 0} (m : ℕ) (t : Step State) (f : State → List ℕ → Plan) (ss : List (List ℕ))
    → first_best (map (λ s. along m t (λ x. f x s)) ss) ≡ along m t (λ x. first_best (map (f x) ss))
best-along m stop f ss = none-best ss
best-along m (go g x) f ss = ap first_best (sym (map-map (after m g) (f x) ss)) ∙ best-after m g (map (f x) ss)

-- the best of all lists that begin with one of these outputs, by the best of those that begin with each
pub best-prefixed : (f : List ℕ → Plan) (ms : List ℕ) (ss : List (List ℕ))
    → first_best (map f (prefixed ms ss)) ≡ first_best (map (λ m. first_best (map (λ s. f (m ∷ s)) ss)) ms)
best-prefixed f [] ss = refl
best-prefixed f (m ∷ ms) ss =
    ap first_best (map-append f (map (λ s. m ∷ s) ss) (prefixed ms ss))
    ∙ best-append (map f (map (λ s. m ∷ s) ss)) (map f (prefixed ms ss))
    ∙ ap₂ better (ap first_best (map-map f (λ s. m ∷ s) ss)) (best-prefixed f ms ss)

module _ (State Input : Type 0) (step : State → Input → ℕ → Step State) (ends : State → BestProfit) where
  -- the best of all lists of outputs is found step by step
  pub optimal : (outputs : List ℕ) (is : List Input) (x : State)
      → first_best (map (run State Input step ends is x) (lists outputs (length is))) ≡ best_from State Input step ends outputs is x
  optimal outputs [] x = better-nothing (ended (ends x))
  optimal outputs (i ∷ is) x =
      let ss = lists outputs (length is) in
      let rest : State → Plan = λ y. first_best (map (run State Input step ends is y) ss) in
      let best = best_from State Input step ends outputs is in
      best-prefixed (run State Input step ends (i ∷ is) x) outputs ss
      ∙ ap (λ (f : ℕ → Plan). first_best (map f outputs))
      (fun_ext (λ m.
      best-along m (step x i m) (run State Input step ends is) ss
      ∙ along-ext m (step x i m) rest best (λ y. optimal outputs is y)))

  -- inputs that are made of others
  pub best-map : {From : Type 0} (made : From → Input) (outputs : List ℕ) (is : List From) (x : State)
      → best_from State Input step ends outputs (map made is) x ≡ best_from State From (λ y i. step y (made i)) ends outputs is x
  best-map made outputs [] x = refl
  best-map made outputs (i ∷ is) x =
      ap (λ (f : State → Plan). first_best (map (λ m. along m (step x (made i) m) f) outputs)) (fun_ext (λ y. best-map made outputs is y))

module _ (State Input : Type 0) (step : State → Input → ℕ → Step State) where
  pub walk-map : {From : Type 0} (made : From → Input) (is : List From) (x : State) (a : List ℕ)
      → walk State Input step (map made is) x a ≡ walk State From (λ y i. step y (made i)) is x a
  walk-map made [] x [] = refl
  walk-map made [] x (m ∷ a) = refl
  walk-map made (i ∷ is) x [] = refl
  walk-map made (i ∷ is) x (m ∷ a) = ap (then (step x (made i) m)) (fun_ext (λ y. walk-map made is y a))

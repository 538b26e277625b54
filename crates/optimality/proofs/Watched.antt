-- A machine beside a watch runs what the machine runs and the watch passes; and machines that match, beside watches that match, match.
use mathlib.Core.Path.{◌≡◌, refl, ap, ◌∙◌}
use mathlib.Core.Bool.{Bool, true, false, cond, ◌&&◌}
use mathlib.Core.List.{List, [], ◌∷◌}
use Prim.Native.Nat.{ℕ}
use lib.IntN.{ℤ}
use Rattle.commitment.specs.Types.{BestProfit}
use Rattle.commitment.specs.Best.{Plan, nothing}
use Rattle.optimality.specs.Machine.{Step, stop, go, allow, after, along, run}
use Rattle.optimality.specs.Watched.{Watch, beside, watched, passes, unwatched}
use Rattle.optimality.proofs.Simulate.{Match, match-allow}

-- ---- runs

after-cond : (m : ℕ) (g : ℤ) (t : Bool) (p : Plan) → after m g (cond t p nothing) ≡ cond t (after m g p) nothing
after-cond m g true p = refl
after-cond m g false p = refl

none-either : (t : Bool) → nothing ≡ cond t nothing nothing
none-either true = refl
none-either false = refl

module _ (State Seen Input : Type 0) (step : State → Input → ℕ → Step State) (watch : Watch Seen Input) (ends : State → BestProfit) where
  pub run-watched : (is : List Input) (x : State) (v : Seen) (s : List ℕ)
      → run (State × Seen) Input (watched State Seen Input step watch) (unwatched ends) is (x, v) s
      ≡ cond (passes Seen Input watch is v s) (run State Input step ends is x s) nothing
  run-watched [] x v [] = refl
  run-watched [] x v (m ∷ s) = refl
  run-watched (i ∷ is) x v [] = refl
  run-watched (i ∷ is) x v (m ∷ s) =
      by (watch.allows v i m) (step x i m) (λ y. run-watched is y (watch.sees v i m) s)
    where
      seen : Seen
      seen = watch.sees v i m

      rest : Bool
      rest = passes Seen Input watch is seen s

      runs : State → Plan
      runs y = run State Input step ends is y s

      both : State × Seen → Plan
      both y = run (State × Seen) Input (watched State Seen Input step watch) (unwatched ends) is y s

      by : (t : Bool) (r : Step State) → ((y : State) → both (y, seen) ≡ cond rest (runs y) nothing)
          → along m (allow t (beside seen r)) both ≡ cond (t && rest) (along m r runs) nothing
      by false r later = refl
      by true stop later = none-either rest
      by true (go g y) later = ap (after m g) (later y) ∙ after-cond m g rest (runs y)

-- ---- simulation

module _ {A B C D : Type 0} (Alike : A → B → Type 0) (Seen : C → D → Type 0) where
  abbrev pub AlikeBoth : A × C → B × D → Type 0
  AlikeBoth (x, v) (y, w) = Alike x y × Seen v w

  pub match-beside : (s t : Bool) (v : C) (w : D) (a : Step A) (b : Step B) → t ≡ s → (s ≡ true → Seen v w) → Match Alike a b
      → Match AlikeBoth (allow s (beside v a)) (allow t (beside w b))
  match-beside s t v w a b e seen h = match-allow AlikeBoth s t (beside v a) (beside w b) e (λ o. by a b (seen o) h)
    where
      by : (a : Step A) (b : Step B) → Seen v w → Match Alike a b → Match AlikeBoth (beside v a) (beside w b)
      by stop stop k h = tt
      by stop (go g y) k h = absurd h
      by (go g x) stop k h = absurd h
      by (go g x) (go g' y) k h = (h.0, (h.1, k))

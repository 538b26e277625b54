-- Two machines that match step by step have the same best plan.
use mathlib.Core.Path.{◌≡◌, refl, sym, ap, ap₂, ◌∙◌, subst}
use mathlib.Core.Bool.{Bool, true, false}
use mathlib.Core.List.{List, [], ◌∷◌, map, Memᴰ}
use Prim.Native.Nat.{ℕ, suc}
use lib.IntN.{ℤ, ◌+ℤ◌}
use lib.ListN.{length}
use Rattle.commitment.specs.Types.{BestProfit}
use Rattle.commitment.specs.Best.{Plan, first_best}
use Rattle.optimality.specs.Machine.{Step, stop, go, ended, allow, earning, then, walk, after, along, best_from}
use Rattle.optimality.proofs.Rival.{AllIn}
use Rattle.optimality.proofs.Split.{go-parts, no_step, parts}

-- both steps are not allowed, or both earn the same and lead to states that are alike
abbrev pub Match : {A B : Type 0} → (A → B → Type 0) → Step A → Step B → Type 0
Match Alike stop stop = Unit {0}
Match Alike stop (go g y) = ⊥
Match Alike (go g x) stop = ⊥
Match Alike (go g x) (go g' y) = (g ≡ g') × Alike x y

pub match-allow : {A B : Type 0} (Alike : A → B → Type 0) (s t : Bool) (x : Step A) (y : Step B) → t ≡ s → (s ≡ true → Match Alike x y)
    → Match Alike (allow s x) (allow t y)
match-allow Alike true t x y e h = rw e (h refl)
match-allow Alike false t x y e h = rw e tt

map_same : {B : Type 0} (f g : ℕ → B) (ms : List ℕ) → ((m : ℕ) → Memᴰ m ms → f m ≡ g m) → map f ms ≡ map g ms
map_same f g [] h = refl
map_same f g (m ∷ ms) h = ap₂ ◌∷◌ (h m (Memᴰ.head refl)) (map_same f g ms (λ n i. h n (Memᴰ.tail i)))

along-match : {A B : Type 0} (Alike : A → B → Type 0) (m : ℕ) (s : Step A) (t : Step B) (f : A → Plan) (g : B → Plan) → Match Alike s t
    → ((x : A) (y : B) → Alike x y → f x ≡ g y) → along m s f ≡ along m t g
along-match Alike m stop stop f g h k = refl
along-match Alike m stop (go e y) f g h k = absurd h
along-match Alike m (go e x) stop f g h k = absurd h
along-match Alike m (go e x) (go e' y) f g h k = ap₂ (λ (z : ℤ) (a : Plan). after m z a) h.0 (k x y h.1)

-- `Alike n` says that two states are alike with n intervals to go
module _ (A B Input : Type 0) (one : A → Input → ℕ → Step A) (two : B → Input → ℕ → Step B)
    (one-ends : A → BestProfit) (two_ends : B → BestProfit) (Alike : ℕ → A → B → Type 0) (outputs : List ℕ)
    (match : (n : ℕ) (x : A) (y : B) (i : Input) (m : ℕ) → Memᴰ m outputs → Alike (suc n) x y → Match (Alike n) (one x i m) (two y i m))
    (alike-ends : (x : A) (y : B) → Alike 0 x y → one-ends x ≡ two_ends y) where
  pub same-best : (is : List Input) (x : A) (y : B) → Alike (length is) x y
      → best_from A Input one one-ends outputs is x ≡ best_from B Input two two_ends outputs is y
  same-best [] x y h = ap ended (alike-ends x y h)
  same-best (i ∷ is) x y h =
      let f = best_from A Input one one-ends outputs is in
      let g = best_from B Input two two_ends outputs is in
      ap first_best
      (map_same (λ m. along m (one x i m) f) (λ m. along m (two y i m) g) outputs
      (λ m mem. along-match (Alike (length is)) m (one x i m) (two y i m) f g (match (length is) x y i m mem h) (λ x' y' h'. same-best is x' y' h')))

  -- a walk of the one is a walk of the other, to a state that is alike
  pub same-walk : (is : List Input) (x : A) (y : B) → Alike (length is) x y → (a : List ℕ) → AllIn outputs a → (g : ℤ) (x' : A)
      → walk A Input one is x a ≡ go g x' → (y' : B) × (walk B Input two is y a ≡ go g y') × Alike 0 x' y'
  same-walk [] x y h [] t g x' e =
      let k = go-parts e in
      (y, ap (λ (z : ℤ). go z y) k.0, subst (λ (z : A). Alike 0 z y) k.1 h)
  same-walk [] x y h (m ∷ a) t g x' e = absurd (no_step e)
  same-walk (i ∷ is) x y h [] t g x' e = absurd (no_step e)
  same-walk (i ∷ is) x y h (m ∷ a) t g x' e =
      by (one x i m) (two y i m) (match (length is) x y i m t.0 h) (λ u v k d w. same-walk is u v k a t.1 d x' w) e
    where
      by : (r : Step A) (s : Step B) → Match (Alike (length is)) r s
          → ((u : A) (v : B) → Alike (length is) u v → (d : ℤ) → walk A Input one is u a ≡ go d x'
          → (y' : B) × (walk B Input two is v a ≡ go d y') × Alike 0 x' y')
          → then r (λ z. walk A Input one is z a) ≡ go g x'
          → (y' : B) × (then s (λ z. walk B Input two is z a) ≡ go g y') × Alike 0 x' y'
      by stop stop k later e = absurd (no_step e)
      by stop (go d v) k later e = absurd k
      by (go d u) stop k later e = absurd k
      by (go d u) (go d' v) k later e =
          let p = parts (go d u) (λ z. walk A Input one is z a) g x' e in
          let q = go-parts p.steps in
          let r = later u v k.1 p.second (ap (λ (z : A). walk A Input one is z a) q.1 ∙ p.goes) in
          (r.0, ap (earning d') r.1 ∙ ap (λ (z : ℤ). go z r.0) (ap (λ (z : ℤ). z +ℤ p.second) (sym k.0 ∙ q.0) ∙ p.sum), r.2)

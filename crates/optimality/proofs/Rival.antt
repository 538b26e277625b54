-- For any machine of steps whose outputs are tried ascending: no run earns more than the best, none that earns as much is earlier,
-- and the best is itself a run.
use Rattle.std.specs.Prelude.{None, Some}
use mathlib.Core.Path.{◌≡◌, refl, sym, ap, ◌∙◌, subst}
use mathlib.Core.Bool.{true, false}
use mathlib.Core.List.{List, [], ◌∷◌, map, Memᴰ}
use mathlib.Core.Logic.{◌⊎◌, ⊎_elim, inl, inr}
use Prim.Native.Nat.{ℕ, suc, ◌<◌}
use native.Mathlib.Omega.{arith}
use borrow.Author.Tests.{le-ltb, ne_eqb, eq-eqb}
use lib.IntN.{ℤ, ◌+ℤ◌}
use lib.ListN.{length}
use lib.Signed.{◌≤ℤ◌, ◌<ℤ◌, lt_z}
use Rattle.integers.proofs.Linear.{zarith, zsum}
use Rattle.integers.proofs.Order.{lt_z-dec}
use Rattle.commitment.specs.Types.{BestProfit}
use Rattle.commitment.specs.Order.{earlier}
use Rattle.commitment.specs.Best.{Plan, nothing, plan, better, first_best}
use Rattle.optimality.specs.Machine.{Step, stop, go, ended, after, along, run, best_from}

pub not-plan : {s : List ℕ} {p : ℤ} → nothing ≡ plan s p → ⊥
not-plan e = let z : ◌≡◌ {A = ℕ} 0 1 = cc in omega arith

-- ---- a plan beats a rival r that earns q: it earns more, or as much and r is not earlier

abbrev pub Beats : Plan → List ℕ → ℤ → Type 0
Beats nothing r q = ⊥
Beats (plan s p) r q = (q <ℤ p) ⊎ ((q ≡ p) × (earlier r s ≡ false))

beats-left : (a b : Plan) (r : List ℕ) (q : ℤ) → Beats a r q → Beats (better a b) r q
beats-left nothing b r q h = absurd h
beats-left (plan s p) nothing r q h = h
beats-left (plan s p) (plan t p') r q h =
    ⊎_elim
    (λ (w : (lt_z p p' ≡ true) × (p <ℤ p')).
    rw w.0 (⊎_elim (λ (k : q <ℤ p). inl (omega zarith)) (λ (k : (q ≡ p) × (earlier r s ≡ false)). inl (omega zarith)) h))
    (λ (w : (lt_z p p' ≡ false) × (p' ≤ℤ p)). rw w.0 h)
    (lt_z-dec p p')

-- r is not earlier than the plan's schedule
abbrev NotBefore : List ℕ → Plan → Type 0
NotBefore r nothing = Unit {0}
NotBefore r (plan s p) = earlier r s ≡ false

beats-right : (a b : Plan) (r : List ℕ) (q : ℤ) → NotBefore r a → Beats b r q → Beats (better a b) r q
beats-right nothing b r q o h = h
beats-right (plan s p) nothing r q o h = absurd h
beats-right (plan s p) (plan t p') r q o h =
    ⊎_elim
    (λ (w : (lt_z p p' ≡ true) × (p <ℤ p')). rw w.0 h)
    (λ (w : (lt_z p p' ≡ false) × (p' ≤ℤ p)). rw w.0 (below w.1 h))
    (lt_z-dec p p')
  where
    below : p' ≤ℤ p → (q <ℤ p') ⊎ ((q ≡ p') × (earlier r t ≡ false)) → (q <ℤ p) ⊎ ((q ≡ p) × (earlier r s ≡ false))
    below g k =
        let le : q ≤ℤ p' = ⊎_elim (λ (x : q <ℤ p'). omega zarith) (λ (x : (q ≡ p') × (earlier r t ≡ false)). omega zarith) k in
        ⊎_elim (λ (x : (lt_z q p ≡ true) × (q <ℤ p)). inl x.1) (λ (x : (lt_z q p ≡ false) × (p ≤ℤ q)). inr (omega zarith, o)) (lt_z-dec q p)

-- the same output in front of both
beats-after : (m : ℕ) (g : ℤ) (a : Plan) (r : List ℕ) (q : ℤ) → Beats a r q → Beats (after m g a) (m ∷ r) (g +ℤ q)
beats-after m g nothing r q h = h
beats-after m g (plan s p) r q h =
    ⊎_elim (λ (k : q <ℤ p). inl (omega (zarith, zsum g q, zsum g p)))
    (λ (k : (q ≡ p) × (earlier r s ≡ false)).
    inr (ap (λ (z : ℤ). g +ℤ z) k.0, simp (le-ltb m m (omega arith), eq-eqb m m refl) k.1))
    h

-- ---- the outputs tried

abbrev pub Ascending : List ℕ → Type 0
Ascending [] = Unit {0}
Ascending (m ∷ ms) = ((n : ℕ) → Memᴰ n ms → m < n) × Ascending ms

abbrev pub AllIn : List ℕ → List ℕ → Type 0
AllIn outputs [] = Unit {0}
AllIn outputs (m ∷ ms) = Memᴰ m outputs × AllIn outputs ms

-- ---- the best is one of the plans tried

pub pick : (bs : List Plan) (s : List ℕ) (p : ℤ) → first_best bs ≡ plan s p → Memᴰ (plan s p) bs
pick [] s p e = absurd (not-plan e)
pick (a ∷ bs) s p e =
    ⊎_elim (λ (h : plan s p ≡ a). mathlib.Core.List.Memᴰ.head h) (λ (h : first_best bs ≡ plan s p). mathlib.Core.List.Memᴰ.tail (pick bs s p h)) (either a (first_best bs) e)
  where
    either : (a b : Plan) → better a b ≡ plan s p → (plan s p ≡ a) ⊎ (b ≡ plan s p)
    either nothing b e = inr e
    either (plan t q) nothing e = inl (sym e)
    either (plan t q) (plan u q') e =
        ⊎_elim (λ (w : (lt_z q q' ≡ true) × (q <ℤ q')). inr (rw w.0 at e)) (λ (w : (lt_z q q' ≡ false) × (q' ≤ℤ q)). inl (sym (rw w.0 at e)))
        (lt_z-dec q q')

pub found : {A : Type 0} (f : A → Plan) (ms : List A) (a : Plan) → Memᴰ a (map f ms) → (m : A) × Memᴰ m ms × (f m ≡ a)
found f [] a h = absurd (mathlib.Core.List.Memᴰ.not-nil h)
found f (m ∷ ms) a h =
    ⊎_elim (λ (e : a ≡ f m). (m, mathlib.Core.List.Memᴰ.head refl, sym e))
    (λ (i : Memᴰ a (map f ms)). let r = found f ms a i in (r.0, mathlib.Core.List.Memᴰ.tail r.1, r.2))
    (mathlib.Core.List.Memᴰ.cases_cons h)

-- ---- one step, then the rest

module _ {State : Type 0} where
  -- after a smaller first output
  smaller-first : (m n : ℕ) (r : List ℕ) (t : Step State) (f : State → Plan) → m < n → NotBefore (n ∷ r) (along m t f)
  smaller-first m n r stop f h = tt
  smaller-first m n r (go g x) f h = in-front (f x)
    where
      in-front : (a : Plan) → NotBefore (n ∷ r) (after m g a)
      in-front nothing = tt
      in-front (plan s p) = simp (le-ltb n m (omega arith), ne_eqb n m (λ (e : n ≡ m). omega arith))

  among : (ms : List ℕ) (f : ℕ → Step State) (k : State → Plan) (m : ℕ) (r : List ℕ) (q : ℤ) → Ascending ms → Memᴰ m ms
      → Beats (along m (f m) k) (m ∷ r) q → Beats (first_best (map (λ n. along n (f n) k) ms)) (m ∷ r) q
  among [] f k m r q asc mem h = absurd (mathlib.Core.List.Memᴰ.not-nil mem)
  among (n ∷ ms) f k m r q asc mem h =
      let rest = first_best (map (λ j. along j (f j) k) ms) in
      ⊎_elim
      (λ (e : m ≡ n). rw e (beats-left (along n (f n) k) rest (n ∷ r) q (rw e at h)))
      (λ (i : Memᴰ m ms).
      beats-right (along n (f n) k) rest (m ∷ r) q (smaller-first n m r (f n) k (asc.0 m i)) (among ms f k m r q asc.1 i h))
      (mathlib.Core.List.Memᴰ.cases_cons mem)

  past-step : (m : ℕ) (r : List ℕ) (q : ℤ) (t : Step State) (f g : State → Plan) → ((x : State) (q' : ℤ) → f x ≡ plan r q' → Beats (g x) r q')
      → along m t f ≡ plan (m ∷ r) q → Beats (along m t g) (m ∷ r) q
  past-step m r q stop f g ih e = absurd (not-plan e)
  past-step m r q (go d x) f g ih e = from (f x) (g x) (ih x) e
    where
      from : (b a : Plan) → ((q' : ℤ) → b ≡ plan r q' → Beats a r q') → after m d b ≡ plan (m ∷ r) q → Beats (after m d a) (m ∷ r) q
      from nothing a ih e = absurd (not-plan e)
      from (plan s p) a ih e = let h : d +ℤ p ≡ q = cc in rw (← h) (beats-after m d a r p (ih p (cc)))

  -- a plan along a step is its output in front of a plan
  Front : List ℕ → ℕ → Step State → (State → List ℕ → Plan) → List ℕ → ℤ → Type 0
  Front outputs m t f s p = (r : List ℕ) × (m ∷ r ≡ s) × AllIn outputs r × (along m t (λ x. f x r) ≡ plan s p)

  front : (outputs : List ℕ) (m : ℕ) (t : Step State) (k : State → Plan) (f : State → List ℕ → Plan)
      → ((x : State) (s : List ℕ) (p : ℤ) → k x ≡ plan s p → (f x s ≡ plan s p) × AllIn outputs s)
      → (s : List ℕ) (p : ℤ) → along m t k ≡ plan s p → Front outputs m t f s p
  unfolding Front
  front outputs m stop k f ih s p e = absurd (not-plan e)
  front outputs m (go g x) k f ih s p e = from (k x) (ih x) e
    where
      from : (a : Plan) → ((s : List ℕ) (p : ℤ) → a ≡ plan s p → (f x s ≡ plan s p) × AllIn outputs s) → after m g a ≡ plan s p
          → (r : List ℕ) × (m ∷ r ≡ s) × AllIn outputs r × (after m g (f x r) ≡ plan s p)
      from nothing ih e = absurd (not-plan e)
      from (plan r q) ih e = let i = ih r q refl in (r, (cc), i.1, ap (after m g) i.0 ∙ e)

  goes_on : (m : ℕ) (t : Step State) (k : State → Plan) (s : List ℕ) (p : ℤ) → along m t k ≡ plan s p
      → (x : State) × (r : List ℕ) × (q : ℤ) × (k x ≡ plan r q)
  goes_on m stop k s p e = absurd (not-plan e)
  goes_on m (go g x) k s p e = from (k x) refl e
    where
      from : (a : Plan) → k x ≡ a → after m g a ≡ plan s p → (x : State) × (r : List ℕ) × (q : ℤ) × (k x ≡ plan r q)
      from nothing i e = absurd (not-plan e)
      from (plan r q) i e = (x, r, q, i)

-- no interval, no output
ended-empty : (v : BestProfit) (s : List ℕ) (p : ℤ) → ended v ≡ plan s p → [] ≡ s
ended-empty None s p e = absurd (not-plan e)
ended-empty (Some q) s p e = cc

module _ (State Input : Type 0) (step : State → Input → ℕ → Step State) (ends : State → BestProfit) where
  -- a run has an output for each interval
  pub run_length : (is : List Input) (x : State) (r s : List ℕ) (p : ℤ) → run State Input step ends is x r ≡ plan s p → length r ≡ length is
  run_length [] x [] s p e = refl
  run_length [] x (m ∷ r) s p e = absurd (not-plan e)
  run_length (i ∷ is) x [] s p e = absurd (not-plan e)
  run_length (i ∷ is) x (m ∷ r) s p e =
      let a = goes_on m (step x i m) (λ y. run State Input step ends is y r) s p e in
      ap suc (run_length is a.0 r a.1 a.2 a.3)

  module _ (outputs : List ℕ) where
    -- the best is a run of such outputs
    pub attained : (is : List Input) (x : State) (s : List ℕ) (p : ℤ) → best_from State Input step ends outputs is x ≡ plan s p
        → (run State Input step ends is x s ≡ plan s p) × AllIn outputs s
    unfolding Front
    attained [] x s p e =
        subst (λ (z : List ℕ). (run State Input step ends [] x z ≡ plan s p) × AllIn outputs z) (ended-empty (ends x) s p e) (e, tt)
    attained (i ∷ is) x s p e =
        let k = best_from State Input step ends outputs is in
        let try : ℕ → Plan = λ m. along m (step x i m) k in
        let f = found try outputs (plan s p) (pick (map try outputs) s p e) in
        let c = front outputs f.0 (step x i f.0) k (λ y r. run State Input step ends is y r) (λ y r q e'. attained is y r q e') s p f.2 in
        subst (λ (z : List ℕ). (run State Input step ends (i ∷ is) x z ≡ plan z p) × AllIn outputs z) c.1
        (c.3 ∙ ap (λ (z : List ℕ). plan z p) (sym c.1), (f.1, c.2))

    -- the best beats every run of such outputs
    pub no_rival : Ascending outputs → (is : List Input) (x : State) (r : List ℕ) (q : ℤ) → AllIn outputs r → run State Input step ends is x r ≡ plan r q
        → Beats (best_from State Input step ends outputs is x) r q
    no_rival asc [] x [] q a e = subst (λ (b : Plan). Beats b [] q) (sym e) (inr (refl, refl))
    no_rival asc [] x (m ∷ r) q a e = absurd (not-plan e)
    no_rival asc (i ∷ is) x [] q a e = absurd (not-plan e)
    no_rival asc (i ∷ is) x (m ∷ r) q a e =
        among outputs (step x i) (best_from State Input step ends outputs is) m r q asc a.0
        (past-step m r q (step x i m) (λ y. run State Input step ends is y r) (best_from State Input step ends outputs is)
        (λ y q' e'. no_rival asc is y r q' a.1 e')
        e)

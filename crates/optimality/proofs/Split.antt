-- A best plan cut in two, of any machine whose outputs are tried ascending: its later part is the best plan from the state where its earlier part leads,
-- and its earlier part is the best of the plans that end in that state.
use Rattle.std.specs.Prelude.{None, Some}
use mathlib.Core.Path.{◌≡◌, refl, sym, ap, ap₂, ◌∙◌, subst}
use mathlib.Core.Bool.{Bool, false, ◌&&◌, ◌||◌}
use mathlib.Core.List.{List, [], ◌∷◌, ◌++◌, append-nil}
use mathlib.Core.Logic.{◌⊎◌, ⊎_elim, inl, inr}
use Prim.Native.Nat.{ℕ, suc, ◌+◌}
use native.Mathlib.Omega.{arith}
use borrow.Author.Tests.{le-ltb, eq-eqb}
use lib.Dec.{ltb, eqb}
use lib.IntN.{ℤ, pos, ◌+ℤ◌, +ℤ_idl, +ℤ_idr}
use lib.ListN.{length}
use lib.Signed.{◌≤ℤ◌, ◌<ℤ◌}
use Rattle.integers.proofs.Linear.{zarith, zsum}
use Rattle.commitment.specs.Types.{BestProfit}
use Rattle.commitment.specs.Order.{earlier}
use Rattle.commitment.specs.Best.{Plan, nothing, plan}
use Rattle.optimality.specs.Machine.{Step, stop, go, earning, then, walk, after, along, run, best_from}
use Rattle.optimality.proofs.Rival.{not-plan, Beats, Ascending, AllIn, run_length, attained, no_rival}
use Rattle.optimality.proofs.Best.{neither-earlier}

-- ---- the order of lists that begin or end alike

same_first : (m : ℕ) (t : Bool) → (ltb m m || (eqb m m && t)) ≡ t
same_first m t = simp (le-ltb m m (omega arith), eq-eqb m m refl)

same-front : (a s t : List ℕ) → earlier (a ++ s) (a ++ t) ≡ earlier s t
same-front [] s t = refl
same-front (m ∷ a) s t = same_first m (earlier (a ++ s) (a ++ t)) ∙ same-front a s t

never-itself : (s : List ℕ) → earlier s s ≡ false
never-itself [] = refl
never-itself (m ∷ s) = same_first m (earlier s s) ∙ never-itself s

same_end : (s t a : List ℕ) → length s ≡ length t → earlier (s ++ a) (t ++ a) ≡ earlier s t
same_end [] [] a n = never-itself a
same_end [] (k ∷ t) a n = absurd (omega arith)
same_end (m ∷ s) [] a n = absurd (omega arith)
same_end (m ∷ s) (k ∷ t) a n = ap (λ (b : Bool). ltb m k || (eqb m k && b)) (same_end s t a (omega arith))

-- ---- sums

plan-parts : {s t : List ℕ} {p q : ℤ} → plan s p ≡ plan t q → (s ≡ t) × (p ≡ q)
plan-parts e = (cc, cc)

pub go-parts : {State : Type 0} {g h : ℤ} {x y : State} → ◌≡◌ {A = Step State} (go g x) (go h y) → (g ≡ h) × (x ≡ y)
go-parts e = (cc, cc)

pub no_step : {State : Type 0} {g : ℤ} {x : State} → ◌≡◌ {A = Step State} stop (go g x) → ⊥
no_step e = let z : ◌≡◌ {A = ℕ} 0 1 = cc in omega arith

-- outputs in front of a plan, that earn g
abbrev prefixed : List ℕ → ℤ → Plan → Plan
prefixed a g nothing = nothing
prefixed a g (plan s p) = plan (a ++ s) (g +ℤ p)

all-in-front : (outputs a b : List ℕ) → AllIn outputs (a ++ b) → AllIn outputs a × AllIn outputs b
all-in-front outputs [] b h = (tt, h)
all-in-front outputs (m ∷ a) b h = let r = all-in-front outputs a b h.1 in ((h.0, r.0), r.1)

all-joined : (outputs a b : List ℕ) → AllIn outputs a → AllIn outputs b → AllIn outputs (a ++ b)
all-joined outputs [] b h k = k
all-joined outputs (m ∷ a) b h k = (h.0, all-joined outputs a b h.1 k)

-- ---- one step, and those after it

pub record Parts {State : Type 0} (t : Step State) (next : State → Step State) (g : ℤ) (y : State) : Type 0 where
  pub first : ℤ
  pub at : State
  pub second : ℤ
  pub steps : t ≡ go first at
  pub goes : next at ≡ go second y
  pub sum : first +ℤ second ≡ g

pub parts : {State : Type 0} (t : Step State) (next : State → Step State) (g : ℤ) (y : State) → then t next ≡ go g y → Parts t next g y
parts stop next g y e = absurd (no_step e)
parts (go d x) next g y e = by (next x) refl e
  where
    by : (t : Step _) → next x ≡ t → earning d t ≡ go g y → Parts (go d x) next g y
    by stop i e = absurd (no_step e)
    by (go h z) i e =
        let k = go-parts e in
        record { first = d; at = x; second = h; steps = refl; goes = i ∙ ap (go h) k.1; sum = k.0 }

module _ (State Input : Type 0) (step : State → Input → ℕ → Step State) where
  -- a walk has an output for each interval
  pub walk-length : (is : List Input) (x : State) (s : List ℕ) (g : ℤ) (y : State) → walk State Input step is x s ≡ go g y → length s ≡ length is
  walk-length [] x [] g y e = refl
  walk-length [] x (m ∷ s) g y e = absurd (no_step e)
  walk-length (i ∷ is) x [] g y e = absurd (no_step e)
  walk-length (i ∷ is) x (m ∷ s) g y e =
      let k = parts (step x i m) (λ z. walk State Input step is z s) g y e in
      ap suc (walk-length is k.at s k.second y k.goes)

  module _ (ends : State → BestProfit) where
    -- a run over both parts is a walk over the first, and a run from there
    pub run_on : (is js : List Input) (x : State) (a b : List ℕ) (g : ℤ) (y : State) → walk State Input step is x a ≡ go g y
        → run State Input step ends (is ++ js) x (a ++ b) ≡ prefixed a g (run State Input step ends js y b)
    run_on [] js x [] b g y e =
        let k = go-parts e in
        rw (← k.0, ← k.1) (sym (in-front-of (run State Input step ends js x b)))
      where
        in-front-of : (q : Plan) → prefixed [] (pos 0) q ≡ q
        in-front-of nothing = refl
        in-front-of (plan s p) = ap (plan s) (+ℤ_idl p)
    run_on [] js x (m ∷ a) b g y e = absurd (no_step e)
    run_on (i ∷ is) js x [] b g y e = absurd (no_step e)
    run_on (i ∷ is) js x (m ∷ a) b g y e =
        let k = parts (step x i m) (λ z. walk State Input step is z a) g y e in
        ap (λ (t : Step State). along m t (λ z. run State Input step ends (is ++ js) z (a ++ b))) k.steps
        ∙ ap (after m k.first) (run_on is js k.at a b k.second y k.goes)
        ∙ joined (run State Input step ends js y b) k.first k.second k.sum
      where
        joined : (q : Plan) (d h : ℤ) → d +ℤ h ≡ g → after m d (prefixed a h q) ≡ prefixed (m ∷ a) g q
        joined nothing d h e = refl
        joined (plan s p) d h e = ap (plan (m ∷ (a ++ s))) (omega (zarith, zsum h p, zsum d (h +ℤ p), zsum d h, zsum g p))

    -- and every run over both parts is
    pub record Cut (is js : List Input) (x : State) (s : List ℕ) (p : ℤ) : Type 0 where
      pub front : List ℕ
      pub back : List ℕ
      pub whole : front ++ back ≡ s
      pub earned : ℤ
      pub at : State
      pub leads : walk State Input step is x front ≡ go earned at
      pub rest : ℤ
      pub runs : run State Input step ends js at back ≡ plan back rest
      pub sum : earned +ℤ rest ≡ p

    pub cut : (is js : List Input) (x : State) (s : List ℕ) (p : ℤ) → run State Input step ends (is ++ js) x s ≡ plan s p → Cut is js x s p
    cut [] js x s p e =
        record { front = []; back = s; whole = refl; earned = pos 0; at = x; leads = refl; rest = p; runs = e; sum = +ℤ_idl p }
    cut (i ∷ is) js x [] p e = absurd (not-plan e)
    cut (i ∷ is) js x (m ∷ s) p e = by (step x i m) refl (λ y q r. cut is js y s q r) e
      where
        by : (t : Step State) → step x i m ≡ t → ((y : State) (q : ℤ) → run State Input step ends (is ++ js) y s ≡ plan s q → Cut is js y s q)
            → along m t (λ z. run State Input step ends (is ++ js) z s) ≡ plan (m ∷ s) p → Cut (i ∷ is) js x (m ∷ s) p
        by stop t more e = absurd (not-plan e)
        by (go d y) t more e = on (run State Input step ends (is ++ js) y s) refl e
          where
            on : (q : Plan) → run State Input step ends (is ++ js) y s ≡ q → after m d q ≡ plan (m ∷ s) p → Cut (i ∷ is) js x (m ∷ s) p
            on nothing r e = absurd (not-plan e)
            on (plan s' q) r e =
                let same : s' ≡ s = cc in
                let total : d +ℤ q ≡ p = cc in
                let k = more y q (r ∙ ap (λ (z : List ℕ). plan z q) same) in
                record {
                  front = m ∷ k.front;
                  back = k.back;
                  whole = ap (◌∷◌ m) k.whole;
                  earned = d +ℤ k.earned;
                  at = k.at;
                  leads = ap (λ (t : Step State). then t (λ z. walk State Input step is z k.front)) t ∙ ap (earning d) k.leads;
                  rest = k.rest;
                  runs = k.runs;
                  sum = omega (zarith, k.sum, zsum d k.earned, zsum (d +ℤ k.earned) k.rest, zsum k.earned k.rest, zsum d q, total);
                }

  -- ---- the first of the best runs, said of all of them

  module _ (ends : State → BestProfit) (outputs : List ℕ) (asc : Ascending outputs) where
    pub record First (is : List Input) (x : State) (s : List ℕ) (p : ℤ) : Type 0 where
      pub runs : run State Input step ends is x s ≡ plan s p
      pub tried : AllIn outputs s
      pub beats : (r : List ℕ) (q : ℤ) → AllIn outputs r → run State Input step ends is x r ≡ plan r q → Beats (plan s p) r q

    pub is-first : (is : List Input) (x : State) (s : List ℕ) (p : ℤ) → best_from State Input step ends outputs is x ≡ plan s p → First is x s p
    is-first is x s p e =
        let a = attained State Input step ends outputs is x s p e in
        record {
          runs = a.0;
          tried = a.1;
          beats = λ r q t k. subst (λ (b : Plan). Beats b r q) e (no_rival State Input step ends outputs asc is x r q t k);
        }

    -- and it is the best alone
    pub first-is : (is : List Input) (x : State) (s : List ℕ) (p : ℤ) → First is x s p → best_from State Input step ends outputs is x ≡ plan s p
    first-is is x s p f = by (best_from State Input step ends outputs is x) refl (no_rival State Input step ends outputs asc is x s p f.tried f.runs)
      where
        by : (b : Plan) → best_from State Input step ends outputs is x ≡ b → Beats b s p → best_from State Input step ends outputs is x ≡ plan s p
        by nothing e h = absurd h
        by (plan t q) e h =
            let a = attained State Input step ends outputs is x t q e in
            let long = run_length State Input step ends is x s s p f.runs ∙ sym (run_length State Input step ends is x t t q a.0) in
            let le : p ≤ℤ q = ⊎_elim (λ (k : p <ℤ q). omega zarith) (λ (k : (p ≡ q) × (earlier s t ≡ false)). omega zarith) h in
            let ge : q ≤ℤ p = ⊎_elim (λ (k : q <ℤ p). omega zarith) (λ (k : (q ≡ p) × (earlier t s ≡ false)). omega zarith) (f.beats t q a.1 a.0) in
            let first : earlier s t ≡ false = ⊎_elim (λ (k : p <ℤ q). absurd (omega zarith)) (λ (k : (p ≡ q) × (earlier s t ≡ false)). k.1) h in
            let other : earlier t s ≡ false =
            ⊎_elim (λ (k : q <ℤ p). absurd (omega zarith)) (λ (k : (q ≡ p) × (earlier t s ≡ false)). k.1) (f.beats t q a.1 a.0) in
            e ∙ ap₂ plan (sym (neither-earlier s t long first other)) (omega zarith)

  -- ---- the best plan over both parts

  module _ (ends : State → BestProfit) (outputs : List ℕ) (asc : Ascending outputs) (is js : List Input) (x : State) (s : List ℕ) (p : ℤ)
      (best : best_from State Input step ends outputs (is ++ js) x ≡ plan s p) where
    whole : First ends outputs asc (is ++ js) x s p
    whole = is-first ends outputs asc (is ++ js) x s p best

    -- where it stands in between
    pub halves : Cut ends is js x s p
    halves = cut ends is js x s p whole.runs

    tried-halves : AllIn outputs halves.front × AllIn outputs halves.back
    tried-halves = all-in-front outputs halves.front halves.back (subst (AllIn outputs) (sym halves.whole) whole.tried)

    -- what is run in its place, over both parts
    swapped : (a b : List ℕ) (g q : ℤ) → AllIn outputs a → AllIn outputs b → walk State Input step is x a ≡ go g halves.at
        → run State Input step ends js halves.at b ≡ plan b q
        → ((g +ℤ q) <ℤ p) ⊎ ((g +ℤ q ≡ p) × (earlier (a ++ b) (halves.front ++ halves.back) ≡ false))
    swapped a b g q ta tb w r =
        let h = halves in
        let beats = whole.beats (a ++ b) (g +ℤ q) (all-joined outputs a b ta tb) (run_on ends is js x a b g h.at w ∙ ap (prefixed a g) r) in
        subst (λ (z : List ℕ). ((g +ℤ q) <ℤ p) ⊎ ((g +ℤ q ≡ p) × (earlier (a ++ b) z ≡ false))) (sym h.whole) beats

    -- the rest of the best plan is the best from where it stands
    pub rest-best : best_from State Input step ends outputs js halves.at ≡ plan halves.back halves.rest
    rest-best =
        let h = halves in
        first-is ends outputs asc js h.at h.back h.rest
        (record {
          runs = h.runs;
          tried = tried-halves.1;
          beats = λ r q t k.
              ⊎_elim
              (λ (l : (h.earned +ℤ q) <ℤ p). inl (omega (zarith, h.sum, zsum h.earned q, zsum h.earned h.rest)))
              (λ (l : (h.earned +ℤ q ≡ p) × (earlier (h.front ++ r) (h.front ++ h.back) ≡ false)).
              inr (omega (zarith, l.0, h.sum, zsum h.earned q, zsum h.earned h.rest), sym (same-front h.front r h.back) ∙ l.1))
              (swapped h.front r h.earned q tried-halves.0 t h.leads k);
        })

    -- what comes before it is the best of the plans that end there, and earn nothing more by ending
    module _ (only : State → BestProfit) (there : only halves.at ≡ Some (pos 0))
        (alone : (y : State) (q : ℤ) → only y ≡ Some q → (y ≡ halves.at) × (q ≡ pos 0)) where
      -- a walk to where a plan may end
      ending : (is : List Input) (x : State) (a : List ℕ) (g : ℤ) (y : State) → walk State Input step is x a ≡ go g y → only y ≡ Some (pos 0)
          → run State Input step only is x a ≡ plan a g
      ending is x a g y w e =
          let r = run_on only is [] x a [] g y w in
          (rw (append-nil is, append-nil a, e, +ℤ_idr g) at r) ∙ ap (λ (z : List ℕ). plan z g) (append-nil a)

      record AloneEnd (r : List ℕ) (q : ℤ) (c : Cut only is [] x r q) : Type 0 where
        front-all : c.front ≡ r
        earned-all : c.earned ≡ q
        ends_there : c.at ≡ halves.at

      alone-end : {r : List ℕ} {q : ℤ} (c : Cut only is [] x r q) → AloneEnd r q c
      alone-end {r} {q} c = by c.back (only c.at) refl refl c.runs
        where
          by : (b : List ℕ) (v : BestProfit) → c.back ≡ b → only c.at ≡ v → run State Input step only [] c.at c.back ≡ plan c.back c.rest
              → AloneEnd r q c
          by (m ∷ b) v i e k = absurd (not-plan (rw i at k))
          by [] None i e k = absurd (not-plan (rw (i, e) at k))
          by [] (Some z) i e k =
              let t = alone c.at z e in
              let n : plan [] z ≡ plan [] c.rest = rw (i, e) at k in
              let zero : c.rest ≡ pos 0 = sym (plan-parts n).1 ∙ t.1 in
              record {
                front-all = sym (append-nil c.front) ∙ (rw i at c.whole);
                earned-all = sym (+ℤ_idr c.earned) ∙ (rw zero at c.sum);
                ends_there = t.0;
              }

      pub front-best : best_from State Input step only outputs is x ≡ plan halves.front halves.earned
      front-best =
          let h = halves in
          first-is only outputs asc is x h.front h.earned
          (record {
            runs = ending is x h.front h.earned h.at h.leads there;
            tried = tried-halves.0;
            beats = λ r q t k.
                let c = cut only is [] x r q (rw (append-nil is) k) in
                let e = alone-end c in
                let w : walk State Input step is x r ≡ go q h.at =
                ap (walk State Input step is x) (sym e.front-all) ∙ c.leads ∙ ap₂ go e.earned-all e.ends_there in
                let long = walk-length is x r q h.at w ∙ sym (walk-length is x h.front h.earned h.at h.leads) in
                ⊎_elim
                (λ (l : (q +ℤ h.rest) <ℤ p). inl (omega (zarith, h.sum, zsum q h.rest, zsum h.earned h.rest)))
                (λ (l : (q +ℤ h.rest ≡ p) × (earlier (r ++ h.back) (h.front ++ h.back) ≡ false)).
                inr (omega (zarith, l.0, h.sum, zsum q h.rest, zsum h.earned h.rest), sym (same_end r h.front h.back long) ∙ l.1))
                (swapped r h.back q h.rest t tried-halves.1 w h.runs);
          })

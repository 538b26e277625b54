-- The cells' machine has the same best plan as the case, by simulation: a cell counts time in state to mot or mdt, starts and on-intervals
-- no further than the intervals left, and output in blocks. It is shown of the quarters of one month, with the month's figures watched: what the cell has
-- left is capped by them, and what lies above the cap is not touched within the month. A case without months is one whose watch has no figures.
use Rattle.std.specs.Prelude.{None}
use mathlib.Core.Path.{◌≡◌, refl, sym, ap, ap₂, ◌∙◌, subst}
use mathlib.Core.Bool.{Bool, true, false, cond, ◌&&◌, ◌||◌, false≢true, and-false}
use mathlib.Core.List.{List, map, Memᴰ}
use Prim.Native.Nat.{ℕ, zero, suc, ◌+◌, ◌-◌, ◌*◌, ◌/◌, ◌≤◌, min}
use native.Mathlib.Nat.{mul-div_cancel, zero-add}
use native.Mathlib.Omega.{arith}
use borrow.Author.Tests.{leb-true, leb-false, lt-ltb, le-ltb, eq-eqb, ne_eqb}
use lib.Dec.{leb, ltb, eqb, leb-zero}
use lib.IntN.{ℤ, pos, ◌-ℤ◌, +ℤ_idr}
use lib.ListN.{length}
use Rattle.commitment.specs.Types.{BestProfit}
use Rattle.commitment.specs.Types.{Limit}
use Rattle.commitment.specs.declared.UnitRecord.{UnitRecord}
use Rattle.commitment.specs.Profit.{earned, start_cost}
use Rattle.commitment.specs.Best.{outputs}
use Rattle.lists.proofs.Conjunctions.{both}
use Rattle.optimality.specs.declared.Budgets.{Budgets}
use Rattle.optimality.specs.declared.Figures.{Figures}
use Rattle.optimality.specs.declared.Cell.{Cell}
use Rattle.optimality.specs.Machine.{Step, go, allow, anywhere, Quarter, in_quarter, walk, best_from}
use Rattle.optimality.specs.Watched.{beside, watched, unwatched}
use Rattle.optimality.specs.Years.{YearQuarter, in_month}
use Rattle.optimality.specs.Cells.{budgets, taken_of, figures_with, states, after_off, after_on, start_takes, start_pays, gain, may_run}
use Rattle.optimality.specs.Cells.{off_cell, on_cell, on_step, cell_step, plan_at}
use Rattle.optimality.proofs.Ranges.{Ranged}
use Rattle.optimality.proofs.Commit.{affords, spend, Status, status, commit}
use Rattle.optimality.proofs.Outputs.{blocks-of}
use Rattle.optimality.proofs.Machine.{best-map, walk-map}
use Rattle.optimality.proofs.Rival.{AllIn}
use Rattle.optimality.proofs.Simulate.{Match, match-allow, same-best, same-walk}
use Rattle.optimality.proofs.Years.{Spare, spare, spares, sparing, year_step, free}
use Rattle.optimality.proofs.Capped.{Capped, capped-affords, capped-spend, capped-less, cap-affords, cap-spend, cap-less}

-- ---- when a status and a cell are alike, with n intervals to go

abbrev pub Timed : UnitRecord → Bool → ℕ → ℕ → Type 0
Timed u true spent s = (1 ≤ spent) × (s + 1 ≡ min spent u.generator.mot)
Timed u false spent s = (1 ≤ spent) × (s + 1 ≡ u.generator.mot + min spent u.generator.mdt)

abbrev pub is_on : Status → Bool
is_on (status on spent a b c) = on

-- what is left of the year's limitations and of the month's; `above` lies above the cap
abbrev AsLeft : UnitRecord → Budgets → ℕ → (Limit × Limit × Limit) → (Limit × Limit × Limit) → Budgets → Type 0
AsLeft u above n (a, b, c) (a', b', c') x =
    Capped 1 1 (taken_of u.limits.starts) n a a' above.starts x.starts × Capped 1 1 (taken_of u.limits.hours) n b b' above.ons x.ons
    × Capped u.generator.block u.generator.pmax (taken_of u.limits.mwh) n c c' above.blocks x.blocks

abbrev pub Alike : UnitRecord → Budgets → ℕ → Status × Spare → Cell → Type 0
Alike u above n (status on spent a b c, spare on' a' b' c') x =
    (on ≡ on') × Timed u on spent x.state × AsLeft u above n (a, b, c) (a', b', c') x.left

-- ---- steps that are allowed twice

beside-twice : {A B : Type 0} (s t : Bool) (v : B) (g : ℤ) (y : A) → allow s (beside v (allow t (go g y))) ≡ allow (s && t) (go g (y, v))
beside-twice true true v g y = refl
beside-twice true false v g y = refl
beside-twice false t v g y = refl

opened-first : {A B : Type 0} (s t : Bool) (v : B) (r : Step A) → allow s (beside v (allow t r)) ≡ allow t (allow s (beside v r))
opened-first true true v r = refl
opened-first true false v r = refl
opened-first false true v r = refl
opened-first false false v r = refl

pairs-on : (b b' c c' : Bool) → ((b' && b) && (c' && c)) ≡ ((b' && c') && (b && c))
pairs-on true true c c' = refl
pairs-on true false c true = refl
pairs-on true false c false = refl
pairs-on false true c true = refl
pairs-on false true c false = refl
pairs-on false false c c' = refl

pairs_start : (a a' t b b' c c' : Bool) → (t && (a' && a) && (b' && b) && (c' && c)) ≡ ((a' && b' && c') && (a && t && b && c))
pairs_start true true true b b' c c' = pairs-on b b' c c'
pairs_start true true false b b' c c' = simp and-false
pairs_start true false t b b' c c' = simp and-false
pairs_start false true t b b' c c' = simp and-false
pairs_start false false t b b' c c' = simp and-false

module _ (u : UnitRecord) (ok : Ranged u) (most : Budgets) where
  abbrev f : Figures
  f = figures_with u most

  -- ---- the state after an interval

  is-on : (spent s : ℕ) → Timed u true spent s → ltb s u.generator.mot ≡ true
  is-on spent s t = lt-ltb s u.generator.mot (omega (arith, t.1, t.0, ok.mot))

  is-off : (spent s : ℕ) → Timed u false spent s → ltb s u.generator.mot ≡ false
  is-off spent s t = le-ltb s u.generator.mot (omega (arith, t.1, t.0, ok.mdt))

  -- a run ends where it has lasted mot
  run_ends : (spent s : ℕ) → Timed u true spent s
      → (ltb (after_off f s) (states f) ≡ leb u.generator.mot spent) × (leb u.generator.mot spent ≡ true → after_off f s ≡ u.generator.mot)
  run_ends spent s t = rw (is-on spent s t) (test (leb u.generator.mot spent) refl)
    where
      next : ℕ
      next = cond (eqb (s + 1) u.generator.mot) u.generator.mot (states f)

      test : (q : Bool) → leb u.generator.mot spent ≡ q
          → (ltb next (states f) ≡ leb u.generator.mot spent) × (leb u.generator.mot spent ≡ true → next ≡ u.generator.mot)
      test true i =
          let k : s + 1 ≡ u.generator.mot = omega (arith, t.1, leb-true u.generator.mot spent i) in
          rw (eq-eqb (s + 1) u.generator.mot k) (lt-ltb u.generator.mot (states f) (omega (arith, ok.mdt)) ∙ sym i, λ o. refl)
      test false i =
          let k : s + 1 ≡ u.generator.mot → ⊥ = λ o. omega (arith, t.1, leb-false u.generator.mot spent i) in
          rw (ne_eqb (s + 1) u.generator.mot k) (le-ltb (states f) (states f) (omega arith) ∙ sym i, λ o. absurd (false≢true (sym i ∙ o)))

  spell-goes-on : (spent s : ℕ) → Timed u false spent s → (ltb (after_off f s) (states f) ≡ true) × Timed u false (suc spent) (after_off f s)
  spell-goes-on spent s t =
      rw (is-off spent s t)
      (lt-ltb (min (s + 1) (states f - 1)) (states f) (omega (arith, ok.mdt)), (omega arith, omega (arith, t.1, t.0, ok.mdt)))

  run-goes-on : (spent s : ℕ) → Timed u true spent s
      → (ltb (after_on f s) (states f) ≡ true) × Timed u true (suc spent) (after_on f s) × (start_takes f s ≡ 0) × (start_pays f s ≡ 0)
  run-goes-on spent s t =
      rw (is-on spent s t)
      (lt-ltb (min (s + 1) (u.generator.mot - 1)) (states f) (omega (arith, ok.mdt, ok.mot)), (omega arith, omega (arith, t.1, t.0, ok.mot)), refl, refl)

  -- a start comes where the spell has lasted mdt
  spell-ends : (spent s : ℕ) → Timed u false spent s
      → (ltb (after_on f s) (states f) ≡ leb u.generator.mdt spent) × (leb u.generator.mdt spent ≡ true → after_on f s ≡ 0)
      × (start_takes f s ≡ taken_of u.limits.starts) × (start_pays f s ≡ start_cost u.costs)
  spell-ends spent s t = rw (is-off spent s t) (test (leb u.generator.mdt spent) refl)
    where
      next : ℕ
      next = cond (eqb (s + 1) (states f)) 0 (states f)

      test : (q : Bool) → leb u.generator.mdt spent ≡ q
          → (ltb next (states f) ≡ leb u.generator.mdt spent) × (leb u.generator.mdt spent ≡ true → next ≡ 0)
          × (taken_of u.limits.starts ≡ taken_of u.limits.starts) × (start_cost u.costs ≡ start_cost u.costs)
      test true i =
          let k : s + 1 ≡ states f = omega (arith, t.1, leb-true u.generator.mdt spent i) in
          rw (eq-eqb (s + 1) (states f) k) (lt-ltb 0 (states f) (omega (arith, ok.mdt)) ∙ sym i, (λ o. refl), refl, refl)
      test false i =
          let k : s + 1 ≡ states f → ⊥ = λ o. omega (arith, t.1, leb-false u.generator.mdt spent i) in
          rw (ne_eqb (s + 1) (states f) k) (le-ltb (states f) (states f) (omega arith) ∙ sym i, (λ o. absurd (false≢true (sym i ∙ o))), refl, refl)

  -- ---- an interval off, and on with k blocks

  module _ (above : Budgets) where
    none-used : (n : ℕ) (a a' b b' c c' : Limit) (x : Budgets) → AsLeft u above (suc n) (a, b, c) (a', b', c') x
        → AsLeft u above n (a, b, c) (a', b', c') x
    none-used n a a' b b' c c' x r = (
      capped-less 1 1 (omega arith) (taken_of u.limits.starts) n a a' above.starts x.starts r.0,
      capped-less 1 1 (omega arith) (taken_of u.limits.hours) n b b' above.ons x.ons r.1,
      capped-less u.generator.block u.generator.pmax ok.block (taken_of u.limits.mwh) n c c' above.blocks x.blocks r.2,
    )

    match-off : (n : ℕ) (on : Bool) (spent : ℕ) (a a' b b' c c' : Limit) (x : Cell) (price : ℤ) → Timed u on spent x.state
        → AsLeft u above (suc n) (a, b, c) (a', b', c') x.left
        → Match (Alike u above n) (beside (spare false a' b' c') (commit u (status on spent a b c) price 0)) (cell_step f x price 0)
    match-off n true spent a a' b b' c c' x price timed left =
        let t = run_ends spent x.state timed in
        rw (beside-twice true (leb u.generator.mot spent) (spare false a' b' c') (pos 0) (status false 1 a b c))
        (match-allow (Alike u above n) (leb u.generator.mot spent) (ltb (after_off f x.state) (states f))
        (go (pos 0) (status false 1 a b c, spare false a' b' c')) (go (pos 0) (off_cell f x)) t.0
        (λ i. (refl, (refl, (omega arith, rw (t.1 i) (omega (arith, ok.mdt))), none-used n a a' b b' c c' x.left left))))
    match-off n false spent a a' b b' c c' x price timed left =
        let t = spell-goes-on spent x.state timed in
        match-allow (Alike u above n) true (ltb (after_off f x.state) (states f))
        (go (pos 0) (status false (suc spent) a b c, spare false a' b' c')) (go (pos 0) (off_cell f x)) t.0
        (λ i. (refl, (refl, t.1, none-used n a a' b b' c c' x.left left)))

    -- what the cells' machine counts in blocks
    in_blocks : (x : Cell) (price : ℤ) (m k : ℕ) → suc m ≡ k * u.generator.block
        → (cell_step f x price (suc m) ≡ on_step f x price k) × (earned u.generator u.costs price (suc m) ≡ gain f price k)
    in_blocks x price m k i =
        let d : suc m / u.generator.block ≡ k = ap (λ (q : ℕ). q / u.generator.block) i ∙ mul-div_cancel k ok.block in
        ((rw (ne_eqb (suc m) 0 (λ o. omega arith), d)), rw i)

    match-on : (n : ℕ) (on : Bool) (spent : ℕ) (a a' b b' c c' : Limit) (x : Cell) (price : ℤ) (m k : ℕ) → suc m ≡ k * u.generator.block
        → k ≤ u.generator.pmax → earned u.generator u.costs price (suc m) ≡ gain f price k
        → Timed u on spent x.state → AsLeft u above (suc n) (a, b, c) (a', b', c') x.left
        → Match (Alike u above n)
        (allow (spares (spare on a' b' c') (suc m)) (beside (sparing (spare on a' b' c') (suc m)) (commit u (status on spent a b c) price (suc m))))
        (on_step f x price k)
    match-on n on spent a a' b b' c c' x price m k i hk e timed left = case on timed
      where
        starts : leb (taken_of u.limits.starts) x.left.starts ≡ (affords a' 1 && affords a 1)
        starts = cap-affords (taken_of u.limits.starts) n a a' above.starts x.left.starts left.0

        hours : leb (taken_of u.limits.hours) x.left.ons ≡ (affords b' 1 && affords b 1)
        hours = cap-affords (taken_of u.limits.hours) n b b' above.ons x.left.ons left.1

        mwh : leb (k * taken_of u.limits.mwh) x.left.blocks ≡ (affords c' (suc m) && affords c (suc m))
        mwh =
            capped-affords u.generator.block u.generator.pmax ok.block (taken_of u.limits.mwh) n k c c' above.blocks
            x.left.blocks hk left.2
            ∙ ap (λ (z : ℕ). affords c' z && affords c z) (sym i)

        hours-left : affords b' 1 ≡ true → affords b 1 ≡ true
            → Capped 1 1 (taken_of u.limits.hours) n (spend b 1) (spend b' 1) above.ons (x.left.ons - taken_of u.limits.hours)
        hours-left p q =
            cap-spend (taken_of u.limits.hours) n b b' above.ons x.left.ons (hours ∙ ap₂ ◌&&◌ p q) left.1

        mwh-left : affords c' (suc m) ≡ true → affords c (suc m) ≡ true
            → Capped u.generator.block u.generator.pmax (taken_of u.limits.mwh) n (spend c (suc m)) (spend c' (suc m)) above.blocks
            (x.left.blocks - k * taken_of u.limits.mwh)
        mwh-left p q =
            rw i
            (capped-spend u.generator.block u.generator.pmax ok.block (taken_of u.limits.mwh) n k c c' above.blocks x.left.blocks hk
            (mwh ∙ ap₂ ◌&&◌ p q) left.2)

        case : (on : Bool) → Timed u on spent x.state
            → Match (Alike u above n)
            (allow (spares (spare on a' b' c') (suc m)) (beside (sparing (spare on a' b' c') (suc m)) (commit u (status on spent a b c) price (suc m))))
            (on_step f x price k)
        case true h =
            let t = run-goes-on spent x.state h in
            let to = status true (suc spent) a (spend b 1) (spend c (suc m)) in
            let seen = spare true a' (spend b' 1) (spend c' (suc m)) in
            let month = affords b' 1 && affords c' (suc m) in
            let year = affords b 1 && affords c (suc m) in
            let gains = earned u.generator u.costs price (suc m) in
            rw (beside-twice month year seen gains to)
            (match-allow (Alike u above n) (month && year) (may_run f x && leb (k * taken_of u.limits.mwh) x.left.blocks)
            (go gains (to, seen)) (go (gain f price k -ℤ pos (start_pays f x.state)) (on_cell f x k))
            ((rw (t.0, t.2, leb-zero x.left.starts, hours, mwh)) ∙ pairs-on (affords b 1) (affords b' 1) (affords c (suc m)) (affords c' (suc m)))
            (λ o.
            let all = both month year o in
            let p = both (affords b' 1) (affords c' (suc m)) all.0 in
            let q = both (affords b 1) (affords c (suc m)) all.1 in
            let starts-left = cap-less (taken_of u.limits.starts) n a a' above.starts x.left.starts left.0 in
            rw (t.2, t.3)
            (e ∙ sym (+ℤ_idr (gain f price k)), (refl, t.1, (starts-left, hours-left p.0 q.0, mwh-left p.1 q.1)))))
        case false h =
            let t = spell-ends spent x.state h in
            let to = status true 1 (spend a 1) (spend b 1) (spend c (suc m)) in
            let seen = spare true (spend a' 1) (spend b' 1) (spend c' (suc m)) in
            let lasted = leb u.generator.mdt spent in
            let month = affords a' 1 && affords b' 1 && affords c' (suc m) in
            let year = affords a 1 && lasted && affords b 1 && affords c (suc m) in
            let gains = earned u.generator u.costs price (suc m) -ℤ pos (start_cost u.costs) in
            rw (beside-twice month year seen gains to)
            (match-allow (Alike u above n) (month && year) (may_run f x && leb (k * taken_of u.limits.mwh) x.left.blocks)
            (go gains (to, seen)) (go (gain f price k -ℤ pos (start_pays f x.state)) (on_cell f x k))
            ((rw (t.0, t.2, starts, hours, mwh))
            ∙ pairs_start (affords a 1) (affords a' 1) lasted (affords b 1) (affords b' 1) (affords c (suc m)) (affords c' (suc m)))
            (λ o.
            let all = both month year o in
            let p = both (affords a' 1 && affords b' 1) (affords c' (suc m)) all.0 in
            let p' = both (affords a' 1) (affords b' 1) p.0 in
            let q = both (affords a 1 && lasted && affords b 1) (affords c (suc m)) all.1 in
            let q' = both (affords a 1 && lasted) (affords b 1) q.0 in
            let q'' = both (affords a 1) lasted q'.0 in
            let starts-left =
            cap-spend (taken_of u.limits.starts) n a a' above.starts x.left.starts (starts ∙ ap₂ ◌&&◌ p'.0 q''.0) left.0 in
            rw (t.2, t.3, t.1 q''.1) (
              ap (λ (g : ℤ). g -ℤ pos (start_cost u.costs)) e,
              (refl, (omega arith, omega (arith, ok.mot)), (starts-left, hours-left p'.1 q'.1, mwh-left p.1 q.1)),
            )))

    -- over the quarters of a month
    matches : (n : ℕ) (on : Bool) (spent : ℕ) (a a' b b' c c' : Limit) (x : Cell) (price : ℤ) (m : ℕ) → Memᴰ m (outputs u.generator)
        → Timed u on spent x.state → AsLeft u above (suc n) (a, b, c) (a', b', c') x.left
        → Match (Alike u above n) (allow (spares (spare on a' b' c') m) (beside (sparing (spare on a' b' c') m) (commit u (status on spent a b c) price m)))
        (cell_step f x price m)
    matches n on spent a a' b b' c c' x price zero i timed left = match-off n on spent a a' b b' c c' x price timed left
    matches n on spent a a' b b' c c' x price (suc m) i timed left =
        let o = blocks-of u ok m i in
        let e = in_blocks x price m o.0 o.1 in
        rw e.0 (match-on n on spent a a' b b' c c' x price m o.0 o.1 o.3 e.1 timed left)

    quarters-match : (n : ℕ) (s : Status × Spare) (x : Cell) (q : Quarter) (m : ℕ) → Memᴰ m (outputs u.generator) → Alike u above (suc n) s x
        → Match (Alike u above n) (year_step u s (in_month q) m) (in_quarter (cell_step f) x q m)
    quarters-match n (status on spent a b c, spare on' a' b' c') x q m i (same, timed, left) =
        subst (λ (t : Bool). Match (Alike u above n) (year_step u (status on spent a b c, spare t a' b' c') (in_month q) m) (in_quarter (cell_step f) x q m)) same
        (let opened = eqb m 0 || q.opens in
        let v = spare on a' b' c' in
        rw (opened-first (spares v m) opened (sparing v m) (commit u (status on spent a b c) q.price m))
        (match-allow (Alike u above n) opened opened (allow (spares v m) (beside (sparing v m) (commit u (status on spent a b c) q.price m)))
        (cell_step f x q.price m) refl (λ o. matches n on spent a a' b b' c c' x q.price m i timed left)))

    -- ---- walks of a month, after which `later` intervals come

    pub month-walk : (later : ℕ) (qs : List Quarter) (s : Status × Spare) (x : Cell) → Alike u above (later + length qs) s x
        → (a : List ℕ) → AllIn (outputs u.generator) a → (g : ℤ) (s' : Status × Spare)
        → walk (Status × Spare) YearQuarter (year_step u) (map in_month qs) s a ≡ go g s'
        → (x' : Cell) × (walk Cell Quarter (in_quarter (cell_step f)) qs x a ≡ go g x') × Alike u above later s' x'
    month-walk later qs s x r a t g s' e =
        let k =
        same-walk (Status × Spare) Cell Quarter (λ y q. year_step u y (in_month q)) (in_quarter (cell_step f)) (unwatched anywhere) anywhere
        (λ n. Alike u above (later + n)) (outputs u.generator)
        (λ n y z q m i h. quarters-match (later + n) y z q m i (subst (λ (k : ℕ). Alike u above k y z) (omega arith) h)) (λ y z h. refl) qs s x r a t g s'
        (sym (walk-map (Status × Spare) YearQuarter (year_step u) in_month qs s a) ∙ e) in
        (k.0, k.1, subst (λ (n : ℕ). Alike u above n s' k.0) (omega arith) k.2)

    -- ---- plans of a month, where plans end alike

    module _ (later : ℕ) (ends : Status × Spare → BestProfit) (worth : Cell → BestProfit)
        (alike-ends : (s : Status × Spare) (x : Cell) → Alike u above later s x → ends s ≡ worth x) where
      pub month-plan : (qs : List Quarter) (s : Status × Spare) (x : Cell) → Alike u above (later + length qs) s x
          → best_from (Status × Spare) YearQuarter (year_step u) ends (outputs u.generator) (map in_month qs) s ≡ plan_at f worth qs x
      unfolding plan_at
      month-plan qs s x r =
          best-map (Status × Spare) YearQuarter (year_step u) ends in_month (outputs u.generator) qs s
          ∙ same-best (Status × Spare) Cell Quarter (λ y q. year_step u y (in_month q)) (in_quarter (cell_step f)) ends worth (λ n. Alike u above (later + n))
          (outputs u.generator) (λ n y z q m i h.
          quarters-match (later + n) y z q m i (subst (λ (k : ℕ). Alike u above k y z) (omega arith) h))
          (λ y z h. alike-ends y z (subst (λ (k : ℕ). Alike u above k y z) (omega arith) h)) qs s x r

  -- ---- a case without months

  abbrev pub Plain : ℕ → Status → Cell → Type 0
  Plain n s x = Alike u (budgets 0 0 0) n (s, spare (is_on s) None None None) x

  -- the two machines have the same best
  pub same-plan : (quarters : List Quarter) (s : Status) (x : Cell) → Plain (length quarters) s x
      → best_from Status Quarter (in_quarter (commit u)) anywhere (outputs u.generator) quarters s ≡ plan_at f anywhere quarters x
  same-plan quarters s x r =
      sym (free u anywhere (outputs u.generator) quarters s (is_on s))
      ∙ month-plan (budgets 0 0 0) 0 (unwatched anywhere) anywhere (λ s x r. refl) quarters (s, spare (is_on s) None None None) x
      (subst (λ (n : ℕ). Alike u (budgets 0 0 0) n (s, spare (is_on s) None None None) x) (sym (zero-add (length quarters))) r)

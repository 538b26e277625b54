-- A year is its months: the best profit of a case with months inside it is worked out month by month over the cells of the table, each month with what is
-- left of the year capped by its own figures.
use Rattle.std.specs.Prelude.{None, Some}
use mathlib.Core.Path.{◌≡◌, refl, sym, ap, ap₂, ◌∙◌, subst}
use mathlib.Core.Bool.{Bool}
use mathlib.Core.List.{List, [], ◌∷◌, ◌++◌, map}
use Prim.Native.Nat.{ℕ, ◌+◌, ◌-◌, ◌*◌, ◌/◌, min}
use native.Mathlib.Nat.{div-one, one-mul}
use native.Mathlib.Omega.{arith}
use lib.IntN.{ℤ, ◌+ℤ◌}
use lib.ListN.{length, take, drop, length-append, take-append-drop}
use Rattle.commitment.specs.Types.{BestProfit}
use Rattle.commitment.specs.declared.Generator.{Generator}
use Rattle.commitment.specs.Types.{Limit}
use Rattle.commitment.specs.declared.Limitation.{Limitation}
use Rattle.commitment.specs.declared.Limitation.TheVariants.{Starts, Hours, Mwh}
use Rattle.commitment.specs.declared.Limits.{Limits}
use Rattle.commitment.specs.declared.UnitRecord.{UnitRecord}
use Rattle.commitment.specs.Best.{Plan, nothing, plan, outputs, profit_of}
use Rattle.commitment.specs.Cells.{in_counts}
use Rattle.commitment.specs.Limits.{limit_for}
use Rattle.commitment.specs.Months.{Month}
use Rattle.optimality.specs.declared.Budgets.{Budgets}
use Rattle.optimality.specs.declared.Cell.{Cell}
use Rattle.optimality.specs.declared.Figures.{Figures}
use Rattle.optimality.specs.Machine.{Step, go, Quarter, in_quarter, walk, ended, anywhere, best_from, value_from}
use Rattle.optimality.specs.Cells.{figures_with, taken_of, cell_step, choices, plan_at}
use Rattle.optimality.specs.Watched.{unwatched}
use Rattle.optimality.specs.Years.{YearQuarter, in_month, month_from, year_quarters, capped, box_in, raised, above_box, year_value}
use Rattle.optimality.specs.Years.{follow, month_plan, year_plan}
use Rattle.optimality.proofs.Ranges.{Ranged}
use Rattle.optimality.proofs.Commit.{Status, status, scaled}
use Rattle.optimality.proofs.Rival.{not-plan, AllIn, attained}
use Rattle.optimality.proofs.Split.{go-parts, no_step}
use Rattle.optimality.proofs.Cut.{cut-value, continued, none-continued}
use Rattle.optimality.proofs.Values.{no-earning, value-from}
use Rattle.optimality.proofs.Turns.{plan-value}
use Rattle.optimality.proofs.Years.{Spare, spare, year_step}
use Rattle.optimality.proofs.Left.{Left}
use Rattle.optimality.proofs.Capped.{Capped}
use Rattle.optimality.proofs.Cells.{is_on, Alike, Plain, month-walk, month-plan}

-- ---- a limitation at a month's beginning and at its end

-- a month figure stands beside a year figure
abbrev pub Beside : Limit → Limit → Type 0
Beside a None = Unit {0}
Beside None (Some figure) = ⊥
Beside (Some all) (Some figure) = Unit {0}

abbrev pub AllBeside : Limits → Limits → Type 0
AllBeside year month = (which : Limitation) → Beside (limit_for year which) (limit_for month which)

module _ (unit most taken n : ℕ) where
  -- as much as the month's figure comes to is taken from the year's
  enters : (a : Limit) (m : Limit) (y cap : ℕ) → Left unit most taken n a y → (m ≡ None → cap ≡ y)
      → ((left : ℕ) → m ≡ Some left → (cap ≡ min y (left / unit)) × (taken ≡ 1)) → Capped unit most taken n a m (y - cap) cap
  enters a None y cap r none at = rw (none refl) (r, omega arith)
  enters None (Some left) y cap r none at = absurd (omega (arith, r, (at left refl).1))
  enters (Some all) (Some left) y cap r none at =
      let e = (at left refl).0 in
      let whole : cap + (y - cap) ≡ y = omega arith in
      (rw whole r, rw whole (omega arith))

  leaves : (a m : Limit) (d x : ℕ) → Capped unit most taken n a m d x → Capped unit most taken n a None 0 (x + d)
  leaves a None d x r = let same : x + d ≡ x = omega (arith, r.1) in (rw same r.0, refl)
  leaves None (Some left) d x r = absurd r
  leaves (Some all) (Some left) d x r = (r.0, refl)

-- the figure of a month, scaled to counts of which `unit` make one of the cell's
module _ (u : UnitRecord) (unit most n : ℕ) (which : Limitation) (scale : ℕ)
    (counts : (figure : ℕ) → in_counts u.generator which figure ≡ scale * figure / unit) where
  begins : (year month a : Limit) (y : ℕ) → Beside year month → Left unit most (taken_of year) n a y
      → Capped unit most (taken_of year) n a (scaled scale month) (y - capped u.generator which month y) (capped u.generator which month y)
  begins year None a y h r = enters unit most (taken_of year) n a None y y r (λ e. refl) (λ left e. absurd (not_at left e))
    where
      not_at : (left : ℕ) → ◌≡◌ {A = Limit} None (Some left) → ⊥
      not_at left e = let z : ◌≡◌ {A = ℕ} 0 1 = cc in omega arith
  begins None (Some figure) a y h r = absurd h
  begins (Some all) (Some figure) a y h r =
      enters unit most 1 n a (Some (scale * figure)) y (min y (in_counts u.generator which figure)) r (λ e. absurd (not_none e))
      (λ left e. (rw (counts figure) (ap (λ (z : ℕ). min y (z / unit)) (at-is e)), refl))
    where
      not_none : ◌≡◌ {A = Limit} (Some (scale * figure)) None → ⊥
      not_none e = let z : ◌≡◌ {A = ℕ} 0 1 = cc in omega arith

      at-is : {left : ℕ} → ◌≡◌ {A = Limit} (Some (scale * figure)) (Some left) → scale * figure ≡ left
      at-is e = cc

-- ---- a month's beginning and its end

module _ (u : UnitRecord) (ok : Ranged u) (most : Budgets) where
  abbrev f : Figures
  f = figures_with u most

  abbrev filled : Limits → Bool → Spare
  filled limits on = spare on (scaled 1 limits.starts) (scaled 4 limits.hours) (scaled 4 limits.mwh)

  pub month-begins : (limits : Limits) → AllBeside u.limits limits → (n : ℕ) (s : Status) (c : Cell) → Plain u ok most n s c
      → Alike u (above_box u.generator limits c) n (s, filled limits (is_on s)) (box_in u.generator limits c)
  month-begins limits h n (status on spent a b d) c (same, timed, (starts, hours, mwh)) = (
    refl,
    timed,
    (
      begins u 1 1 n Starts 1 (λ k. sym (div-one (1 * k) ∙ one-mul k)) u.limits.starts limits.starts a c.left.starts (h Starts) starts.0,
      begins u 1 1 n Hours 4 (λ k. sym (div-one (4 * k))) u.limits.hours limits.hours b c.left.ons (h Hours) hours.0,
      begins u u.generator.block u.generator.pmax n Mwh 4 (λ k. refl) u.limits.mwh limits.mwh d c.left.blocks (h Mwh) mwh.0,
    ),
  )

  pub month-ends : (above : Budgets) (n : ℕ) (s : Status) (v : Spare) (x : Cell) → Alike u above n (s, v) x → Plain u ok most n s (raised above x)
  month-ends above n (status on spent a b c) (spare on' a' b' c') x (same, timed, (starts, hours, mwh)) = (
    refl,
    timed,
    (
      leaves 1 1 (taken_of u.limits.starts) n a a' above.starts x.left.starts starts,
      leaves 1 1 (taken_of u.limits.hours) n b b' above.ons x.left.ons hours,
      leaves u.generator.block u.generator.pmax (taken_of u.limits.mwh) n c c' above.blocks x.left.blocks mwh,
    ),
  )

  -- ---- the best profit, month by month

  abbrev worth : List YearQuarter → Status × Spare → BestProfit
  worth = value_from (Status × Spare) YearQuarter (year_step u) (unwatched anywhere) (outputs u.generator)

  -- from the first quarter of a month on its figures stand, whatever was left of others
  module _ (limits : Limits) (ends : Status × Spare → BestProfit) (s : Status) (a b c : Limit) where
    abbrev Ends : List Quarter → Type 0
    Ends front = front ≡ [] → ends (s, spare (is_on s) a b c) ≡ ends (s, filled limits (is_on s))

    refill : (front : List Quarter) → Ends front
        → best_from (Status × Spare) YearQuarter (year_step u) ends (outputs u.generator) (month_from limits front) (s, spare (is_on s) a b c)
        ≡ best_from (Status × Spare) YearQuarter (year_step u) ends (outputs u.generator) (map in_month front) (s, filled limits (is_on s))
    refill [] none = ap ended (none refl)
    refill (q ∷ front) none = refl

  -- month figures stand beside year figures in every month
  abbrev pub Months : List Month → Type 0
  Months [] = Unit {0}
  Months (m ∷ ms) = AllBeside u.limits m.limits × Months ms

  -- ---- one month, whose later months come to their values

  module _ (m : Month) (ms : List Month) (h : AllBeside u.limits m.limits) (qs : List Quarter) (s : Status) (x : Cell)
      (r : Plain u ok most (length qs) s x)
      (later : (t : Status) (a b c : Limit) (z : Cell) → Plain u ok most (length (drop m.long qs)) t z
      → worth (year_quarters ms (drop m.long qs)) (t, spare (is_on t) a b c) ≡ year_value u.generator f ms (drop m.long qs) z) where
    abbrev front : List Quarter
    front = take m.long qs

    abbrev back : List Quarter
    back = drop m.long qs

    abbrev above : Budgets
    above = above_box u.generator m.limits x

    abbrev box : Cell
    box = box_in u.generator m.limits x

    -- what the later months are worth, in the machine and in the cells
    abbrev value : Cell → BestProfit
    value y = year_value u.generator f ms back (raised above y)

    long : length back + length front ≡ length qs
    long = omega (arith, length-append front back, ap length (take-append-drop m.long qs))

    start : Alike u above (length back + length front) (s, filled m.limits (is_on s)) box
    start = subst (λ (n : ℕ). Alike u above n (s, filled m.limits (is_on s)) box) (sym long) (month-begins m.limits h (length qs) s x r)

    at-end : (t : Status × Spare) (y : Cell) → Alike u above (length back) t y → worth (year_quarters ms back) t ≡ value y
    at-end (status on spent a b c, spare on' a' b' c') y k =
        ap (λ (t : Bool). worth (year_quarters ms back) (status on spent a b c, spare t a' b' c')) (sym k.0)
        ∙ later (status on spent a b c) a' b' c' (raised above y) (month-ends above (length back) (status on spent a b c) (spare on' a' b' c') y k)

    -- the month's plan in the machine is that of its box
    month-is : (a b c : Limit)
        → best_from (Status × Spare) YearQuarter (year_step u) (worth (year_quarters ms back)) (outputs u.generator) (month_from m.limits front)
        (s, spare (is_on s) a b c)
        ≡ month_plan u.generator f m ms qs x
    month-is a b c =
        refill m.limits (worth (year_quarters ms back)) s a b c front
        (λ none.
        let all : length qs ≡ length back = omega (arith, long, ap length none) in
        let same = subst (λ (n : ℕ). Plain u ok most n s x) all r in
        later s a b c x same ∙ sym (later s (scaled 1 m.limits.starts) (scaled 4 m.limits.hours) (scaled 4 m.limits.mwh) x same))
        ∙ month-plan u ok most above (length back) (worth (year_quarters ms back)) value at-end front (s, filled m.limits (is_on s)) box start

  -- ---- all months

  pub year-value : (ms : List Month) → Months ms → (qs : List Quarter) (s : Status) (a b c : Limit) (x : Cell) → Plain u ok most (length qs) s x
      → worth (year_quarters ms qs) (s, spare (is_on s) a b c) ≡ year_value u.generator f ms qs x
  unfolding year_value
  year-value [] h qs s a b c x r = refl
  year-value (m ∷ ms) h qs s a b c x r =
      let front = take m.long qs in
      let back = drop m.long qs in
      let later = year_quarters ms back in
      cut-value (Status × Spare) YearQuarter (year_step u) (unwatched anywhere) (outputs u.generator) (month_from m.limits front) later
      (s, spare (is_on s) a b c)
      ∙ sym (value-from (Status × Spare) YearQuarter (year_step u) (worth later) (outputs u.generator) (month_from m.limits front)
      (s, spare (is_on s) a b c))
      ∙ ap profit_of (month-is m ms h.0 qs s x r (λ t a' b' c' z k. year-value ms h.1 back t a' b' c' z k) a b c)
      ∙ plan-value f (λ y. year_value u.generator f ms back (raised (above_box u.generator m.limits x) y)) front (box_in u.generator m.limits x)

  -- ---- the plan

  -- where the month's outputs lead in the machine, and in the cells
  record Landed (front : List Quarter) (n : ℕ) (above : Budgets) (y : Cell) (o : List ℕ) (g : ℤ) (t : Status × Spare) : Type 0 where
    at : Cell
    leads : walk Cell Quarter (in_quarter (cell_step f)) front y o ≡ go g at
    plain : Plain u ok most n t.0 (raised above at)
    starts : Limit
    hours : Limit
    mwh : Limit
    seen : t ≡ (t.0, spare (is_on t.0) starts hours mwh)

  landed : (limits : Limits) (front : List Quarter) (n : ℕ) (above : Budgets) (s : Status) (a b c : Limit) (y : Cell)
      → Alike u above (n + length front) (s, filled limits (is_on s)) y → (o : List ℕ) → AllIn (outputs u.generator) o → (g : ℤ) (t : Status × Spare)
      → walk (Status × Spare) YearQuarter (year_step u) (month_from limits front) (s, spare (is_on s) a b c) o ≡ go g t → Landed front n above y o g t
  landed limits [] n above s a b c y r [] all g t e =
      let k = go-parts e in
      let none : n + 0 ≡ n = omega arith in
      let here = subst (λ (j : ℕ). Alike u above j (s, filled limits (is_on s)) y) none r in
      subst (λ (z : Status × Spare). Landed [] n above y [] g z) k.1
      (record {
        at = y;
        leads = ap (λ (z : ℤ). go z y) k.0;
        plain = month-ends above n s (filled limits (is_on s)) y here;
        starts = a;
        hours = b;
        mwh = c;
        seen = refl;
      })
  landed limits [] n above s a b c y r (m ∷ o) all g t e = absurd (no_step e)
  landed limits (q ∷ front) n above s a b c y r [] all g t e = absurd (no_step e)
  landed limits (q ∷ front) n above s a b c y r (m ∷ o) all g (status on spent a' b' c', spare on' a'' b'' c'') e =
      let to : Status × Spare = (status on spent a' b' c', spare on' a'' b'' c'') in
      let k = month-walk u ok most above n (q ∷ front) (s, filled limits (is_on s)) y r (m ∷ o) all g to e in
      record {
        at = k.0;
        leads = k.1;
        plain = month-ends above n (status on spent a' b' c') (spare on' a'' b'' c'') k.0 k.2;
        starts = a'';
        hours = b'';
        mwh = c'';
        seen = ap (λ (z : Bool). (status on spent a' b' c', spare z a'' b'' c'')) (sym k.2.0);
      }

  abbrev best : List YearQuarter → Status × Spare → Plan
  best = best_from (Status × Spare) YearQuarter (year_step u) (unwatched anywhere) (outputs u.generator)

  -- the best plan of a case with months is made month by month
  pub year-plan : (ms : List Month) → Months ms → (qs : List Quarter) (s : Status) (a b c : Limit) (x : Cell) → Plain u ok most (length qs) s x
      → best (year_quarters ms qs) (s, spare (is_on s) a b c) ≡ year_plan u.generator f ms qs x
  unfolding year_plan
  year-plan [] h qs s a b c x r = refl
  year-plan (m ∷ ms) h qs s a b c x r =
      by (month_plan u.generator f m ms qs x) refl (λ t a' b' c' z k. year-plan ms h.1 (drop m.long qs) t a' b' c' z k)
    where
      front : List Quarter
      front = take m.long qs

      back : List Quarter
      back = drop m.long qs

      above : Budgets
      above = above_box u.generator m.limits x

      box : Cell
      box = box_in u.generator m.limits x

      later : List YearQuarter
      later = year_quarters ms back

      worths : (t : Status) (a b c : Limit) (z : Cell) → Plain u ok most (length back) t z
          → worth later (t, spare (is_on t) a b c) ≡ year_value u.generator f ms back z
      worths t a b c z k = year-value ms h.1 back t a b c z k

      is : best_from (Status × Spare) YearQuarter (year_step u) (worth later) (outputs u.generator) (month_from m.limits front) (s, spare (is_on s) a b c)
          ≡ month_plan u.generator f m ms qs x
      is = month-is m ms h.0 qs s x r worths a b c

      by : (p : Plan) → month_plan u.generator f m ms qs x ≡ p
          → ((t : Status) (a b c : Limit) (z : Cell) → Plain u ok most (length back) t z
          → best later (t, spare (is_on t) a b c) ≡ year_plan u.generator f ms back z)
          → best (month_from m.limits front ++ later) (s, spare (is_on s) a b c)
          ≡ follow (walk Cell Quarter (in_quarter (cell_step f)) front box) (λ z. year_plan u.generator f ms back (raised above z)) p
      by nothing e goes =
          none-continued (Status × Spare) YearQuarter (year_step u) (unwatched anywhere) (outputs u.generator) later (month_from m.limits front)
          (s, spare (is_on s) a b c) (is ∙ e)
      by (plan o g) e goes =
          let k =
          continued (Status × Spare) YearQuarter (year_step u) (unwatched anywhere) (outputs u.generator) later (month_from m.limits front)
          (s, spare (is_on s) a b c) o g (is ∙ e) in
          let j = k.joined in
          let tried =
          (attained (Status × Spare) YearQuarter (year_step u) (worth later) (outputs u.generator) (month_from m.limits front) (s, spare (is_on s) a b c) o g
          (is ∙ e)).1 in
          let l =
          landed m.limits front (length back) above s a b c box (start m ms h.0 qs s x r worths) o tried j.earned j.at j.leads in
          let rest : year_plan u.generator f ms back (raised above l.at) ≡ plan j.rest j.profit =
          sym (goes j.at.0 l.starts l.hours l.mwh (raised above l.at) l.plain) ∙ ap (best later) (sym l.seen) ∙ j.goes_on in
          k.best
          ∙ ap₂ plan j.whole (sym j.sum)
          ∙ sym (rw (l.leads, rest))

-- ---- the plan earns the best profit

plan-is : (f : Figures) (ends : Cell → BestProfit) (quarters : List Quarter) (c : Cell) (s : List ℕ) (p : ℤ) → plan_at f ends quarters c ≡ plan s p
    → best_from Cell Quarter (in_quarter (cell_step f)) ends (choices f) quarters c ≡ plan s p
unfolding plan_at
plan-is f ends quarters c s p e = e

ended-worth : (v : BestProfit) (s : List ℕ) (p : ℤ) → ended v ≡ plan s p → v ≡ Some p
ended-worth None s p e = absurd (not-plan e)
ended-worth (Some q) s p e = cc

module _ (g : Generator) (f : Figures) where
  pub plan-earns : (ms : List Month) (qs : List Quarter) (c : Cell) → profit_of (year_plan g f ms qs c) ≡ year_value g f ms qs c
  unfolding year_plan year_value
  plan-earns [] qs c = refl
  plan-earns (m ∷ ms) qs c =
      by (month_plan g f m ms qs c) refl (λ z. plan-earns ms (drop m.long qs) z)
      ∙ plan-value f (λ x. year_value g f ms (drop m.long qs) (raised (above_box g m.limits c) x)) (take m.long qs) (box_in g m.limits c)
    where
      front : List Quarter
      front = take m.long qs

      rest : Cell → Plan
      rest x = year_plan g f ms (drop m.long qs) (raised (above_box g m.limits c) x)

      value : Cell → BestProfit
      value x = year_value g f ms (drop m.long qs) (raised (above_box g m.limits c) x)

      leads : List ℕ → Step Cell
      leads = walk Cell Quarter (in_quarter (cell_step f)) front (box_in g m.limits c)

      joined : (a : List ℕ) (earned profit : ℤ) (x : Cell) (q : Plan) → rest x ≡ q → profit_of q ≡ Some profit → leads a ≡ go earned x
          → profit_of (follow leads rest (plan a (earned +ℤ profit))) ≡ Some (earned +ℤ profit)
      joined a earned profit x nothing e none l = absurd (no-earning none)
      joined a earned profit x (plan s p) e same l = rw (l, e) (ap Some (ap (λ (z : ℤ). earned +ℤ z) (earns same)))
        where
          earns : Some p ≡ Some profit → p ≡ profit
          earns h = cc

      by : (p : Plan) → month_plan g f m ms qs c ≡ p → ((z : Cell) → profit_of (year_plan g f ms (drop m.long qs) z) ≡ year_value g f ms (drop m.long qs) z)
          → profit_of (follow leads rest p) ≡ profit_of p
      by nothing e earns = refl
      by (plan a e) h earns =
          let j = (continued Cell Quarter (in_quarter (cell_step f)) value (choices f) [] front (box_in g m.limits c) a e (plan-is f value front (box_in g m.limits c) a e h)).joined in
          ap (λ (z : ℤ). profit_of (follow leads rest (plan a z))) (sym j.sum)
          ∙ joined a j.earned j.profit j.at (rest j.at) refl
          (earns (raised (above_box g m.limits c) j.at) ∙ ended-worth (value j.at) j.rest j.profit j.goes_on) j.leads
          ∙ ap Some j.sum

-- The opening cell: the case's best plan is the plan from it, and smaller limitations are another cell of the same table, because no step
-- reads the budgets' tops. What makes one table serve the plan and all six runs of valuing.
use Rattle.std.specs.Prelude.{None, Some}
use mathlib.Core.Path.{◌≡◌, refl, ap, ap₂, ◌∙◌}
use mathlib.Core.Bool.{Bool, true, false, cond, ◌&&◌}
use mathlib.Core.List.{List}
use Prim.Native.Nat.{ℕ, ◌+◌, ◌-◌, ◌*◌, ◌≤◌, ◌<◌, min}
use native.Mathlib.Nat.{div-one, mul-one, one-mul, mul-le-mul, div-mul-le_self, le-div_iff_mul-le}
use native.Mathlib.Omega.{arith}
use borrow.Author.Tests.{leb-true, le-leb}
use lib.IntN.{ℤ}
use lib.ListN.{length}
use Rattle.commitment.specs.Types.{Limit}
use Rattle.commitment.specs.declared.Limits.{Limits}
use Rattle.commitment.specs.declared.Limitation.{Limitation}
use Rattle.commitment.specs.declared.Limitation.TheVariants.{Starts, Hours, Mwh}
use Rattle.commitment.specs.declared.Generator.{Generator}
use Rattle.commitment.specs.declared.UnitRecord.{UnitRecord}
use Rattle.commitment.specs.Bounds.{most_blocks, most_starts, most_hours, most_mwh, most_intervals}
use Rattle.lists.proofs.Conjunctions.{both}
use Rattle.commitment.specs.Ranges.{generator_kept, opening_kept, costs_kept, limits_kept, permit_kept, ranges_kept, InOrder}
use Rattle.commitment.specs.Keeping.{was_on, opens_in}
use Rattle.commitment.specs.Best.{best}
use Rattle.commitment.specs.Cells.{in_counts, most_counts, counted}
use Rattle.commitment.specs.Months.{Month, intervals_of, best_in}
use Rattle.commitment.specs.Limits.{limit_kept, limit_for, with_limit, limited}
use Rattle.optimality.specs.declared.Budgets.{Budgets}
use Rattle.optimality.specs.declared.Figures.{Figures}
use Rattle.optimality.specs.Machine.{anywhere}
use Rattle.optimality.specs.Cells.{budgets, taken_of, figures_with, counts_of, figures_of, Within, Sound, InTable, quarters_of, plan_at, opening_state, opening_cell}
use Rattle.optimality.specs.Runs.{AtMost, Under}
use Rattle.optimality.specs.Years.{year_plan}
use Rattle.optimality.proofs.Ranges.{Ranged}
use Rattle.optimality.proofs.Commit.{scaled, before, best-steps}
use Rattle.optimality.proofs.Quarters.{quarters-length}
use Rattle.optimality.proofs.Left.{Left}
use Rattle.optimality.proofs.Years.{best-year}
use Rattle.optimality.proofs.Cells.{Timed, Plain, same-plan}
use Rattle.optimality.proofs.Months.{Months, year-plan}

-- ---- the opening cell is alike to the status before interval 1

abbrev state_of : UnitRecord → Bool → ℕ
state_of u on = cond on (min u.opening.held u.generator.mot - 1) (u.generator.mot + min u.opening.held u.generator.mdt - 1)

opening-time : (u : UnitRecord) → Ranged u → Timed u (was_on u.opening) u.opening.held (opening_state u)
opening-time u ok = test (was_on u.opening)
  where
    test : (on : Bool) → Timed u on u.opening.held (state_of u on)
    test true = (ok.held, omega (arith, ok.held, ok.mot))
    test false = (ok.held, omega (arith, ok.held, ok.mdt))

opening-alike : (u : UnitRecord) (ok : Ranged u) (most : Budgets) (n : ℕ) → Plain u ok most n (before u) (opening_cell u n)
unfolding opening_cell
opening-alike u ok most n = (
  refl,
  opening-time u ok,
  ((starts-left u.limits.starts, refl), (hours-left u.limits.hours, refl), (mwh-left u.limits.mwh, refl)),
)
  where
    starts-left : (l : Limit) → Left 1 1 (taken_of l) n (scaled 1 l) (counted u.generator n Starts l)
    starts-left None = refl
    starts-left (Some k) = (refl, rw (div-one (1 * k), mul-one n, one-mul k) (omega arith))

    hours-left : (l : Limit) → Left 1 1 (taken_of l) n (scaled 4 l) (counted u.generator n Hours l)
    hours-left None = refl
    hours-left (Some k) = (refl, rw (div-one (4 * k), mul-one n) (omega arith))

    mwh-left : (l : Limit) → Left u.generator.block u.generator.pmax (taken_of l) n (scaled 4 l) (counted u.generator n Mwh l)
    mwh-left None = refl
    mwh-left (Some k) = (refl, omega arith)

-- ---- smaller limitations

pub at-most-itself : (l : Limit) → AtMost l l
at-most-itself None = tt
at-most-itself (Some m) = omega arith

pub at-most-less : (k m : ℕ) (l : Limit) → k ≤ m → AtMost (Some m) l → AtMost (Some k) l
at-most-less k m None h i = absurd i
at-most-less k m (Some n) h i = omega arith

-- one limitation smaller, the other two whole
pub under-with : (limits : Limits) (which : Limitation) (k l : Limit) → AtMost k l → Under (with_limit limits which k) (with_limit limits which l)
under-with limits Starts k l h Starts = h
under-with limits Starts k l h Hours = at-most-itself limits.hours
under-with limits Starts k l h Mwh = at-most-itself limits.mwh
under-with limits Hours k l h Starts = at-most-itself limits.starts
under-with limits Hours k l h Hours = h
under-with limits Hours k l h Mwh = at-most-itself limits.mwh
under-with limits Mwh k l h Starts = at-most-itself limits.starts
under-with limits Mwh k l h Hours = at-most-itself limits.hours
under-with limits Mwh k l h Mwh = h

with_itself : (limits : Limits) (which : Limitation) → with_limit limits which (limit_for limits which) ≡ limits
with_itself limits Starts = refl
with_itself limits Hours = refl
with_itself limits Mwh = refl

pub under_one : (limits : Limits) (which : Limitation) (k : Limit) → AtMost k (limit_for limits which) → Under (with_limit limits which k) limits
under_one limits which k h = rw (with_itself limits which) at (under-with limits which k (limit_for limits which) h)

pub under-itself : (limits : Limits) → Under limits limits
under-itself limits which = at-most-itself (limit_for limits which)

kept_less : (most : ℕ) (k l : Limit) → AtMost k l → limit_kept most l ≡ true → limit_kept most k ≡ true
kept_less most None None h e = e
kept_less most None (Some m) h e = absurd h
kept_less most (Some k) None h e = absurd h
kept_less most (Some k) (Some m) h e = le-leb k most (omega (arith, leb-true m most e))

-- a case in order stays in order
pub order-under : (u : UnitRecord) (n : ℕ) (limits : Limits) → Under limits u.limits → InOrder u n → InOrder (limited u limits) n
unfolding ranges_kept
order-under u n limits h o =
    let groups = generator_kept u.generator && opening_kept u.opening && costs_kept u.costs in
    let permitted = both (groups && limits_kept u.limits) (permit_kept u.permit) o.ranges in
    let all = both groups (limits_kept u.limits) permitted.0 in
    let two = both (limit_kept most_starts u.limits.starts && limit_kept most_hours u.limits.hours) (limit_kept most_mwh u.limits.mwh) all.1 in
    let one = both (limit_kept most_starts u.limits.starts) (limit_kept most_hours u.limits.hours) two.0 in
    let starts = kept_less most_starts limits.starts u.limits.starts (h Starts) one.0 in
    let hours = kept_less most_hours limits.hours u.limits.hours (h Hours) one.1 in
    let mwh = kept_less most_mwh limits.mwh u.limits.mwh (h Mwh) two.1 in
    record {
      ranges = ap₂ ◌&&◌ (ap₂ ◌&&◌ all.0 (ap₂ ◌&&◌ (ap₂ ◌&&◌ starts hours) mwh)) permitted.1;
      shape = o.shape;
      dated = o.dated;
      short = o.short;
      checked = o.checked;
    }

taken-same : (k l : Limit) → AtMost k l → taken_of k ≡ taken_of l
taken-same None None h = refl
taken-same None (Some m) h = absurd h
taken-same (Some k) None h = absurd h
taken-same (Some k) (Some m) h = refl

-- ---- what a limitation comes to

counted-most : (g : Generator) (n : ℕ) (which : Limitation) (l : Limit) → counted g n which l ≤ most_counts g which n
counted-most g n which None = omega arith
counted-most g n which (Some k) = omega arith

counts-rise : (g : Generator) (which : Limitation) (k m : ℕ) → 1 ≤ g.block → k ≤ m → in_counts g which k ≤ in_counts g which m
counts-rise g Starts k m b h = h
counts-rise g Hours k m b h = omega arith
counts-rise g Mwh k m b h = (le-div_iff_mul-le b).1 (omega (arith, div-mul-le_self (4 * k) g.block))

counted-rise : (g : Generator) (n : ℕ) (which : Limitation) (k l : Limit) → 1 ≤ g.block → AtMost k l → counted g n which k ≤ counted g n which l
counted-rise g n which None None b h = omega arith
counted-rise g n which None (Some m) b h = absurd h
counted-rise g n which (Some k) None b h = absurd h
counted-rise g n which (Some k) (Some m) b h = omega (arith, counts-rise g which k m b h)

module _ (u : UnitRecord) (ok : Ranged u) (n : ℕ) where
  -- the budgets are those of so many intervals
  pub counts-within : (most : ℕ) → n ≤ most → Within (counts_of u n) (budgets most most (most * most_blocks))
  counts-within most h =
      record {
        starts = omega (arith, counted-most u.generator n Starts u.limits.starts);
        ons = omega (arith, counted-most u.generator n Hours u.limits.hours);
        blocks = omega (arith, counted-most u.generator n Mwh u.limits.mwh, mul-le-mul h ok.pmax-most);
      }

  -- the figures are within the table's ranges
  pub figures-sound : n ≤ most_intervals → Sound (figures_of u n)
  unfolding figures_of
  figures-sound h =
      record {
        block = ok.block;
        pmin = ok.pmin;
        pmax = ok.pmax;
        top = ok.top;
        mot = ok.mot;
        mot-most = ok.mot-most;
        mdt = ok.mdt;
        mdt-most = ok.mdt-most;
        vec = ok.vec;
        mlc = ok.mlc;
        suc = ok.suc;
        takes = record { starts = taken u.limits.starts; ons = taken u.limits.hours; blocks = taken u.limits.mwh };
        most = counts-within most_intervals h;
      }
    where
      taken : (l : Limit) → taken_of l ≤ 1
      taken None = omega arith
      taken (Some k) = omega arith

  -- the table has the opening cell of a run with limitations at most the unit's
  pub opening-in-table : (limits : Limits) → Under limits u.limits → InTable (figures_of u n) (opening_cell (limited u limits) n)
  unfolding figures_of opening_cell
  opening-in-table limits h =
      record {
        state = state (was_on u.opening);
        left =
            record {
              starts = counted-rise u.generator n Starts limits.starts u.limits.starts ok.block (h Starts);
              ons = counted-rise u.generator n Hours limits.hours u.limits.hours ok.block (h Hours);
              blocks = counted-rise u.generator n Mwh limits.mwh u.limits.mwh ok.block (h Mwh);
            };
      }
    where
      state : (on : Bool) → state_of u on < u.generator.mot + u.generator.mdt
      state true = omega (arith, ok.mot, ok.mdt)
      state false = omega (arith, ok.mot, ok.mdt)

-- ---- the best plan under smaller limitations is that of another cell of the same table

same-figures : (u : UnitRecord) (n : ℕ) (limits : Limits) → Under limits u.limits → figures_with (limited u limits) (counts_of u n) ≡ figures_of u n
unfolding figures_of
same-figures u n limits h =
    rw (
      taken-same limits.starts u.limits.starts (h Starts),
      taken-same limits.hours u.limits.hours (h Hours),
      taken-same limits.mwh u.limits.mwh (h Mwh),
    )

pub best-under : (u : UnitRecord) → Ranged u → (prices : List ℤ) (limits : Limits) → Under limits u.limits
    → best (limited u limits) prices ≡ plan_at (figures_of u (length prices)) anywhere (quarters_of u prices) (opening_cell (limited u limits) (length prices))
best-under u ok prices limits h =
    let n = length prices in
    let v : UnitRecord = limited u limits in
    best-steps v prices
    ∙ same-plan v ok (counts_of u n) (quarters_of u prices) (before v) (opening_cell v n)
    (rw (quarters-length (opens_in u.permit) 0 prices) (opening-alike v ok (counts_of u n) n))
    ∙ ap (λ (f : Figures). plan_at f anywhere (quarters_of u prices) (opening_cell v n)) (same-figures u n limits h)

-- with months inside, whose figures stand beside those of the year
pub best-in-months : (u : UnitRecord) (ok : Ranged u) (prices : List ℤ) (limits : Limits) → Under limits u.limits → (months : List Month)
    → Months (limited u limits) ok (counts_of u (length prices)) months → length prices ≤ intervals_of months
    → best_in (limited u limits) months prices
    ≡ year_plan u.generator (figures_of u (length prices)) months (quarters_of u prices) (opening_cell (limited u limits) (length prices))
best-in-months u ok prices limits h months beside whole =
    let n = length prices in
    let v : UnitRecord = limited u limits in
    best-year v months prices whole
    ∙ year-plan v ok (counts_of u n) months beside (quarters_of u prices) (before v) None None None (opening_cell v n)
    (rw (quarters-length (opens_in u.permit) 0 prices) (opening-alike v ok (counts_of u n) n))
    ∙ ap (λ (f : Figures). year_plan u.generator f months (quarters_of u prices) (opening_cell v n)) (same-figures u n limits h)

-- the best plan is that of the opening cell
pub best-cell : (u : UnitRecord) → Ranged u → (prices : List ℤ)
    → best u prices ≡ plan_at (figures_of u (length prices)) anywhere (quarters_of u prices) (opening_cell u (length prices))
best-cell u ok prices = best-under u ok prices u.limits (under-itself u.limits)

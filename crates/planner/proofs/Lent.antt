-- What is found before any work and by it, in turn; and what it says that a case passed: the slices lent are long enough.
use Rattle.std.specs.Prelude.{Ok}
use mathlib.Core.Path.{◌≡◌, refl, sym, ap, ◌∙◌}
use mathlib.Core.Bool.{Bool, true, false, cond}
use mathlib.Core.List.{List, [], ◌∷◌, ◌++◌}
use Prim.Native.Nat.{ℕ, zero, suc, ◌+◌, ◌*◌, ◌≤◌, ◌<◌}
use native.Mathlib.Omega.{arith}
use borrow.Author.Tests.{leb-true, leb-false, le-leb, lt-leb}
use lib.Dec.{leb}
use lib.IntN.{ℤ, pos}
use lib.ListN.{length, drop, replicate}
use Rattle.commitment.specs.declared.Cause.TheVariants.{Length, Scratch}
use Rattle.commitment.specs.declared.UnitRecord.{UnitRecord}
use Rattle.commitment.specs.Causes.{◌else◌, first_of}
use Rattle.commitment.specs.Bounds.{most_intervals}
use Rattle.commitment.specs.Cells.{layer_cells, cells_needed, cells_long, cells_used}
use Rattle.commitment.specs.Keeping.{opens_in}
use Rattle.commitment.specs.Ranges.{prices_kept, permit_kept, date_kept, case_checks, case_checked}
use Rattle.commitment.specs.Types.{Hours}
use Rattle.commitment.specs.Windows.{opens, HoursOf}
use Rattle.commitment.proofs.Causes.{checked_then, in-turn, unless-passed, then-passed}
use Rattle.commitment.proofs.Passing.{Passing, passing}
use Rattle.commitment.proofs.Ranges.{in-range}
use Rattle.optimality.specs.declared.Figures.{Figures}
use Rattle.optimality.specs.Cells.{Sound, figures_of, quarters_of}
use Rattle.optimality.proofs.Opening.{figures-sound}
use Rattle.optimality.proofs.Quarters.{quarters-same}
use Rattle.optimality.proofs.Ranges.{ranged}
use Rattle.geometry.specs.Geometry.{width}
use Rattle.geometry.specs.Layers.{Room}
use Rattle.geometry.proofs.Widths.{width_is}
use Rattle.layers.specs.Filling.{quarters_in}
use Rattle.halving.specs.Tasks.{CaseAsked}
use Rattle.planner.specs.Planning.{slices_checks, lent_checks, lent_checked, schedule_checks, schedule_checked, plan_checked, scratch_after}
use Rattle.valuation.specs.Telling.{Told}
use Rattle.pair.specs.Rolling as Rolling
use Rattle.planner.specs.declared.models.Model.{Model}
use Rattle.planner.specs.Models.{ModelOf, Begun}
use Rattle.planner.specs.Valuing.{value_lent_checks, value_lent, value_checked}
use Rattle.valuation.proofs.Telling.{told_in}

-- ---- in turn

module _ (u : UnitRecord) (prices : List ℤ) where
  pub lent-turn : (long : Bool) (scratch : ℕ)
      → lent_checked u prices long scratch
      ≡ checked_then (case_checked u (prices_kept prices) (length prices)) (first_of (slices_checks u (length prices) long scratch))
  unfolding lent_checked case_checked
  lent-turn long scratch = in-turn (case_checks u (prices_kept prices) (length prices)) (slices_checks u (length prices) long scratch)

  -- valuing takes no schedule slice
  pub value_lent_lem : (scratch : ℕ) → lent_checked u prices true scratch ≡ value_lent u prices scratch
  unfolding lent_checked value_lent
  value_lent_lem scratch =
      in-turn (case_checks u (prices_kept prices) (length prices)) (slices_checks u (length prices) true scratch)
      ∙ sym (in-turn (case_checks u (prices_kept prices) (length prices)) ((leb (cells_needed u (length prices)) scratch else Scratch) ∷ []))

  pub plan-turn : (scratch schedule : ℕ)
      → plan_checked u prices scratch schedule ≡ checked_then (lent_checked u prices (leb (length prices) schedule) scratch) (schedule_checked u prices)
  unfolding plan_checked lent_checked
  plan-turn scratch schedule = in-turn (lent_checks u prices (leb (length prices) schedule) scratch) (schedule_checks u prices)

  pub value-turn : (scratch : ℕ) → value_checked u prices scratch ≡ checked_then (value_lent u prices scratch) (schedule_checked u prices)
  unfolding value_checked value_lent
  value-turn scratch = in-turn (value_lent_checks u prices scratch) (schedule_checks u prices)

-- ---- a case that passed

pub record Lent (u : UnitRecord) (prices : List ℤ) (long : Bool) (scratch : ℕ) : Type 0 where
  pub case : Passing u (prices_kept prices) (length prices)
  pub entries : long ≡ true
  pub cells : cells_needed u (length prices) ≤ scratch

pub lent : (u : UnitRecord) (prices : List ℤ) (long : Bool) (scratch : ℕ) → lent_checked u prices long scratch ≡ Ok tt → Lent u prices long scratch
lent u prices long scratch e =
    let case = case_checked u (prices_kept prices) (length prices) in
    let slices = first_of (slices_checks u (length prices) long scratch) in
    let a = then-passed case slices (sym (lent-turn u prices long scratch) ∙ e) in
    let b = unless-passed long Length _ a.1 in
    let c = unless-passed (leb (cells_needed u (length prices)) scratch) Scratch (Ok tt) b.1 in
    record { case = passing u (prices_kept prices) (length prices) a.0; entries = b.0; cells = leb-true (cells_needed u (length prices)) scratch c.0 }

-- ---- of a case that passed, what its model is made of

module _ (u : UnitRecord) (prices : List ℤ) (scratch : ℕ) (h : Lent u prices true scratch) where
  pub lent-sound : (f : Figures) → f ≡ figures_of u (length prices) → Sound f
  lent-sound f is =
      let o = h.case.order in
      rw is (figures-sound u (ranged u o.ranges o.shape) (length prices) o.short)

  -- a case that passed has a permit in order
  pub permitted : (permit_kept u.permit ≡ true) × (date_kept u.permit ≡ true)
  permitted = ((in-range u h.case.order.ranges).permit, h.case.order.dated)

-- the quarters of the hours are those of the case
pub quarters-are : (u : UnitRecord) (prices : List ℤ) → length prices ≤ most_intervals → (hours : Hours) → HoursOf u.permit hours
    → quarters_in hours prices ≡ quarters_of u prices
quarters-are u prices short hours of = quarters-same (opens hours) (opens_in u.permit) 0 prices (λ t k. of.same (0 + t) (omega (arith, short)))

-- ---- which cells are used

module _ (u : UnitRecord) (n lent : ℕ) where
  pub long-used : cells_long u n ≤ lent → cells_long u n ≡ cells_used u n lent
  long-used fits = rw (le-leb (cells_long u n) lent fits)

  pub two-used : lent < cells_long u n → cells_needed u n ≡ cells_used u n lent
  two-used short = rw (lt-leb (cells_long u n) lent short)

-- ---- what the functions below ask, of a model

module _ (u : UnitRecord) (prices : List ℤ) (lent : ℕ) (m : Model) (of : ModelOf u prices lent m) where
  pub sound : Sound m.figures
  sound =
      let o = of.order in
      rw of.figures (figures-sound u (ranged u o.ranges o.shape) (length prices) o.short)

  -- the cells of a layer
  layer-is : m.width ≡ layer_cells u (length prices)
  layer-is = of.wide ∙ ap width of.figures ∙ width_is u (length prices)

  pub quarters : quarters_in m.hours prices ≡ quarters_of u prices
  quarters = quarters-are u prices of.order.short m.hours of.opened

  -- the long table, where it is used
  module _ (long : m.long ≡ true) where
    pub long-fits : cells_long u (length prices) ≤ lent
    long-fits = leb-true _ _ (sym of.long ∙ long)

    pub long-room : Room m.figures (length prices) lent
    long-room = record { sound = sound; short = of.order.short; fits = rw (of.figures, width_is u (length prices)) long-fits }

    pub table-used : (length prices + 1) * m.width ≡ cells_used u (length prices) lent
    table-used = ap (λ (n : ℕ). (length prices + 1) * n) layer-is ∙ long-used u (length prices) lent long-fits

  -- two layers, which are lent in any case
  pub two-fit : m.width + m.width ≤ lent
  two-fit = omega (arith, layer-is, of.needed)

  module _ (short : m.long ≡ false) where
    too_long : lent < cells_long u (length prices)
    too_long = leb-false _ _ (sym of.long ∙ short)

    pub layers-used : m.width + m.width ≡ cells_used u (length prices) lent
    layers-used =
        let twice : m.width + m.width ≡ 2 * m.width = omega arith in
        twice ∙ ap (λ (k : ℕ). 2 * k) layer-is ∙ two-used u (length prices) lent too_long

    -- where the long table does not fit and two layers do, there are two intervals
    pub two-intervals : 2 ≤ length prices
    two-intervals = by (length prices) of.needed too_long
      where
        by : (n : ℕ) → cells_needed u n ≤ lent → lent < cells_long u n → 2 ≤ n
        by zero fits less = absurd (omega (arith, fits, less))
        by (suc zero) fits less = absurd (omega (arith, fits, less))
        by (suc (suc n)) fits less = omega arith

  pub used-fits : cells_used u (length prices) lent ≤ lent
  used-fits = by m.long refl
    where
      by : (t : Bool) → m.long ≡ t → cells_used u (length prices) lent ≤ lent
      by true e = rw (sym of.long ∙ e) (long-fits e)
      by false e = rw (sym of.long ∙ e) of.needed

  -- a pass over the whole case
  pub case-asked : CaseAsked m.figures prices m.hours m.width lent
  case-asked =
      record {
        asked =
            record {
              sound = sound;
              priced = of.priced;
              clocked = of.opened.clocked;
              ordered = omega arith;
              inside = omega arith;
              short = of.order.short;
              ends = tt;
            };
        some = of.some;
        wide = of.wide;
        fits = two-fit;
      }

  -- the cells that a call clears
  pub used-is : {used : ℕ} → used ≡ cond m.long (cells_long u (length prices)) (cells_needed u (length prices)) → used ≡ cells_used u (length prices) lent
  used-is e = e ∙ ap (λ (t : Bool). cond t (cells_long u (length prices)) (cells_needed u (length prices))) of.long

  -- as many cells serve as well
  pub model-on : {more : ℕ} → more ≡ lent → ModelOf u prices more m
  model-on e = rw e of

-- the same over the cells themselves
module _ (u : UnitRecord) (prices : List ℤ) (m : Model) (cells : List ℤ) (of : ModelOf u prices (length cells) m) where
  pub rolling : Rolling.Lent m.figures m.width prices cells m.hours
  rolling =
      record {
        room =
            record {
              sound = sound u prices (length cells) m of;
              short = omega arith;
              fits = rw (of.figures, width_is u (length prices)) of.needed;
            };
        wide = of.wide;
        short = of.order.short;
        priced = of.priced;
        clocked = of.opened.clocked;
      }

  -- the first layer, brought to the front, tells
  pub told : {planning : Bool} → Begun m prices planning cells → Told u prices cells
  told begun =
      told_in u prices cells of.order (omega (arith, two-fit u prices (length cells) m of, ap width of.figures, of.wide))
      (rw (of.figures, quarters u prices (length cells) m of) at begun.layer)

-- ---- the scratch after the cells used are cleared, of which the work left what lies behind them

pub cleared : (used needed : ℕ) (was left : List ℤ) → used ≡ needed → drop used left ≡ drop used was
    → replicate used (pos 0) ++ drop used left ≡ scratch_after (Ok tt) needed was
cleared used needed was left e behind =
    ap (λ (rest : List ℤ). replicate used (pos 0) ++ rest) behind ∙ ap (λ (n : ℕ). replicate n (pos 0) ++ drop n was) e

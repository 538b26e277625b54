-- One month of a plan: entered in its box, solved up to the layer of the next month, and raised again.
use Rattle.std.specs.Prelude.{None}
use mathlib.Core.Path.{◌≡◌, refl, sym, ◌∙◌, subst}
use mathlib.Core.List.{List}
use mathlib.Core.Logic.{inr}
use Prim.Native.Nat.{ℕ, ◌+◌, ◌-◌, ◌≤◌}
use native.Mathlib.Omega.{arith}
use lib.IntN.{ℤ, pos}
use lib.ListN.{length, drop, length-drop}
use lib.Seq.{get_or-drop}
use Rattle.commitment.specs.Types.{BestProfit}
use Rattle.commitment.specs.Bounds.{most_intervals}
use Rattle.optimality.specs.declared.Budgets.{Budgets}
use Rattle.optimality.specs.declared.Cell.{Cell}
use Rattle.optimality.specs.declared.Figures.{Figures}
use Rattle.optimality.specs.Cells.{with_most, value_at}
use Rattle.optimality.specs.Years.{raised}
use Rattle.optimality.proofs.Within.{with-plan, with_value}
use Rattle.geometry.specs.Geometry.{width, index}
use Rattle.geometry.specs.Layers.{Holds, LayerAt}
use Rattle.marks.specs.Lines.{value_of}
use Rattle.halving.specs.declared.ahead.Leg.{Leg}
use Rattle.halving.specs.declared.ahead.Reached.{Reached}
use Rattle.halving.specs.Reaching.{LegAsked, ReachedBy}
use Rattle.months.specs.declared.annual.Year.{Year}
use Rattle.months.specs.Capping.{Above, box_of, over_of, EnterAsked, Entered}
use Rattle.months.specs.Annual.{cut_at, cap_of, quarters_at, place_of, YearAsked, Worths}
use Rattle.months.specs.Planning.{frame_of, MonthPlanAsked, MonthBy}
use Rattle.months.proofs.Raising.{box-sound, raised-inside}
use Rattle.months.proofs.Storing.{box-inside}
use Rattle.months.proofs.Slots.{place-fits}
use Rattle.months.proofs.Standing.{ahead}

module _ (y : Year) (was prices : List ℤ) (cuts : List ℕ) (k : ℕ) (at : Cell) (schedule : ℕ)
    (asked : MonthPlanAsked y was prices cuts k at schedule) where
  abbrev f : Figures
  f = y.figures

  abbrev cap : Budgets
  cap = cap_of y.caps k

  abbrev g : Figures
  g = with_most f cap

  abbrev above : Budgets
  above = over_of cap at

  abbrev year : YearAsked y (length was) prices cuts
  year = asked.chain.year

  abbrev pub leg : Leg
  leg = record { from = cut_at cuts k; to = cut_at cuts (k + 1); cell = box_of cap at }

  pub above-fits : Above f cap above
  above-fits =
      let i = asked.here.left in
      let c = year.caps k in
      record {
        sound = year.sound;
        within =
            record {
              starts = omega (arith, i.starts, c.starts);
              ons = omega (arith, i.ons, c.ons);
              blocks = omega (arith, i.blocks, c.blocks);
            };
      }

  next_place : place_of y (k + 1) + width f ≤ y.work
  next_place = omega (arith, place-fits y (length was) prices cuts year (k + 1) asked.month, year.wide)

  pub enter-asked : EnterAsked f cap above (length was) (place_of y (k + 1)) y.work
  enter-asked =
      record {
        fits = above-fits;
        apart = inr next_place;
        year = omega (arith, next_place, year.fits);
        box = omega (arith, year.boxes k, year.fits);
      }

  module _ (e : List ℤ) (same : length e ≡ length was) (entered : Entered f cap above was e (place_of y (k + 1)) y.work) where
    -- what the box sees at the month's end
    pub layer : (worth : ℕ → Cell → BestProfit) → Worths y prices cuts worth
        → LayerAt g (length prices - cut_at cuts (k + 1)) (λ x. worth (k + 1) (raised above x)) (value_of g (width g) (drop y.work e))
    layer worth worths =
        record {
          holds = λ x i.
              subst (Holds (length prices - cut_at cuts (k + 1)) (worth (k + 1) (raised above x)))
              (sym (get_or-drop y.work e (index g x) (pos 0) ∙ entered.inside x i))
              ((asked.next worth worths).holds (raised above x) (raised-inside f cap above above-fits x i));
        }

    pub few : length prices - cut_at cuts (k + 1) + (cut_at cuts (k + 1) - cut_at cuts k) ≤ most_intervals
    few = omega (arith, ahead y (length was) prices cuts year k asked.month, year.short)

    -- a cell of the year with a plan has one in its box
    pub some : (worth : ℕ → Cell → BestProfit) → Worths y prices cuts worth → (worth k at ≡ None → ⊥)
        → value_at g (λ x. worth (k + 1) (raised above x)) (quarters_at y prices cuts k) (box_of cap at) ≡ None → ⊥
    some worth worths has none =
        has
        (worths.before k asked.month at asked.here
        ∙ sym (with_value f cap (λ x. worth (k + 1) (raised above x)) (quarters_at y prices cuts k) (box_of cap at)) ∙ none)

    pub leg-asked : LegAsked (frame_of g y.hours) (drop y.work e) prices y.room leg schedule
    leg-asked =
        record {
          sound = box-sound f cap above above-fits;
          wide = refl;
          two = year.boxes k;
          fits = omega (arith, length-drop y.work e, year.fits, same);
          priced = year.priced;
          clocked = year.clocked;
          ordered = omega (arith, year.months.rising k asked.month);
          inside = year.months.inside (k + 1) asked.month;
          short = year.short;
          long = omega (arith, year.months.inside (k + 1) asked.month, asked.long);
          here = box-inside f cap above above-fits at asked.here;
          worth = λ x. asked.chain.worth (k + 1) (raised above x);
          ahead = length prices - cut_at cuts (k + 1);
          few = few;
          layer = layer asked.chain.worth asked.chain.worths;
          some = some asked.chain.worth asked.chain.worths asked.some;
        }

  pub month-by : (worth : ℕ → Cell → BestProfit) (then now : List ℕ) (r : Reached)
      → ReachedBy (frame_of g y.hours) prices leg (λ x. worth (k + 1) (raised above x)) then now r
      → MonthBy y prices cuts k at worth then now (record { cell = raised above r.cell; tries = r.tries })
  month-by worth then now r s =
      record {
        outputs = s.outputs;
        earned = s.earned;
        end = r.cell;
        leads = s.leads;
        next = refl;
        inside = raised-inside f cap above above-fits r.cell s.inside;
        profit = s.profit;
        later = s.later;
        best = sym (with-plan f cap (λ x. worth (k + 1) (raised above x)) (quarters_at y prices cuts k) (box_of cap at)) ∙ s.best;
        written = s.written;
        tried = s.tried;
        few = s.few;
      }

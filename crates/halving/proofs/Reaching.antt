-- A plan up to a layer that stands: it ends in the cell that its own is marked with, and is the plan of the task that ends there with nothing left.
use Rattle.std.specs.Prelude.{None, Some}
use mathlib.Core.Path.{◌≡◌, sym, ap, ◌∙◌}
use mathlib.Core.List.{List, [], ◌++◌, append-nil}
use Prim.Native.Nat.{ℕ, ◌+◌, ◌-◌, ◌≤◌}
use native.Mathlib.Omega.{arith}
use lib.IntN.{ℤ, pos, ◌+ℤ◌}
use lib.ListN.{length, take, drop}
use Rattle.commitment.specs.Types.{BestProfit}
use Rattle.commitment.specs.Types.{Hours}
use Rattle.commitment.specs.Best.{Plan, plan, schedule_of}
use Rattle.commitment.specs.Bounds.{most_intervals}
use Rattle.commitment.specs.Tries.{tries_over}
use Rattle.commitment.specs.Windows.{opens}
use Rattle.optimality.specs.declared.Cell.{Cell}
use Rattle.optimality.specs.declared.Figures.{Figures}
use Rattle.optimality.specs.Machine.{Quarter, ended}
use Rattle.optimality.specs.Cells.{Within, InTable, plan_at, value_at}
use Rattle.optimality.proofs.Quarters.{quarters-length}
use Rattle.optimality.proofs.Rival.{not-plan}
use Rattle.optimality.proofs.Turns.{value-end}
use Rattle.optimality.proofs.Within.{within-within, less-within}
use Rattle.geometry.specs.Geometry.{index}
use Rattle.geometry.specs.Layers.{LayerAt}
use Rattle.layers.specs.Filling.{quarters_in}
use Rattle.layers.proofs.Between.{between-length}
use Rattle.marks.specs.Lines.{value_of, mark_of}
use Rattle.marks.specs.Standing.{Stands, MarkedBy, SweepAsked, Numbered, ends_in, spent}
use Rattle.marks.specs.declared.Frame.{Frame}
use Rattle.marks.proofs.Halving.{spends-within, earlier-half}
use Rattle.halving.specs.declared.Task.{Task}
use Rattle.halving.specs.declared.ahead.Leg.{Leg}
use Rattle.halving.specs.Tasks.{plan_of, TaskAsked, Solved, MarkKept}
use Rattle.halving.specs.Reaching.{quarters_over, LegAsked, ReachedBy}
use Rattle.halving.proofs.Boxes.{boxed-width}
use Rattle.halving.proofs.Joining.{planned}

-- a plan of no intervals is what its cell is worth
plan-end : (f : Figures) (ends : Cell → BestProfit) (c : Cell) (s : List ℕ) (p : ℤ) → plan_at f ends [] c ≡ plan s p → (s ≡ []) × (ends c ≡ Some p)
unfolding plan_at
plan-end f ends c s p e = by (ends c) e
  where
    by : (v : BestProfit) → ended v ≡ plan s p → (s ≡ []) × (v ≡ Some p)
    by None h = absurd (not-plan h)
    by (Some q) h = (sym (ap schedule_of h), cc)

-- the task that ends in a cell with nothing left
abbrev pub leg_task : Leg → Cell → Task
leg_task l at = record { from = l.from; to = l.to; cell = spent l.cell at; end = Some at.state }

module _ (g : Frame) (was prices : List ℤ) (room : ℕ) (l : Leg) (schedule : ℕ) (asked : LegAsked g was prices room l schedule) where
  abbrev f : Figures
  f = g.figures

  abbrev w : ℕ
  w = g.width

  abbrev hours : Hours
  hours = g.hours

  abbrev c : Cell
  c = l.cell

  abbrev quarters : List Quarter
  quarters = quarters_over g prices l

  long : length quarters ≡ l.to - l.from
  long =
      between-length (quarters_in hours prices) l.from l.to asked.ordered
      (omega (arith, quarters-length (opens hours) 0 prices, asked.inside))

  -- the layer is the one before no quarters
  before-none : (worth : Cell → BestProfit) (n : ℕ) → LayerAt f n worth (value_of f w was) → LayerAt f n (value_at f worth []) (value_of f w was)
  before-none worth n layer = record { holds = λ x i. rw (value-end f worth x) (layer.holds x i) }

  pub sweep-asked : SweepAsked g was prices l.from l.to
  sweep-asked =
      record {
        sound = asked.sound;
        wide = asked.wide;
        marks = omega (arith, asked.two, asked.fits);
        priced = asked.priced;
        clocked = asked.clocked;
        ordered = asked.ordered;
        inside = asked.inside;
        short = asked.short;
        ends = asked.worth;
        later = [];
        ahead = asked.ahead;
        layer = before-none asked.worth asked.ahead asked.layer;
        few = asked.few;
      }

  module _ (now : List ℤ) (numbered : Numbered f w was now quarters) (worth : Cell → BestProfit) (n : ℕ) (few : n + (l.to - l.from) ≤ most_intervals)
      (layer : LayerAt f n worth (value_of f w was)) (some : value_at f worth quarters c ≡ None → ⊥) where
    -- the cell where the plan ends
    pub mark : MarkedBy f worth quarters [] (λ x. pos (index f x)) c (mark_of f w now c)
    mark =
        (numbered.marked worth [] n (before-none worth n layer) (omega (arith, few, long))).marks c asked.here
        (rw (append-nil quarters) some)

    pub mark-kept : MarkKept f w now c
    mark-kept = record { at = mark.at; inside = mark.stands.inside; is = mark.is }

    module _ (at : Cell) (there : at ≡ mark.at) where
      stands : Stands f worth quarters [] c at
      stands = rw there mark.stands

      pub spends-all : Within at.left c.left
      spends-all = spends-within f asked.sound worth quarters [] c at stands

      task-plan : plan_of f prices hours (leg_task l at) ≡ plan stands.outputs stands.earned
      task-plan = earlier-half f asked.sound worth quarters [] c at stands

      spent-inside : InTable f (spent c at)
      spent-inside =
          let i = asked.here in
          record { state = i.state; left = within-within (less-within c.left at.left) i.left }

      pub task-asked : (lent : ℕ) → room ≤ lent → TaskAsked f prices hours room (leg_task l at) lent schedule
      task-asked lent fits =
          record {
            given =
                record {
                  asked =
                      record {
                        sound = asked.sound;
                        priced = asked.priced;
                        clocked = asked.clocked;
                        ordered = asked.ordered;
                        inside = asked.inside;
                        short = asked.short;
                        ends = stands.inside.state;
                      };
                  here = spent-inside;
                  some = planned f (ends_in at.state) quarters (spent c at) stands.outputs stands.earned task-plan;
                  long = asked.long;
                };
            two = omega (arith, boxed-width f (spent c at) spent-inside, asked.two, asked.wide);
            fits = fits;
          }

      pub reached : (then after : List ℕ) (tries : ℕ) → Solved f prices hours (leg_task l at) then after tries
          → ReachedBy g prices l worth then after (record { cell = at; tries = tries })
      reached then after tries s =
          let e = plan-end f worth at stands.rest stands.profit stands.goes_on in
          record {
            inside = stands.inside;
            outputs = stands.outputs;
            earned = stands.earned;
            leads = stands.leads;
            profit = stands.profit;
            later = e.1;
            best =
                ap (λ (qs : List Quarter). plan_at f worth qs c) (sym (append-nil quarters)) ∙ stands.whole
                ∙ ap (λ (xs : List ℕ). plan xs (stands.earned +ℤ stands.profit)) (ap (λ (xs : List ℕ). stands.outputs ++ xs) e.0 ∙ append-nil stands.outputs);
            written = s.written ∙ ap (λ (p : Plan). take l.from then ++ (schedule_of p ++ drop l.to then)) task-plan;
            tried = s.tried ∙ ap (λ (p : Plan). tries_over f.block f.pmin (schedule_of p)) task-plan;
            few = s.few;
          }

use Rattle.std.proofs.Common.{◌≡◌, None, sym, ap, ◌∙◌, ◌-◌, ◌*◌, ◌++◌, ℕ, ℤ, List, [], length, take, drop, arith}
use mathlib.Core.Path.{ap₂, subst}
use mathlib.Core.Logic.{inr}
use Rattle.lists.proofs.Fills.{tail-part}
use Rattle.commitment.specs.Best.{Plan, schedule_of}
use Rattle.commitment.specs.Tries.{tries_over}
use Rattle.commitment.specs.Windows.{opens}
use Rattle.optimality.specs.Machine.{Quarter}
use Rattle.optimality.specs.Cells.{plan_at, value_at}
use Rattle.optimality.proofs.Quarters.{quarters-length, quarters-priced}
use Rattle.geometry.specs.Geometry.{width}
use Rattle.geometry.specs.Layers.{Layer, stored_at}
use Rattle.layers.specs.Filling.{quarters_in, quarters_on, between}
use Rattle.table.specs.Reading.{PlanFrom}
use Rattle.halving.specs.Tasks.{ends_by, plan_of}
use Rattle.halving.proofs.Parts.{prices_of, quarters-of, prices-long, part-written, same-beyond}
use Rattle.halving.proofs.leaf.Goals as goal
use Rattle.halving.proofs.leaf.Goals.{After-fill}

-- the prices and the quarters, and how many they are
abbrev prices_here : After-fill → List ℤ
prices_here c = prices_of c.args.prices.now c.args.t.from c.args.t.to

abbrev quarters_here : After-fill → List Quarter
quarters_here c = quarters_on c.args.g.hours c.args.t.from (prices_here c)

long : (c : After-fill) → length (prices_here c) ≡ c.args.t.to - c.args.t.from
long c = let k = c.requires.given.asked in prices-long c.args.prices.now c.args.t.from c.args.t.to k.ordered k.inside

as_many : (c : After-fill) → length (quarters_here c) ≡ length (prices_here c)
as_many c = quarters-length (opens c.args.g.hours) c.args.t.from (prices_here c)

-- the table that is filled, and the plan in it
plans : (c : After-fill) → PlanFrom c.args.g.figures (ends_by c.args.t.end) (prices_here c) c.fill.new.scratch c.args.t.cell (quarters_here c)
plans c =
    let a = c.args in
    let f = a.g.figures in
    let behind : length (prices_here c) * width f ≡ (a.t.to - a.t.from) * a.g.width = ap₂ (λ (x y : ℕ). x * y) (long c) (sym c.requires.wide) in
    let last = subst (λ (n : ℕ). Layer f (ends_by a.t.end) [] (stored_at f c.put_end.new.cells n)) (sym behind) c.put_end.ensures.layer in
    record {
      priced = quarters-priced (opens a.g.hours) a.t.from (prices_here c);
      filled = c.fill.ensures.filled_by (ends_by a.t.end) (rw (as_many c) last);
      some = subst (λ (qs : List Quarter). value_at f (ends_by a.t.end) qs a.t.cell ≡ None → ⊥)
          (quarters-of a.g.hours a.prices.now a.t.from a.t.to)
          c.requires.given.some;
    }

pub read_off-requires-clause-plan_from : goal.read_off-requires-clause-plan_from
read_off-requires-clause-plan_from c =
    let f = (goal.at.read_off-requires-clause-plan_from c).After-fill in
    (ends_by c.args.t.end, quarters_here f, plans f)

pub returns-clause-solved : goal.returns-clause-solved
returns-clause-solved c =
    let a = c.args in
    let k = c.requires in
    let f = (goal.at.returns-clause-solved c).After-fill in
    let r = c.read_off.ensures.read_off (ends_by a.t.end) (quarters_here f) (plans f) in
    let same : quarters_here f ≡ between (quarters_in a.g.hours a.prices.now) a.t.from a.t.to =
    sym (quarters-of a.g.hours a.prices.now a.t.from a.t.to) in
    let plan : plan_at a.g.figures (ends_by a.t.end) (quarters_here f) a.t.cell ≡ plan_of a.g.figures a.prices.now a.g.hours a.t =
    ap (λ (qs : List Quarter). plan_at a.g.figures (ends_by a.t.end) qs a.t.cell) same in
    record {
      written =
          part-written a.schedule.now a.t.from a.t.to k.given.asked.ordered k.given.long _ _
          (schedule_of (plan_of a.g.figures a.prices.now a.g.hours a.t)) (tail-part a.t.from a.schedule.now)
          (r.0
          ∙ ap₂ (λ (p : Plan) (n : ℕ). schedule_of p ++ drop n (take (length a.schedule.now - a.t.from) (drop a.t.from a.schedule.now))) plan
          (as_many f ∙ long f));
      tried = r.1 ∙ ap (λ (p : Plan). tries_over a.g.figures.block a.g.figures.pmin (schedule_of p)) plan;
      few = rw (long f) at c.read_off.ensures.upper_bound;
    }

pub returns-clause-untouched : goal.returns-clause-untouched
returns-clause-untouched c j h =
    let a = c.args in
    let f = (goal.at.returns-clause-untouched c).After-fill in
    same-beyond (length (prices_here f) * a.g.width) _ _ c.fill.ensures.beyond j (omega (arith, h, ap (λ (n : ℕ). n * a.g.width) (long f)))
    ∙ c.put_end.ensures.apart j (inr (omega (arith, h)))

-- The plan from the opening cell is the best of the case, read off or worked out.
use mathlib.Core.Path.{◌≡◌, refl, ap, ap₂, ◌∙◌}
use mathlib.Core.List.{List, ◌++◌}
use Prim.Native.Nat.{ℕ}
use lib.ListN.{length, drop}
use Rattle.commitment.specs.Best.{Plan, schedule_of, best}
use Rattle.commitment.specs.Keeping.{opens_in}
use Rattle.commitment.specs.Tries.{tries_over}
use Rattle.optimality.specs.declared.Figures.{Figures}
use Rattle.optimality.specs.declared.Cell.{Cell}
use Rattle.optimality.specs.Machine.{Quarter, anywhere}
use Rattle.optimality.specs.Cells.{figures_of, quarters_of, plan_at}
use Rattle.optimality.proofs.Quarters.{quarters-priced, quarters-length}
use Rattle.layers.specs.Filling.{quarters_in}
use Rattle.table.specs.Reading.{PlanFrom}
use Rattle.valuation.specs.Telling.{Told}
use Rattle.valuation.proofs.Telling.{opening-inside, opening-plan, opening-some}
use Rattle.planner.proofs.Lent.{quarters, long-room, layers-used, two-intervals, case-asked, told}
use Rattle.planner.proofs.Worked.{plan-in-front}
use borrow.Author.Rules.{rules}
use Rattle.planner.proofs.reading.read_plan.Statement.{statement}
use Rattle.planner.proofs.reading.read_plan.Tie as tie

tells : (c : tie.Start) → Told c.args.unit c.args.prices.now c.args.scratch.now
tells c = told c.args.unit c.args.prices.now c.args.model c.args.scratch.now c.requires.0.0.model c.requires.0.0.begun

-- the quarters are those of the case
same-quarters : (c : tie.Start) → let a = c.args in quarters_in a.model.hours a.prices.now ≡ quarters_of a.unit a.prices.now
same-quarters c = quarters c.args.unit c.args.prices.now (length c.args.scratch.now) c.args.model c.requires.0.0.model

-- the plan from the opening cell
best-is : (c : tie.After-opening_cell-from) →
    let a = c.before.before.before.args in
    plan_at a.model.figures anywhere (quarters_of a.unit a.prices.now) c.opening_cell-from.result ≡ best a.unit a.prices.now
best-is c =
    let s = c.before.before.before in
    let a = s.args in
    ap₂ (λ (f : Figures) (x : Cell). plan_at f anywhere (quarters_of a.unit a.prices.now) x) s.requires.0.0.model.figures c.opening_cell-from.ensures
    ∙ opening-plan a.unit a.prices.now a.scratch.now (tells s)

-- ---- read off the long table

plans : (c : tie.Then-model) →
    let cell = c.before in
    let a = cell.before.before.before.args in
    PlanFrom a.model.figures anywhere a.prices.now a.scratch.now cell.opening_cell-from.result (quarters_of a.unit a.prices.now)
plans c =
    let cell = c.before in
    let s = cell.before.before.before in
    let a = s.args in
    let figures = s.requires.0.0.model.figures in
    record {
      priced = quarters-priced (opens_in a.unit.permit) 0 a.prices.now;
      filled = rw (same-quarters s) at (s.requires.0.0.begun.filled c.if-model.true);
      some = rw (figures, cell.opening_cell-from.ensures) (opening-some a.unit a.prices.now a.scratch.now (tells s) s.requires.1);
    }

read-off-requires : tie.Need-read_off-requires
read-off-requires c κs =
    let t = c.before in
    let cell = t.before in
    let s = cell.before.before.before in
    let a = s.args in
    let m = s.requires.0.0.model in
    let inside = opening-inside a.unit a.prices.now a.scratch.now (tells s) in (
      (long-room a.unit a.prices.now (length a.scratch.now) a.model m t.if-model.true, m.wide, m.priced),
      ((anywhere, quarters_of a.unit a.prices.now, plans t), (rw (m.figures, cell.opening_cell-from.ensures) inside, s.requires.0.1)),
    )

returns : tie.Need-returns-then-model
unfolding figures_of
returns c =
    let read = c.before.before in
    let t = read.before.before in
    let cell = t.before in
    let s = cell.before.before.before in
    let a = s.args in
    let off = read.read_off.ensures.0 anywhere (quarters_of a.unit a.prices.now) (plans t) in (
      off.1 ∙ ap₂ (λ (f : Figures) (b : Plan). tries_over f.block f.pmin (schedule_of b)) s.requires.0.0.model.figures (best-is cell),
      (
        off.0
            ∙ ap₂ (λ (b : Plan) (n : ℕ). schedule_of b ++ drop n a.schedule.now) (best-is cell)
            (quarters-length (opens_in a.unit.permit) 0 a.prices.now)
            ∙ plan-in-front a.unit a.prices.now a.scratch.now (tells s) a.schedule.now s.requires.1,
        refl,
      ),
    )

-- ---- worked out in two layers

plan-from-requires : tie.Need-plan_from-requires
plan-from-requires c κs =
    let e = c.before.before in
    let cell = e.before in
    let s = cell.before.before.before in
    let a = s.args in
    let m = s.requires.0.0.model in (
      (
        case-asked a.unit a.prices.now (length a.scratch.now) a.model m,
        s.requires.0.0.begun.passed e.if-model.false refl,
        rw (m.figures, cell.opening_cell-from.ensures) (opening-inside a.unit a.prices.now a.scratch.now (tells s)),
      ),
      (
        (two-intervals a.unit a.prices.now (length a.scratch.now) a.model m e.if-model.false, s.requires.0.1),
        rw (same-quarters s, m.figures, cell.opening_cell-from.ensures) (opening-some a.unit a.prices.now a.scratch.now (tells s) s.requires.1),
      ),
    )

returns-2 : tie.Need-returns
unfolding figures_of
returns-2 c =
    let made = c.before.before.before in
    let e = made.before.before.before in
    let cell = e.before in
    let s = cell.before.before.before in
    let a = s.args in
    let m = s.requires.0.0.model in
    let r = made.plan_from.ensures in
    let same : plan_at a.model.figures anywhere (quarters_in a.model.hours a.prices.now) cell.opening_cell-from.result ≡ best a.unit
    a.prices.now =
    ap (λ (qs : List Quarter). plan_at a.model.figures anywhere qs cell.opening_cell-from.result) (same-quarters s) ∙ best-is cell in (
      r.0 ∙ ap₂ (λ (f : Figures) (b : Plan). tries_over f.block f.pmin (schedule_of b)) m.figures same,
      (
        r.1.0
            ∙ ap (λ (b : Plan). schedule_of b ++ drop (length a.prices.now) a.schedule.now) same
            ∙ plan-in-front a.unit a.prices.now a.scratch.now (tells s) a.schedule.now s.requires.1,
        rw (layers-used a.unit a.prices.now (length a.scratch.now) a.model m e.if-model.false) at r.1.1,
      ),
    )

pub read_plan_spec : {M : Type 1} → statement M
read_plan_spec =
    tie.close
    (tie.spec
    (λ c κs. search rules)
    read-off-requires
    (λ c. search rules) (λ c. search rules)
    returns
    plan-from-requires
    (λ c. search rules) (λ c. search rules)
    returns-2)

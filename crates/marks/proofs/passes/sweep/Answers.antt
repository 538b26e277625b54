use Rattle.std.proofs.Common.{◌≡◌, ap, ◌∙◌, ◌-◌, ◌≤◌, ◌<◌, ℕ, List, ◌∷◌, length, get_or, pos, nat_abs, arith, FitsSigned, w64}
use Prim.Native.Nat.{suc}
use native.Mathlib.Nat.{zero-add}
use borrow.Author.Rules.{rules}
use Rattle.integers.proofs.Ranges.{plain_fits}
use Rattle.commitment.specs.Bounds.{most_price}
use Rattle.commitment.specs.Windows.{opens}
use Rattle.optimality.specs.Machine.{Quarter, quarter}
use Rattle.optimality.proofs.Quarters.{no_quarter, quarters-length, quarter-at}
use Rattle.geometry.specs.Geometry.{section}
use Rattle.layers.specs.Filling.{quarters_in, between}
use Rattle.layers.proofs.Between.{between_none, between_next, between-length}
use Rattle.marks.specs.declared.Step.{Step}
use Rattle.marks.specs.Lines.{Over}
use Rattle.marks.specs.Passing.{Columns, step_at}
use Rattle.marks.proofs.Walking.{swept_none, swept-next, before-swept}
use Rattle.marks.proofs.passes.sweep.Goals as goal
use Rattle.marks.proofs.passes.sweep.Goals.{In-loop-at}

abbrev quarters : In-loop-at → List Quarter
quarters c = quarters_in c.args.g.hours c.args.prices.now

as_many : (c : In-loop-at) → length (quarters c) ≡ length c.args.prices.now
as_many c = quarters-length (opens c.args.g.hours) 0 c.args.prices.now

-- the interval of a turn
inside : (c : In-loop-at) → c.loop-at.at - 1 < length c.args.prices.now
inside c = omega (arith, c.requires.sweep_asked.inside)

quarter-is : (c : In-loop-at) →
    let t = c.loop-at.at - 1 in
    get_or (quarters c) t no_quarter ≡ quarter (get_or c.args.prices.now t (pos 0)) (opens c.args.g.hours t)
quarter-is c =
    let t = c.loop-at.at - 1 in
    rw (zero-add t) at (quarter-at (opens c.args.g.hours) 0 c.args.prices.now t (inside c))

-- the quarters from it on
grown : (c : In-loop-at) →
    let t = c.loop-at.at - 1 in
    between (quarters c) t c.args.to ≡ get_or (quarters c) t no_quarter ∷ between (quarters c) c.loop-at.at c.args.to
grown c =
    let t = c.loop-at.at - 1 in
    let e : suc t ≡ c.loop-at.at = omega arith in
    between_next (quarters c) t c.args.to (omega arith) (omega (arith, as_many c, inside c))
    ∙ ap (λ (n : ℕ). get_or (quarters c) t no_quarter ∷ between (quarters c) n c.args.to) e

-- the step of a turn
abbrev step_of : In-loop-at → Step
step_of c = step_at c.args.g c.section_cells-section.result (get_or c.args.prices.now (c.loop-at.at - 1) (pos 0)) (c.loop-at.at - 1)

over : (c : In-loop-at) → Over (step_of c)
over c =
    let k = c.requires.sweep_asked in
    record {
      interval = record { sound = k.sound; priced = k.priced (c.loop-at.at - 1) (inside c) };
      wide = k.wide;
      sections = c.section_cells-section.ensures;
    }

pub loop-at-init : goal.loop-at-init
loop-at-init c =
    let a = c.args in
    record {
      left = c.requires.sweep_asked.ordered;
      swept = rw (between_none (quarters_in a.g.hours a.prices.now) a.to) (swept_none a.g.figures a.g.width a.cells.now);
    }

pub step-requires-clause-before : goal.step-requires-clause-before
step-requires-clause-before c =
    let a = c.args in
    let l = c.loop-at in
    let t = (goal.at.step-requires-clause-before c).In-loop-at in
    let k = c.requires.sweep_asked in
    let price : FitsSigned w64 (get_or a.prices.now (l.at - 1) (pos 0)) = search rules in
    let long = between-length (quarters t) l.at a.to (omega arith) (omega (arith, as_many t, k.inside)) in
    rw (c.step_at-t.ensures, plain_fits price)
    (before-swept (step_of t) a.cells.now l.cells (between (quarters t) l.at a.to) (over t) k.marks l.invariant.swept k.ends k.later k.ahead k.layer
    (omega (arith, long, k.few)))

pub loop-at-preserved : goal.loop-at-preserved
loop-at-preserved c =
    let a = c.args in
    let f = a.g.figures in
    let l = c.loop-at in
    let t = (goal.at.loop-at-preserved c).In-loop-at in
    let k = c.requires.sweep_asked in
    let price : FitsSigned w64 (get_or a.prices.now (l.at - 1) (pos 0)) = search rules in
    let q = get_or (quarters t) (l.at - 1) no_quarter in
    let now = c.step.new.cells in
    let turned : Columns f q a.g.width l.cells now 0 (section f) = rw (quarter-is t) (rw (c.step_at-t.ensures, plain_fits price) at c.step.ensures) in
    let small : nat_abs q.price ≤ most_price = rw (quarter-is t) (k.priced (l.at - 1) (inside t)) in
    record {
      left = omega arith;
      swept =
          rw (grown t)
          (swept-next f a.g.width k.sound q small a.cells.now l.cells now (between (quarters t) l.at a.to) l.invariant.swept turned);
    }

pub returns : goal.returns
returns c =
    let e : c.loop-at.at ≡ c.args.from = omega arith in
    rw e at c.loop-at.invariant.swept

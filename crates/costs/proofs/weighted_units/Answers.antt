-- A segment's own cost is at most what it adds, since its MW are at least 1.
use Rattle.std.proofs.Common.{arith, ◌∙◌}
use mathlib.Core.Logic.{⊎_elim}
use Rattle.costs.proofs.Segments.{weighted-next, weighted-none}
use Rattle.costs.proofs.weighted_units.Goals as goal

pub overflow_mul-sum : goal.overflow_mul-sum
overflow_mul-sum c =
    let n = weighted-next c.args.price c.args.om _ _ _ _ _ _ c.in-Some.ensures.steps.0 c.in-Some.ensures.steps.1 c.loop-mw.invariant.1 c.loop-mw.invariant.2 in
    omega (arith, c.loop-mw.invariant.0, n.sum, n.unit, c.requires.heats_bound)

pub overflow_mul-sum-in-loop-mw : goal.overflow_mul-sum-in-loop-mw
overflow_mul-sum-in-loop-mw c =
    let n = weighted-next c.args.price c.args.om _ _ _ _ _ _ c.in-Some.ensures.steps.0 c.in-Some.ensures.steps.1 c.loop-mw.invariant.1 c.loop-mw.invariant.2 in
    omega (arith, c.loop-mw.invariant.0, n.sum, n.unit, c.requires.heats_bound)

pub overflow_add-sum : goal.overflow_add-sum
overflow_add-sum c =
    let n = weighted-next c.args.price c.args.om _ _ _ _ _ _ c.in-Some.ensures.steps.0 c.in-Some.ensures.steps.1 c.loop-mw.invariant.1 c.loop-mw.invariant.2 in
    omega (arith, c.loop-mw.invariant.0, n.sum, n.unit, c.requires.heats_bound)

pub overflow_mul-sum-in-loop-mw-2 : goal.overflow_mul-sum-in-loop-mw-2
overflow_mul-sum-in-loop-mw-2 c =
    let n = weighted-next c.args.price c.args.om _ _ _ _ _ _ c.in-Some.ensures.steps.0 c.in-Some.ensures.steps.1 c.loop-mw.invariant.1 c.loop-mw.invariant.2 in
    omega (arith, c.loop-mw.invariant.0, n.sum, n.unit, c.requires.heats_bound)

pub overflow_add-sum-in-loop-mw : goal.overflow_add-sum-in-loop-mw
overflow_add-sum-in-loop-mw c =
    let n = weighted-next c.args.price c.args.om _ _ _ _ _ _ c.in-Some.ensures.steps.0 c.in-Some.ensures.steps.1 c.loop-mw.invariant.1 c.loop-mw.invariant.2 in
    omega (arith, c.loop-mw.invariant.0, n.sum, n.unit, c.requires.heats_bound)

pub loop-mw-preserved : goal.loop-mw-preserved
loop-mw-preserved c =
    let n = weighted-next c.args.price c.args.om _ _ _ _ _ _ c.in-Some.ensures.steps.0 c.in-Some.ensures.steps.1 c.loop-mw.invariant.1 c.loop-mw.invariant.2 in
    (omega (arith, c.loop-mw.invariant.0, n.sum), n.kept, n.even)

pub returns : goal.returns
returns c =
    let l = c.loop-mw.mw-iterator in
    let none = weighted-none c.args.price c.args.om l.a.rest.now l.b.rest.now in
    ⊎_elim (λ e. omega (arith, c.loop-mw.invariant.0, none e.1.0)) (λ e. omega (arith, c.loop-mw.invariant.0, c.loop-mw.invariant.2, none (c.loop-mw.invariant.2 ∙ e.1.0))) c.in-None.ensures.steps

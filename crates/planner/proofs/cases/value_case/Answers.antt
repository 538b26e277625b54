-- The first layer, what is read from it, and the cells used cleared.
use Rattle.std.proofs.Common.{◌∙◌, length, arith}
use Rattle.planner.proofs.Lent.{used-fits, used-is, model-on, told, cleared}
use Rattle.planner.proofs.cases.value_case.Goals as goal

pub invariant_of-read_outcomes : goal.invariant_of-read_outcomes
invariant_of-read_outcomes c =
    let a = c.args in
    let m = c.model_of-model in
    let on = model-on a.unit a.prices.now (length a.scratch.now) m.result m.ensures c.first_layer.auto.scratch in
    record { told = (told a.unit a.prices.now m.result c.first_layer.new.scratch on c.first_layer.ensures.begun, on.figures) }

pub clear-requires : goal.clear-requires
clear-requires c =
    let a = c.args in
    let m = c.model_of-model in
    let used = used-is a.unit a.prices.now (length a.scratch.now) m.result m.ensures c.cells_used-used.ensures in
    omega (arith, used, used-fits a.unit a.prices.now (length a.scratch.now) m.result m.ensures, c.first_layer.auto.scratch)

pub returns-clause-scratch_after : goal.returns-clause-scratch_after
returns-clause-scratch_after c =
    let a = c.args in
    let m = c.model_of-model in
    let used = used-is a.unit a.prices.now (length a.scratch.now) m.result m.ensures c.cells_used-used.ensures in
    c.clear.ensures ∙ cleared _ _ a.scratch.now c.first_layer.new.scratch used (rw used c.first_layer.ensures.beyond)

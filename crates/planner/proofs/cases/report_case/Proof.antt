-- The first layer, what is read from it, and the cells used cleared.
use mathlib.Core.Path.{◌≡◌, ◌∙◌}
use native.Mathlib.Omega.{arith}
use lib.ListN.{length}
use Rattle.commitment.specs.Cells.{cells_used}
use Rattle.planner.proofs.Lent.{used-fits, used-is, model-on, cleared}
use borrow.Author.Rules.{rules}
use Rattle.planner.proofs.cases.report_case.Statement.{statement}
use Rattle.planner.proofs.cases.report_case.Tie as tie

read-report-requires : tie.Need-read_report-answer-requires
read-report-requires c κs =
    let made = c.before.before.before in
    let model = made.before.before in
    let s = model.before.before in
    let a = s.args in (
      record {
        model = model-on a.unit a.prices.now (length a.scratch.now) model.model_of-model.result model.model_of-model.ensures
            made.first_layer.auto.scratch;
        begun = made.first_layer.ensures.0;
      },
      s.requires.1,
    )

-- how many cells are used
used : (c : tie.After-cells_used-used) →
    let model = c.before.before.before.before.before.before.before.before.before.before in
    let a = model.before.before.args in
    c.cells_used-used.result ≡ cells_used a.unit (length a.prices.now) (length a.scratch.now)
used c =
    let model = c.before.before.before.before.before.before.before.before.before.before in
    let a = model.before.before.args in
    used-is a.unit a.prices.now (length a.scratch.now) model.model_of-model.result model.model_of-model.ensures c.cells_used-used.ensures

clear-requires : tie.Need-clear-requires
clear-requires c κs =
    let u = c.before in
    let read = u.before.before.before.before in
    let made = read.before.before.before.before in
    let model = made.before.before in
    let a = model.before.before.args in
    let most = used-fits a.unit a.prices.now (length a.scratch.now) model.model_of-model.result model.model_of-model.ensures in
    omega (arith, used u, most, read.read_report-answer.auto.scratch, made.first_layer.auto.scratch)

returns : tie.Need-returns
returns c =
    let clear = c.before in
    let u = clear.before.before in
    let read = u.before.before.before.before in
    let made = read.before.before.before.before in
    let s = made.before.before.before.before in
    let a = s.args in
    let r = read.read_report-answer.ensures in
    let behind =
    rw made.first_layer.auto.scratch at r.1.1 ∙ made.first_layer.ensures.1 in
    (r.0, (r.1.0, clear.clear.ensures ∙ cleared _ _ a.scratch.now read.read_report-answer.new.scratch (used u) (rw (used u) behind)))

pub report_case_spec : {M : Type 1} → statement M
report_case_spec =
    tie.close
    (tie.spec
    (λ c κs. search rules) (λ c κs. search rules)
    read-report-requires
    (λ c κs. search rules)
    clear-requires
    (λ c. search rules) (λ c. search rules)
    returns)

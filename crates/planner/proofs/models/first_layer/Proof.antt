-- The long table is filled, two layers are passed over or rolled through; each leaves the first layer in front.
use mathlib.Core.Path.{◌≡◌, sym, ◌∙◌}
use mathlib.Core.Bool.{true, false, false≢true}
use mathlib.Core.List.{List}
use Prim.Native.Nat.{ℕ}
use lib.IntN.{ℤ}
use lib.ListN.{length}
use Rattle.optimality.specs.Machine.{anywhere}
use Rattle.geometry.proofs.Telling.{first-layer}
use Rattle.layers.specs.Filling.{Beyond, quarters_in}
use Rattle.planner.proofs.Lent.{long-room, table-used, layers-used, case-asked, rolling}
use borrow.Author.Rules.{rules}
use Rattle.planner.proofs.models.first_layer.Statement.{statement}
use Rattle.planner.proofs.models.first_layer.Tie as tie

fill-all-requires : tie.Need-fill_all-requires
fill-all-requires c κs =
    let t = c.before in
    let s = t.before.before in
    let a = s.args in
    (long-room a.unit a.prices.now (length a.scratch.now) a.model s.requires t.if-model.true, s.requires.wide, s.requires.priced, s.requires.opened.clocked)

first-pass-requires : tie.Need-first_pass-requires
first-pass-requires c κs =
    let s = c.before.before.before.before in
    let a = s.args in
    case-asked a.unit a.prices.now (length a.scratch.now) a.model s.requires

roll-all-requires : tie.Need-roll_all-requires
roll-all-requires c κs =
    let s = c.before.before.before.before in
    let a = s.args in
    (rolling a.unit a.prices.now a.model a.scratch.now s.requires, s.requires.some)

-- what lies behind the cells used
behind : {used n : ℕ} (was left : List ℤ) → used ≡ n → Beyond used was left → Beyond n was left
behind was left e h = rw e at h

returns : tie.Need-returns-then-model
returns c =
    let filled = c.before in
    let t = filled.before.before in
    let s = t.before.before in
    let a = s.args in
    let table = filled.fill_all.ensures.0 in (
      record {
        layer = first-layer a.model.figures anywhere (quarters_in a.model.hours a.prices.now) filled.fill_all.new.scratch table;
        filled = λ _. table;
        passed = λ short _. absurd (false≢true (sym short ∙ t.if-model.true));
      },
      behind a.scratch.now filled.fill_all.new.scratch
          (table-used a.unit a.prices.now (length a.scratch.now) a.model s.requires t.if-model.true) filled.fill_all.ensures.1,
    )

returns-2 : tie.Need-returns-then-planning
returns-2 c =
    let made = c.before in
    let e = made.before.before.before in
    let s = e.before.before in
    let a = s.args in
    let pass = made.first_pass.ensures.0 in (
      record {
        layer = pass.layer;
        filled = λ long. absurd (false≢true (sym e.if-model.false ∙ long));
        passed = λ _ _. pass;
      },
      behind a.scratch.now made.first_pass.new.cells
          (layers-used a.unit a.prices.now (length a.scratch.now) a.model s.requires e.if-model.false) made.first_pass.ensures.1,
    )

returns-3 : tie.Need-returns-else-planning
returns-3 c =
    let rolled = c.before in
    let plain = rolled.before.before in
    let e = plain.before in
    let s = e.before.before in
    let a = s.args in (
      record {
        layer = rolled.roll_all.ensures.0;
        filled = λ long. absurd (false≢true (sym e.if-model.false ∙ long));
        passed = λ _ planning. absurd (false≢true (sym plain.if-planning.false ∙ planning));
      },
      behind a.scratch.now rolled.roll_all.new.scratch
          (layers-used a.unit a.prices.now (length a.scratch.now) a.model s.requires e.if-model.false) rolled.roll_all.ensures.1,
    )

pub first_layer_spec : {M : Type 1} → statement M
first_layer_spec =
    tie.close
    (tie.spec
    fill-all-requires
    first-pass-requires
    roll-all-requires
    (λ c. search rules) returns
    (λ c. search rules) returns-2
    (λ c. search rules) returns-3)

-- The last state's interval on aside, the others, and the better of both.
use mathlib.Core.Path.{◌≡◌, ap}
use Prim.Native.Nat.{ℕ, ◌+◌, ◌-◌, ◌*◌, ◌≤◌}
use native.Mathlib.Omega.{arith}
use borrow.Author.Rules.{rules}
use Rattle.geometry.specs.Geometry.{section}
use Rattle.geometry.proofs.Places.{section-fits}
use Rattle.optimality.specs.Cells.{states}
use Rattle.marks.specs.Turning.{PieceAsked}
use Rattle.marks.proofs.Pieces.{last-asked, last-next}
use Rattle.marks.proofs.turns.step_piece.Statement.{statement}
use Rattle.marks.proofs.turns.step_piece.Tie as tie

asked : (c : tie.Start) → let a = c.args in PieceAsked a.t a.cells.now a.p
asked c = c.requires.0

-- the last state's stretch is in the layer
fits : (c : tie.Start) → let a = c.args in (states a.t.figures - 1) * a.t.section + a.p.column + a.p.count ≤ a.t.width
fits c =
    let a = c.args in
    let f = a.t.figures in
    let k = asked c in
    let here = section-fits f (states f - 1) (omega (arith, k.over.interval.sound.mot)) in
    let e : (states f - 1) * a.t.section ≡ (states f - 1) * section f = ap (λ (n : ℕ). (states f - 1) * n) k.over.sections in
    omega (arith, here, e, k.piece-of.fits, k.over.wide)

abbrev start : tie.After-on_image → tie.Start
start c = c.before.before.before

join-all-requires : tie.Need-join_all-requires
join-all-requires c κs =
    let inner = c.before.before.before.before.before in
    let imaged = inner.before.before.before.before in
    let o = start imaged in
    let k = asked o in (
      fits o,
      omega (arith, inner.inner_states.ensures.same, k.marks),
      k.piece-of.few,
      omega (arith, imaged.on_image.ensures.same, o.requires.1),
    )

returns : tie.Need-returns
returns c =
    let joined = c.before in
    let inner = joined.before.before.before.before.before.before in
    let imaged = inner.before.before.before.before in
    let o = start imaged in
    let a = o.args in
    let k = asked o in
    last-next a.t a.cells.now a.p k inner.inner_states.new.cells joined.join_all.new.cells a.begun.now
    imaged.on_image.new.out inner.inner_states.ensures imaged.on_image.ensures
    (rw k.over.sections at joined.join_all.ensures)

pub step_piece_spec : {M : Type 1} → statement M
step_piece_spec =
    tie.close
    (tie.spec (λ c. let ok = (asked c.before).over.interval.sound in omega (arith, ok.mot-most, ok.mdt-most))
    (λ c. let ok = (asked c.before).over.interval.sound in omega (arith, ok.mot))
    (λ c κs. let o = c.before.before in let a = o.args in (last-asked a.t a.cells.now a.p (asked o), o.requires.1))
    (λ c κs. let o = start c.before.before.before in (asked o, o.requires.2))
    (λ c. let o = start c.before.before.before.before.before.before.before.before in omega (arith, fits o, (asked o).marks))
    (λ c. let o = start c.before.before.before.before.before.before.before.before.before in omega (arith, fits o, (asked o).marks))
    join-all-requires (λ c. search rules) (λ c. search rules) (λ c. search rules) returns)

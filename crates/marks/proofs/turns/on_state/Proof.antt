-- On aside, off in place, and the better of both.
use mathlib.Core.Path.{◌≡◌, ap}
use Prim.Native.Nat.{ℕ, ◌+◌, ◌*◌, ◌≤◌, ◌<◌}
use native.Mathlib.Omega.{arith}
use borrow.Author.Rules.{rules}
use Rattle.geometry.specs.Geometry.{section}
use Rattle.geometry.proofs.Places.{section-fits}
use Rattle.optimality.specs.Cells.{states}
use Rattle.marks.specs.Lines.{OnAsked}
use Rattle.marks.proofs.Moving.{turned-here}
use Rattle.marks.proofs.turns.on_state.Statement.{statement}
use Rattle.marks.proofs.turns.on_state.Tie as tie

asked : (c : tie.Start) → let a = c.args in OnAsked a.t a.cells.now a.s a.p
asked c = c.requires.0.0

-- a state that is on is not the last
not_last : (c : tie.Start) → c.args.s + 1 < states c.args.t.figures
not_last c = omega (arith, c.requires.0.1, (asked c).over.interval.sound.mdt)

-- its stretch is in the layer
fits : (c : tie.Start) → let a = c.args in a.s * a.t.section + a.p.column + a.p.count ≤ a.t.width
fits c =
    let a = c.args in
    let f = a.t.figures in
    let k = asked c in
    let here = section-fits f a.s k.state in
    let e : a.s * a.t.section ≡ a.s * section f = ap (λ (n : ℕ). a.s * n) k.over.sections in
    omega (arith, here, e, k.piece-of.fits, k.over.wide)

abbrev start : tie.After-off_state → tie.Start
start c = c.before.before.before.before.before

join-all-requires : tie.Need-join_all-requires
join-all-requires c κs =
    let off = c.before.before.before.before in
    let o = start off in
    let k = asked o in (
      fits o,
      omega (arith, off.off_state.auto.cells, k.marks),
      k.piece-of.few,
      omega (arith, off.before.before.before.own_image.ensures.same, o.requires.0.2),
    )

returns : tie.Need-returns
returns c =
    let joined = c.before in
    let off = joined.before.before.before.before.before in
    let imaged = off.before.before.before in
    let a = (start off).args in
    let on = imaged.own_image.ensures in (
      on,
      turned-here a.t a.cells.now off.off_state.new.cells joined.join_all.new.cells a.ran.now imaged.own_image.new.out
          a.s a.p (a.s * a.t.section + a.p.column) on off.off_state.ensures joined.join_all.ensures,
    )

pub on_state_spec : {M : Type 1} → statement M
on_state_spec =
    tie.close
    (tie.spec (λ c κs. let o = c.before in ((asked o, o.requires.0.1, o.requires.0.2), o.requires.1))
    (λ c κs. let o = c.before.before.before.before in let k = asked o in (k.over, k.piece-of, not_last o, k.marks))
    (λ c. let o = start c.before.before.before in omega (arith, fits o, (asked o).marks))
    (λ c. let o = start c.before.before.before.before in omega (arith, fits o, (asked o).marks)) join-all-requires
    (λ c. search rules) (λ c. search rules) returns)

-- None, or the next state's.
use mathlib.Core.Path.{◌≡◌, ap}
use Prim.Native.Nat.{ℕ, ◌+◌, ◌*◌, ◌≤◌}
use native.Mathlib.Nat.{add-mul, one-mul}
use native.Mathlib.Omega.{arith}
use lib.ListN.{length}
use borrow.Author.Rules.{rules}
use Rattle.geometry.specs.Geometry.{section}
use Rattle.geometry.specs.Layers.{infeasible}
use Rattle.geometry.proofs.Places.{section-fits}
use Rattle.intervals.proofs.Stretches.{put-inside, put-apart}
use Rattle.marks.proofs.Moving.{off-barred, off-moved}
use Rattle.marks.proofs.turns.off_state.Statement.{statement}
use Rattle.marks.proofs.turns.off_state.Tie as tie

-- this state's stretch and the next one's are in the layer
fits : (c : tie.Start) →
    let a = c.args in
    let to = a.s * a.t.section + a.p.column in
    (to + a.p.count ≤ a.t.width) × (to + a.t.section + a.p.count ≤ a.t.width) × (a.p.column + a.p.count ≤ a.t.section)
fits c =
    let a = c.args in
    let f = a.t.figures in
    let k = c.requires.0 in
    let here = section-fits f a.s (omega (arith, c.requires.2)) in
    let next = section-fits f (a.s + 1) c.requires.2 in
    let e : a.s * a.t.section ≡ a.s * section f = ap (λ (n : ℕ). a.s * n) k.sections in
    let n = add-mul a.s 1 (section f) in
    let p = c.requires.1.fits in (
      omega (arith, here, e, k.wide, k.sections, p),
      omega (arith, next, n, one-mul (section f), e, k.wide, k.sections, p),
      omega (arith, k.sections, p),
    )

abbrev start : tie.After-struct_known-3-1 → tie.Start
start c = c.before.before.before

returns : tie.Need-returns-then-s-t
returns c =
    let made = c.before in
    let then = made.before.before in
    let o = start then.before in
    let a = o.args in
    let e = o.requires.0.sections in
    let at = a.s * section a.t.figures + a.p.column in
    let room : at + a.p.count ≤ length a.cells.now = rw (← e) (omega (arith, (fits o).0, o.requires.3)) in
    let put = rw e at made.put.ensures in
    rw e
    (off-barred a.t a.cells.now made.put.new.scratch a.s a.p then.if-s-t.true made.put.auto.scratch (rw (← e) (fits o).0)
    (λ i h. rw put (put-inside a.cells.now at a.p.count infeasible room i h)) (rw put (put-apart a.cells.now at a.p.count infeasible room)))

returns-2 : tie.Need-returns-else-s-t
returns-2 c =
    let made = c.before in
    let else = made.before.before.before in
    let o = start else.before in
    let a = o.args in
    let e = o.requires.0.sections in
    rw e
    (off-moved a.t a.cells.now made.move_plane.new.cells a.s a.p (omega (arith, else.if-s-t.false)) o.requires.2
    (rw e at made.move_plane.ensures))

pub off_state_spec : {M : Type 1} → statement M
off_state_spec =
    tie.close
    (tie.spec (λ c. omega (arith, fits c.before, c.before.requires.3)) (λ c. omega (arith, fits c.before.before, c.before.before.requires.3))
    (λ c. let o = c.before.before in let ok = o.requires.0.interval.sound in omega (arith, o.requires.2, ok.mot-most, ok.mdt-most))
    (λ c κs. let o = start c.before.before in omega (arith, fits o, o.requires.3))
    (λ c. let o = start c.before.before.before in omega (arith, fits o, o.requires.3))
    (λ c κs. let o = start c.before.before.before in (omega (arith, (fits o).2), omega (arith, (fits o).1), o.requires.3))
    (λ c. search rules) returns (λ c. search rules) returns-2)

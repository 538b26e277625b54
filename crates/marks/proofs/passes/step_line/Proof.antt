-- The pieces from the first place with blocks enough on, then those before it.
use mathlib.Core.Path.{◌≡◌}
use mathlib.Core.Logic.{inl}
use Prim.Native.Nat.{◌+◌, ◌-◌, ◌*◌, ◌≤◌, ◌<◌, ◌^◌}
use native.Mathlib.Nat.{one-mul, mul-le-mul_right, lt_of_le_of_lt}
use native.Mathlib.Omega.{arith}
use lib.Dec.{lit<}
use borrow.Author.Rules.{rules}
use Rattle.geometry.specs.Geometry.{section}
use Rattle.geometry.proofs.Sizes.{section-most}
use Rattle.intervals.proofs.Turning.{pmax-most}
use Rattle.marks.specs.Lines.{quarter_of}
use Rattle.marks.specs.Turning.{PieceAsked}
use Rattle.marks.specs.Passing.{Before, LineOf, piece_of}
use Rattle.marks.proofs.Columns.{columns-join, piece-columns, piece-asked}
use Rattle.marks.proofs.passes.step_line.Statement.{statement}
use Rattle.marks.proofs.passes.step_line.Tie as tie

before : (c : tie.Start) → let a = c.args in Before a.t a.cells.now (a.l.start + a.l.long)
before c = c.requires.0.0

line : (c : tie.Start) → LineOf c.args.t.figures c.args.l
line c = c.requires.0.1

-- few places are before it
lowest : (c : tie.Start) → let f = c.args.t.figures in (f.takes.blocks * f.pmin ≤ f.pmin) × (f.pmin ≤ f.pmax)
lowest c =
    let f = c.args.t.figures in
    let ok = (before c).over.interval.sound in
    let m : f.takes.blocks * f.pmin ≤ 1 * f.pmin = mul-le-mul_right f.pmin ok.takes.blocks in
    (omega (arith, m, one-mul f.pmin), ok.pmax)

few : (c : tie.Start) → let f = c.args.t.figures in f.pmax ≤ 500
few c = omega (arith, pmax-most c.args.t.figures (before c).over.interval.sound)

abbrev first : tie.After-upper_pieces → tie.After-smaller-first
first c = c.before.before.before.before

abbrev start : tie.After-upper_pieces → tie.Start
start c = (first c).before.before

asked : (c : tie.Then-first-gt0) →
    let upper = c.before.before.before.before in
    let a = (start upper).args in
    PieceAsked a.t upper.upper_pieces.new.cells (piece_of a.l 0 (first upper).smaller-first.result)
asked c =
    let upper = c.before.before.before.before in
    let o = start upper in
    let a = o.args in
    let e = (first upper).smaller-first.ensures in
    piece-asked a.t a.cells.now upper.upper_pieces.new.cells a.l 0 (first upper).smaller-first.result (before o) (line o) c.if-first-gt0.true
    (omega (arith, e)) (omega (arith, e, lowest o, few o)) upper.upper_pieces.ensures (λ one. inl (omega (arith, e, lowest o)))

-- its last column is a number
room : (c : tie.Start) → c.args.l.start + c.args.l.long < 2 ^ 64
room c =
    let f = c.args.t.figures in
    let most : section f < 2 ^ 64 = lt_of_le_of_lt (section-most f (before c).over.interval.sound) (lit< tt) in
    omega (arith, most, (line c).ends)

step-piece-requires : tie.Need-step_piece-requires
step-piece-requires c κs =
    let cut = c.before.before in
    let then = cut.before.before in
    let upper = then.before.before.before.before in
    let o = start upper in
    let k = upper.upper_pieces.auto in
    (rw cut.piece_of.ensures (asked then), omega (arith, k.begun, o.requires.1.0), omega (arith, k.ran, o.requires.1.1))

returns : tie.Need-returns-then-first-gt0
returns c =
    let made = c.before.before.before in
    let cut = made.before.before.before in
    let then = cut.before.before in
    let upper = then.before.before.before.before in
    let a = (start upper).args in
    let end = (first upper).smaller-first.result in
    let turned = piece-columns a.t upper.upper_pieces.new.cells made.step_piece.new.cells (piece_of a.l 0 end)
    (rw cut.piece_of.ensures at made.step_piece.ensures) in
    let z : a.l.start + 0 ≡ a.l.start = omega arith in
    let n : end - 0 ≡ end = omega arith in
    columns-join a.t.figures (quarter_of a.t) a.t.width a.cells.now upper.upper_pieces.new.cells made.step_piece.new.cells a.l.start
    (a.l.start + end) (a.l.start + a.l.long) (omega arith) (omega (arith, (first upper).smaller-first.ensures)) upper.upper_pieces.ensures
    (rw (z, n) at turned)

returns-2 : tie.Need-returns-else-first-gt0
returns-2 c =
    let upper = c.before.before.before.before in
    let a = (start upper).args in
    let z : a.l.start + (first upper).smaller-first.result ≡ a.l.start = omega (arith, c.if-first-gt0.false) in
    rw z at upper.upper_pieces.ensures

pub step_line_spec : {M : Type 1} → statement M
step_line_spec =
    tie.close
    (tie.spec (λ c. let o = c.before in omega (arith, lowest o, few o))
    (λ c κs. search rules)
    (λ c κs.
    let small = c.before.before.before in
    let o = small.before.before in
    ((before o, line o, small.smaller-first.ensures), o.requires.1))
    (λ c κs.
    let upper = c.before.before.before.before.before in
    let o = start upper in
    (omega arith, omega (arith, room o, (first upper).smaller-first.ensures)))
    step-piece-requires (λ c. search rules) (λ c. search rules) (λ c. search rules) returns
    (λ c. search rules) (λ c. search rules) (λ c. search rules) returns-2)

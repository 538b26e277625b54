use Rattle.std.proofs.Common.{◌≡◌, refl, ap, ◌∙◌, ◌+◌, ◌-◌, ◌*◌, ◌/◌, ◌≤◌, ◌<◌, ◌^◌, min, ℕ, arith}
use mathlib.Core.Logic.{inr}
use native.Mathlib.Nat.{zero-mul, one-mul, lt_of_le_of_lt}
use lib.Dec.{lit<}
use Rattle.optimality.specs.declared.Figures.{Figures}
use Rattle.optimality.specs.Cells.{rungs}
use Rattle.geometry.specs.Geometry.{section}
use Rattle.geometry.proofs.Sizes.{section-most}
use Rattle.carrying.specs.Images.{piece}
use Rattle.marks.specs.Lines.{quarter_of}
use Rattle.marks.specs.Turning.{PieceAsked}
use Rattle.marks.specs.Passing.{LastPiece, piece_of}
use Rattle.marks.proofs.Columns.{columns-join, piece-columns, piece-asked, size_is, most-fits, last-chunks, some_left, one_more}
use Rattle.marks.proofs.passes.upper_pieces.Goals as goal
use Rattle.marks.proofs.passes.upper_pieces.Goals.{In-loop-n}

-- as many chunks as a piece has room for
abbrev most_of : Figures → ℕ
most_of f = piece / (f.pmax - f.pmin + 1) * (f.pmax - f.pmin + 1)

-- where a turn's piece begins, and where it ends
abbrev begins : In-loop-n → ℕ
begins c = c.args.first + (c.loop-n.n - 1) * most_of c.args.t.figures

abbrev end : In-loop-n → ℕ
end c = min c.args.l.long (begins c + most_of c.args.t.figures)

most-is : (c : In-loop-n) → let f = c.args.t.figures in most_of f ≡ piece / rungs f * rungs f
most-is c = ap (λ (n : ℕ). piece / n * n) (size_is c.args.t.figures c.requires.before.0.over.interval.sound)

most-some : (c : In-loop-n) → 1 ≤ most_of c.args.t.figures
most-some c = omega (arith, most-is c, (most-fits c.args.t.figures c.requires.before.0.over.interval.sound).1)

turn : (c : In-loop-n) → (begins c < c.args.l.long) × (begins c + most_of c.args.t.figures ≡ c.args.first + c.loop-n.n * most_of c.args.t.figures)
turn c =
    let a = c.args in
    let m = most_of a.t.figures in
    let e : c.loop-n.n - 1 + 1 ≡ c.loop-n.n = omega arith in (
      some_left a.first a.l.long m c.div_ceil-n.result (most-some c) c.div_ceil-n.ensures (omega (arith, c.requires.before.2)) (c.loop-n.n - 1) (omega arith),
      one_more a.first m (c.loop-n.n - 1) ∙ ap (λ (k : ℕ). a.first + k * m) e,
    )

-- its last column is a number
room : (c : In-loop-n) → c.args.l.start + c.args.l.long < 2 ^ 64
room c =
    let f = c.args.t.figures in
    let few : section f < 2 ^ 64 = lt_of_le_of_lt (section-most f c.requires.before.0.over.interval.sound) (lit< tt) in
    omega (arith, few, c.requires.before.1.ends)

asked : (c : In-loop-n) → PieceAsked c.args.t c.loop-n.cells (piece_of c.args.l (begins c) (end c))
asked c =
    let a = c.args in
    let f = a.t.figures in
    let sound = c.requires.before.0.over.interval.sound in
    let t = turn c in
    let done = rw (← t.1) at c.loop-n.invariant in
    let last : (first : ℕ) → a.first ≡ first → LastPiece first (end c) (piece / rungs f * rungs f) (begins c) = λ (first : ℕ) (e : a.first ≡ first).
    record {
      before = c.loop-n.n - 1;
      begins = ap (λ (k : ℕ). k + (c.loop-n.n - 1) * most_of f) e ∙ ap (λ (k : ℕ). first + (c.loop-n.n - 1) * k) (most-is c);
      some = omega (arith, t.0, most-some c);
      few = omega (arith, most-is c);
    } in
    -- where MWh is limited, a place with blocks enough
    let first-is : f.takes.blocks ≡ 1 → a.first ≡ f.pmin = λ (one : f.takes.blocks ≡ 1).
    let m : f.takes.blocks * f.pmin ≡ f.pmin = rw one (one-mul f.pmin) in
    omega (arith, m, c.requires.before.2, t.0) in
    let here = last a.first refl in
    piece-asked a.t a.cells.now c.loop-n.cells a.l (begins c) (end c) c.requires.before.0 c.requires.before.1 here.some (omega arith)
    (omega (arith, here.few, (most-fits f sound).0)) done
    (λ one. inr (last-chunks f sound (end c) (begins c) (last f.pmin (first-is one))))

pub overflow_mul-at : goal.overflow_mul-at
overflow_mul-at c = let t = (goal.at.overflow_mul-at c).In-loop-n in omega (arith, turn t, room t)

pub overflow_add-at : goal.overflow_add-at
overflow_add-at c = let t = (goal.at.overflow_add-at c).In-loop-n in omega (arith, turn t, room t)

pub overflow_add-at-in-loop-n : goal.overflow_add-at-in-loop-n
overflow_add-at-in-loop-n c =
    let t = (goal.at.overflow_add-at-in-loop-n c).In-loop-n in omega (arith, turn t, room t, most-is t, section-most c.args.t.figures c.requires.before.0.over.interval.sound, c.requires.before.1.ends, (most-fits c.args.t.figures c.requires.before.0.over.interval.sound).0)

pub piece_of-requires : goal.piece_of-requires
piece_of-requires c = let t = (goal.at.piece_of-requires c).In-loop-n in (omega (arith, turn t, c.smaller-end.ensures), omega (arith, room t, c.smaller-end.ensures))

pub step_piece-requires : goal.step_piece-requires
step_piece-requires c = (rw (c.piece_of.ensures, c.smaller-end.ensures) (asked (goal.at.step_piece-requires c).In-loop-n), omega arith, omega arith)

pub loop-n-preserved : goal.loop-n-preserved
loop-n-preserved c =
    let a = c.args in
    let t = (goal.at.loop-n-preserved c).In-loop-n in
    let e = turn t in
    let here : min a.l.long (begins t) ≡ begins t = omega (arith, e.0) in
    let up : a.l.start + begins t + (end t - begins t) ≡ a.l.start + end t = omega (arith, e.0) in
    let turned = rw up at (piece-columns a.t c.loop-n.cells c.step_piece.new.cells (piece_of a.l (begins t) (end t))
    (rw (c.piece_of.ensures, c.smaller-end.ensures) at c.step_piece.ensures)) in
    rw here
    (columns-join a.t.figures (quarter_of a.t) a.t.width a.cells.now c.loop-n.cells c.step_piece.new.cells (a.l.start + begins t)
    (a.l.start + end t) (a.l.start + a.l.long) (omega (arith, e.0)) (omega arith) (rw (← e.1) at c.loop-n.invariant) turned)

pub returns : goal.returns
returns c =
    let a = c.args in
    let none : c.loop-n.n ≡ 0 = omega arith in
    let m : c.loop-n.n * most_of a.t.figures ≡ 0 = ap (λ (k : ℕ). k * most_of a.t.figures) none ∙ zero-mul (most_of a.t.figures) in
    let e : min a.l.long (a.first + c.loop-n.n * most_of a.t.figures) ≡ a.first = omega (arith, m, c.requires.before.2) in
    rw e at c.loop-n.invariant

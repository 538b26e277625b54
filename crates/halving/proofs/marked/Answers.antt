use Rattle.std.proofs.Common.{◌≡◌, ap, ◌∙◌, ◌+◌, ◌<◌, pos, nat_abs, length, get_or, arith, rules, ℕ, FitsSigned, to_z, of_z, w64}
use Rattle.integers.proofs.Ranges.{plain_fits}
use Rattle.geometry.specs.Geometry.{cell_of}
use Rattle.geometry.proofs.Places.{index-lt, cell-there}
use Rattle.marks.specs.Lines.{mark_of}
use Rattle.halving.proofs.marked.Goals as goal
use Rattle.halving.proofs.marked.Goals.{After-index}

inside : (c : After-index) → c.args.w + c.index.result < length c.args.cells.now
inside c = omega (arith, c.index.ensures, index-lt c.args.f c.args.c c.requires.1, c.requires.2)

pub overflow_add-w : goal.overflow_add-w
overflow_add-w c = omega (arith, inside (goal.at.overflow_add-w c).After-index)

pub offset_bounds-cells-w : goal.offset_bounds-cells-w
offset_bounds-cells-w c = omega (arith, inside (goal.at.offset_bounds-cells-w c).After-index)

pub bounds-cells-w : goal.bounds-cells-w
bounds-cells-w c = inside (goal.at.bounds-cells-w c).After-index

pub returns : goal.returns
returns c at here is =
    let a = c.args in
    let number = get_or a.cells.now (a.w + c.index.result) (pos 0) in
    let fits : FitsSigned w64 number = search rules in
    let read : to_z w64 (of_z w64 number) ≡ mark_of a.f a.w a.cells.now a.c =
    plain_fits fits ∙ ap (λ (i : ℕ). get_or a.cells.now (a.w + i) (pos 0)) c.index.ensures in
    c.cell_of.ensures ∙ ap (cell_of a.f) (c.natural-number.ensures ∙ ap nat_abs (read ∙ is)) ∙ cell-there a.f at here

-- The first cell that is not as it is to be left decides.
use Rattle.std.proofs.Common.{◌∙◌, ap, sym, refl, length, get_or, ℤ, pos, List, arith, w64, of_z}
use mathlib.Core.Bool.{false≢true}
use Rattle.enumeration.specs.Fillings.{left_at}
use Rattle.enumeration.proofs.Fillings.{cell_at, cells_by_index}
use Rattle.enumeration.proofs.lending.is_left.Goals as goal

pub returns-then-cell-left_at : goal.returns-then-cell-left_at
returns-then-cell-left_at c =
    let s = c.args.scratch.now in
    let left = left_at c.args.used in (
      λ e. absurd (false≢true e),
      λ e. absurd (c.if-cell-left_at.true
          (ap (of_z w64)
          (ap (λ (l : List ℤ). get_or l c.loop-i.i (pos 0)) e ∙ cell_at left (length s) c.loop-i.i (omega arith) ∙ sym c.left_at.ensures))),
    )

pub returns : goal.returns
returns c = (λ _. cells_by_index (left_at c.args.used) c.args.scratch.now (λ k b. c.loop-i.invariant k (omega arith)), λ _. refl)

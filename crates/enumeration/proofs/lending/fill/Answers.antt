-- All cells are filled.
use Rattle.std.proofs.Common.{◌∙◌, ap, arith}
use Rattle.enumeration.specs.Fillings.{filling, cells_from}
use Rattle.enumeration.proofs.Fillings.{cells_by_index}
use Rattle.enumeration.proofs.lending.fill.Goals as goal

pub returns : goal.returns
returns c =
    let l = c.loop-i in
    cells_by_index filling l.scratch (λ k b. l.invariant k (omega arith)) ∙ ap (cells_from filling 0) l.auto.scratch

-- The count says how long the part is; what `read_into` left in front is the prices.
use Rattle.std.proofs.Common.{refl, sym, ap, ◌∙◌, ℕ, List, take, arith}
use mathlib.Core.Path.{ap₂}
use lib.IntN.{ℤ}
use lib.Seq.{length-take-le}
use Rattle.casefile.specs.Answers.{read_count}
use Rattle.casefile.proofs.Checking.{part-fits, part-read}
use Rattle.casefile.proofs.read.Goals as goal
use Rattle.commitment.specs.Causes.{answered_number}

pub slice_bounds-result-end : goal.slice_bounds-result-end
slice_bounds-result-end c =
    let counted = c.count_of-count.ensures ∙ ap read_count c.read_into-answer.ensures.0 in
    sym (length-take-le _ _ (omega (arith, part-fits c.args.text.now c.args.prices.now, counted, c.read_into-answer.auto.prices)))

pub returns : goal.returns
returns c =
    let counted = c.count_of-count.ensures ∙ ap read_count c.read_into-answer.ensures.0 in (
      ap₂ (λ (m : ℕ) (l : List ℤ). take m l) counted c.read_into-answer.ensures.1 ∙ part-read c.args.text.now c.args.prices.now,
      (refl, c.number_in.ensures ∙ ap answered_number c.read_into-answer.ensures.0),
    )

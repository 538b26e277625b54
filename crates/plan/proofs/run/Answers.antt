-- What is printed is in the slice that was lent for it.
use Rattle.std.proofs.Common.{sym, ap, length-take-le}
use Rattle.answers.specs.declared.Answered.{Answered}
use Rattle.answers.proofs.Printing.{answered-fits}
use Rattle.plan.proofs.run.Goals as goal

pub slice_bounds-write_all-end : goal.slice_bounds-write_all-end
slice_bounds-write_all-end g c =
    let bytes = ap (λ (a : Answered). a.bytes) c.answer-answered.ensures.value in
    rw (bytes, c.answer-answered.auto.out) (answered-fits _ _)

pub slice_bounds-write_all-end-2 : goal.slice_bounds-write_all-end-2
slice_bounds-write_all-end-2 g c = sym (length-take-le _ _ (slice_bounds-write_all-end g c))

use Rattle.std.proofs.Common.{◌≡◌, ◌-◌, arith}
use Rattle.optimality.specs.Cells.{states}
use Rattle.marks.proofs.Pieces.{state-next}
use Rattle.marks.proofs.Sharing.{next-image}
use Rattle.marks.proofs.turns.inner_states.Goals as goal

pub loop-s-preserved : goal.loop-s-preserved
loop-s-preserved c =
    let a = c.args in
    let k = c.requires.0 in
    let l = c.loop-s in
    let stretch = rw k.over.sections at c.one_state.ensures.pairs in
    record {
      partly = state-next a.t a.cells.now a.p k l.cells c.one_state.new.cells l.s (omega arith) l.invariant.partly stretch;
      serves = λ some oldest.
          next-image a.t k.over.wide a.p k.piece-of.fits k.over.interval.sound.mdt l.cells c.one_state.new.cells _ l.s
          (omega (arith, oldest)) stretch _ (c.one_state.ensures.imaged (omega (arith, oldest)));
    }

pub returns : goal.returns
returns c =
    let e : c.loop-s.s ≡ states c.args.t.figures - 1 = omega arith in
    rw e at c.loop-s.invariant.partly

-- State by state.
use Rattle.std.proofs.Common.{◌≡◌, ◌+◌, arith, to_z, of_z, w64}
use Rattle.integers.proofs.Ranges.{plain_fits}
use Rattle.optimality.specs.Machine.{quarter}
use Rattle.geometry.proofs.Places.{section-fits}
use Rattle.intervals.proofs.Segments.{behind-within}
use Rattle.layers.proofs.Making.{states-next, states-done}
use Rattle.layers.proofs.states.fill_layer.Goals as goal

pub fill_quarter-requires : goal.fill_quarter-requires
fill_quarter-requires c =
    let a = c.args in
    let l = c.loop-s in (
      record { sound = c.requires.0.sound; state = c.loop-s-test.true; wide = c.requires.1; many = c.section_cells-cells.ensures },
      rw (plain_fits c.ranges.price) c.requires.0.priced,
      behind-within a.scratch.now l.scratch 0 a.w a.w 0 a.w a.w c.requires.2 c.requires.2.before (omega arith) (omega arith) l.invariant.same
          (λ j h. l.invariant.after j (omega (arith, section-fits a.f l.s c.loop-s-test.true, c.requires.1))),
    )

pub loop-s-preserved : goal.loop-s-preserved
loop-s-preserved c =
    let a = c.args in
    let l = c.loop-s in
    states-next a.f (quarter (to_z w64 (of_z w64 a.price)) a.opens) a.scratch.now l.scratch c.fill_quarter.new.scratch l.s c.loop-s-test.true
    c.fill_quarter.auto.scratch
    l.invariant
    c.fill_quarter.ensures

pub returns : goal.returns
returns c =
    let a = c.args in
    let l = c.loop-s in
    let e : l.s ≡ a.f.mot + a.f.mdt = omega (arith, l.auto.s-end, c.loop-s-test.false) in
    rw (plain_fits c.ranges.price) at
    (states-done a.f (quarter (to_z w64 (of_z w64 a.price)) a.opens) a.scratch.now l.scratch (rw e at l.invariant))

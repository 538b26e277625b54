use Rattle.std.proofs.Common.{◌≡◌, ◌<◌, arith}
use Rattle.optimality.specs.Cells.{with_most}
use Rattle.geometry.specs.Geometry.{width}
use Rattle.geometry.proofs.Places.{index-lt}
use Rattle.months.specs.Capping.{box_of}
use Rattle.months.proofs.Storing.{box-inside, storing-next}
use Rattle.months.proofs.boxes.store.Goals as goal

pub loop-i-preserved : goal.loop-i-preserved
loop-i-preserved c asked =
    let a = c.args in
    let l = c.loop-i in
    let inside : l.i < width (with_most a.f a.cap) = rw (← c.with_most.ensures) (omega (arith, c.layer_cells-w.ensures)) in
    rw c.store_one.ensures (storing-next a.f a.cap a.above asked.fits a.cells.now l.cells a.from a.to l.i asked inside (l.invariant asked))

pub returns : goal.returns
returns c =
    let a = c.args in
    let w : c.layer_cells-w.result ≡ width (with_most a.f a.cap) = rw (← c.with_most.ensures) c.layer_cells-w.ensures in
    let done : c.loop-i.i ≡ width (with_most a.f a.cap) = omega (arith, w) in
    let s = rw done at (c.loop-i.invariant c.requires) in
    record {
      inside = λ z i e. s.inside z i e (index-lt (with_most a.f a.cap) (box_of a.cap z) (box-inside a.f a.cap a.above c.requires.fits z i));
      others = s.others;
      apart = s.apart;
    }

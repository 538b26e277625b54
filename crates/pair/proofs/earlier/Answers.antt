-- The front is made from what stands behind it, and copied there.
use Rattle.std.proofs.Common.{◌∙◌}
use Rattle.integers.proofs.Ranges.{plain_fits}
use Rattle.optimality.specs.Machine.{quarter}
use Rattle.pair.proofs.Rolling.{earlier-made}
use Rattle.pair.proofs.earlier.Goals as goal

pub returns : goal.returns
returns c =
    let a = c.args in
    earlier-made a.f (quarter a.price a.opens) a.scratch.now c.fill_layer.new.scratch c.copy.new.scratch
    (c.copy.auto.scratch ∙ c.fill_layer.auto.scratch)
    (rw (plain_fits c.ranges.price) at c.fill_layer.ensures)
    (rw c.requires.1 at c.copy.ensures)

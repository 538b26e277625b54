-- The part from the layer's start on is lent, and what it becomes is what the scratch becomes.
use Rattle.std.proofs.Common.{◌≤◌, length, arith}
use Rattle.lists.proofs.Fills.{tail-part, tail-back}
use Rattle.integers.proofs.Ranges.{plain_fits}
use Rattle.optimality.specs.Machine.{quarter}
use Rattle.layers.proofs.Lending.{behind-part, lent-made}
use Rattle.layers.proofs.fill_layer.Goals as goal

pub fill_layer-requires : goal.fill_layer-requires
fill_layer-requires c =
    let a = c.args in
    let scratch = a.scratch.now in (
      rw (plain_fits c.ranges.price) c.requires.0,
      c.requires.1,
      rw (tail-part a.at scratch) (behind-part scratch scratch a.at (omega (arith, c.requires.2.fits)) a.w c.requires.2),
    )

pub returns : goal.returns
returns c =
    let a = c.args in
    let scratch = a.scratch.now in
    let part = c.fill_layer.new.scratch in
    let fits : a.at ≤ length scratch = omega (arith, c.requires.2.fits) in
    let made = rw (tail-part a.at scratch, plain_fits c.ranges.price) at c.fill_layer.ensures in
    rw (tail-back a.at scratch part fits) (lent-made scratch part a.at fits a.f (quarter a.price a.opens) made)

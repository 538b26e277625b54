-- Each return is the clause of `chosen` that the test took.
use Rattle.integers.proofs.Ranges.{plain_fits, lt-plain}
use Rattle.table.specs.Reading.{chosen}
use Rattle.table.proofs.reading.choose.Goals as goal

pub first_on-requires-clause-on_reaches : goal.first_on-requires-clause-on_reaches
first_on-requires-clause-on_reaches c =
    let tested = rw c.off_stored.ensures at (lt-plain {x = c.off_stored.result} {y = c.args.best} (record { sfits = c.off_stored.type_inv }) c.ranges.best c.if-off_stored-best.true) in
    rw (plain_fits c.ranges.price, plain_fits c.ranges.best) (c.requires.on_reaches tested)

pub returns-then-off_stored-best-clause-blocks_value : goal.returns-then-off_stored-best-clause-blocks_value
unfolding chosen
returns-then-off_stored-best-clause-blocks_value c =
    let tested = rw c.off_stored.ensures at (lt-plain {x = c.off_stored.result} {y = c.args.best} (record { sfits = c.off_stored.type_inv }) c.ranges.best c.if-off_stored-best.true) in
    simp tested (rw (plain_fits c.ranges.price, plain_fits c.ranges.best) at c.first_on.ensures.blocks_value)

pub returns-clause-blocks_value : goal.returns-clause-blocks_value
unfolding chosen
returns-clause-blocks_value c =
    let tested = rw c.off_stored.ensures at (lt-plain {x = c.off_stored.result} {y = c.args.best} (record { sfits = c.off_stored.type_inv }) c.ranges.best c.if-off_stored-best.false) in
    simp tested

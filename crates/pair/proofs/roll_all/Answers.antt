-- Zeros behind the front, and from there to the first interval.
use Rattle.std.proofs.Common.{◌∙◌}
use Rattle.pair.proofs.Rolling.{all_asked, put-beyond, all-rolled}
use Rattle.pair.proofs.roll_all.Goals as goal

pub roll-requires : goal.roll-requires
roll-requires c =
    let a = c.args in
    let lent = c.requires.0 in
    let put = rw lent.wide at c.put.ensures in
    rw put (all_asked a.f a.w a.prices.now a.scratch.now a.hours lent c.requires.1 (rw put at c.put.auto.scratch))

pub returns-clause-layer : goal.returns-clause-layer
returns-clause-layer c =
    let a = c.args in
    let put = rw c.requires.0.wide at c.put.ensures in
    all-rolled a.f a.w a.prices.now a.scratch.now a.hours c.requires.0 c.roll.new.scratch (rw put at c.roll.ensures.rolled_by)

pub returns-clause-beyond : goal.returns-clause-beyond
returns-clause-beyond c =
    let a = c.args in
    let lent = c.requires.0 in
    let put = rw lent.wide at c.put.ensures in
    c.roll.ensures.beyond ∙ (rw (put, lent.wide) (put-beyond a.f a.w a.prices.now a.scratch.now a.hours lent (rw put at c.put.auto.scratch)))

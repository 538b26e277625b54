use Rattle.std.proofs.Common.{◌+◌, length, arith}
use Rattle.months.proofs.Slots.{place-fits}
use Rattle.months.proofs.Standing.{month-asked}
use Rattle.months.proofs.annual.earlier.Goals as goal

pub places_at-at-requires : goal.places_at-at-requires
places_at-at-requires c =
    let a = c.args in
    let e = c.requires in
    let here = place-fits a.y (length a.cells.now) a.prices.now a.cuts.now e.chain.year a.k (omega (arith, e.month)) in
    let after = place-fits a.y (length a.cells.now) a.prices.now a.cuts.now e.chain.year (a.k + 1) e.month in
    (omega (arith, here, e.chain.year.fits), omega (arith, after, e.chain.year.fits), omega (arith, e.month))

pub before_month_cheaper-requires : goal.before_month_cheaper-requires
before_month_cheaper-requires c =
    let a = c.args in
    rw (c.month_at-m.ensures, c.places_at-at.ensures) (month-asked a.y a.cells.now a.prices.now a.cuts.now a.k c.requires)

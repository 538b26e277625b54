-- Written where it fits.
use Rattle.std.proofs.Common.{sym, ◌∙◌, length, arith}
use Rattle.commitment.proofs.Causes.{ok-was}
use Rattle.integers.proofs.Ranges.{plain_fits}
use Rattle.listing.specs.Listing.{listing}
use Rattle.listing.proofs.Fitting.{fit-room, after-written}
use Rattle.listing.proofs.write_kept.Goals as goal

pub returns-clause-out_after : goal.returns-clause-out_after
returns-clause-out_after c =
    let text = listing c.args.schedule.now c.args.profit c.args.outcomes c.args.word in
    let fit = rw (plain_fits c.ranges.profit) at c.listing_fit-fit.ensures in
    let h = fit-room (length text) (length c.args.out.now) c.in_ok-bytes.bytes (sym fit ∙ ok-was _ _ _ c.in_ok-bytes.ensures.value) in
    (rw (plain_fits c.ranges.profit) at c.put_listing.ensures) ∙ after-written text c.args.out.now (omega (arith, h.0, h.1))

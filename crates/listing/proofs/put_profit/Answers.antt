-- Name, number, line end.
use Rattle.std.proofs.Common.{ap, arith}
use lib.ListN.{length-append}
use Rattle.integers.proofs.Ranges.{plain_fits}
use Rattle.listing.specs.Numbers.{signed_number}
use Rattle.listing.specs.Listing.{profit_lead}
use Rattle.listing.proofs.Lengths.{profit-length}
use Rattle.listing.proofs.Writing.{put_then, put_as}
use Rattle.listing.proofs.put_profit.Goals as goal

pub returns : goal.returns
returns c =
    let line = profit-length c.args.profit in
    put_then (omega (arith, line, length-append profit_lead (signed_number c.args.profit)))
    (put_then (omega (arith, line)) c.put_text-value.ensures (put_as (ap signed_number (plain_fits c.ranges.profit)) c.put_signed-end.ensures))
    c.put_byte.ensures

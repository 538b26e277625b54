-- Name, count, line end.
use Rattle.std.proofs.Common.{◌≡◌, ap, ℕ, ◌+◌, ◌++◌, length, arith}
use lib.ListN.{length-append}
use Rattle.listing.specs.Numbers.{number}
use Rattle.listing.specs.Listing.{closed, window_lead, hours_line}
use Rattle.listing.proofs.Lengths.{hours-length}
use Rattle.listing.proofs.Writing.{put_then, put_as}
use Rattle.listing.proofs.put_hours.Goals as goal

pub returns : goal.returns
returns c =
    let line : length (hours_line c.args.word) ≡ 8 + length (number c.hours_allowed-hours.result) =
    rw c.hours_allowed-hours.ensures (hours-length c.args.word) in
    put_as (ap (λ (n : ℕ). closed (window_lead ++ number n)) c.hours_allowed-hours.ensures)
    (put_then (omega (arith, line, length-append window_lead (number c.hours_allowed-hours.result)))
    (put_then (omega (arith, line)) c.put_text-value.ensures c.put_number-end.ensures)
    c.put_byte.ensures)

-- The text of a number is that of its tenth and one digit more.
use Rattle.std.proofs.Common.{sym, ◌+◌, ◌/◌, ◌≤◌, length, arith}
use Rattle.listing.specs.Numbers.{number}
use Rattle.listing.proofs.Numbers.{number_small, number-large, length-small, length-large}
use Rattle.listing.proofs.Writing.{put_then, put_as}
use Rattle.listing.proofs.+put_number.Goals as goal

pub put_byte-requires : goal.put_byte-requires
put_byte-requires t c = omega (arith, length-small c.args.n c.if-n-lt10.true)

pub returns-then-n-lt10 : goal.returns-then-n-lt10
returns-then-n-lt10 t c = put_as (sym (number_small c.args.n c.if-n-lt10.true)) c.put_byte.ensures

pub put_number-next-requires : goal.put_number-next-requires
put_number-next-requires t c =
    (omega (arith, c.decreases), omega (arith, length-large c.args.n c.if-n-lt10.false c.ranges.n.fits))

pub put_byte-requires-2 : goal.put_byte-requires-2
put_byte-requires-2 t c =
    omega (
      arith,
      length-large c.args.n c.if-n-lt10.false c.ranges.n.fits,
      c.put_number-next.ensures.place,
      c.put_number-next.auto.out,
    )

pub returns : goal.returns
returns t c =
    let one = length-large c.args.n c.if-n-lt10.false c.ranges.n.fits in
    let room : c.args.at + length (number (c.args.n / 10)) + 1 ≤ length c.args.out.now = omega (arith, one) in
    put_as (sym (number-large c.args.n c.if-n-lt10.false c.ranges.n.fits)) (put_then room c.put_number-next.ensures c.put_byte-2.ensures)

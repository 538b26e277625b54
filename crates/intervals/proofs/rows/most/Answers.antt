-- The product and the sum stay far inside an i64.
use Rattle.std.proofs.Common.{◌≡◌, arith, to_z, of_z, w64}
use lib.Dec.{lit<}
use Rattle.integers.proofs.Ranges.{plain, plain_fits}
use Rattle.intervals.specs.Ladders.{brings}
use Rattle.intervals.proofs.Ladders.{least-plain, rise-plain, steps-within, brings-within}
use Rattle.intervals.proofs.rows.most.Goals as goal

pub returns : goal.returns
unfolding brings
returns c =
    let l = c.args.l in
    let steps : to_z w64 (of_z w64 c.signed.result) ≡ c.signed.result = plain_fits (record { sfits = c.signed.type_inv }) in
    rw (least-plain l c.requires, rise-plain l c.requires, steps, c.signed.ensures, plain (steps-within l c.requires l.high (omega arith)) (lit< tt))
    (plain (brings-within l c.requires l.high (omega arith)) (lit< tt))

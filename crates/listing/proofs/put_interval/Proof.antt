-- Number, comma, number, line end: four texts, one after the other.
use native.Mathlib.Omega.{arith}
use mathlib.Core.Path.{◌≡◌}
use mathlib.Core.List.{◌∷◌}
use Prim.Native.Nat.{◌+◌}
use lib.ListN.{length, length-append}
use Rattle.listing.specs.Numbers.{number}
use Rattle.listing.specs.Listing.{interval_line}
use borrow.Author.Rules.{rules}
use Rattle.listing.proofs.Writing.{put_then}
use Rattle.listing.proofs.put_interval.Statement.{statement}
use Rattle.listing.proofs.put_interval.Tie as tie

-- the line's length by its parts
parts : (c : tie.Start) → length (interval_line c.args.interval c.args.mw) ≡ length (number c.args.interval) + 1 + length (number c.args.mw) + 1
parts c = simp length-append (omega arith)

put-number-requires : tie.Need-put_number-comma-requires
put-number-requires c κs = omega (arith, parts c.before.before)

put-byte-requires : tie.Need-put_byte-output-requires
put-byte-requires c κs =
    let first = c.before.before.before in
    let s = first.before.before.before in
    omega (arith, parts s)

put-number-requires-2 : tie.Need-put_number-end-requires
put-number-requires-2 c κs =
    let comma = c.before.before.before in
    let first = comma.before.before.before.before in
    let s = first.before.before.before in
    omega (arith, parts s)

put-byte-requires-2 : tie.Need-put_byte-requires
put-byte-requires-2 c κs =
    let second = c.before.before.before in
    let comma = second.before.before.before.before in
    let first = comma.before.before.before.before in
    let s = first.before.before.before in
    omega (arith, parts s)

returns : tie.Need-returns
returns c =
    let second = c.before.before.before.before.before.before in
    let comma = second.before.before.before.before in
    let first = comma.before.before.before.before in
    let s = first.before.before.before in
    let line = parts s in
    put_then (omega (arith, length-append (number s.args.interval) (44 ∷ number s.args.mw)))
    (put_then (omega arith) first.put_number-comma.ensures (put_then (omega arith) comma.put_byte-output.ensures second.put_number-end.ensures))
    c.before.before.put_byte.ensures

pub put_interval_spec : {M : Type 1} → statement M
put_interval_spec =
    tie.close
    (tie.spec
    put-number-requires
    put-byte-requires
    put-number-requires-2
    put-byte-requires-2
    (λ c. search rules)
    returns)

-- Name, outcome, line end.
use mathlib.Core.Path.{◌≡◌}
use Prim.Native.Nat.{◌+◌}
use native.Mathlib.Omega.{arith}
use lib.ListN.{length, length-append}
use mathlib.Core.List.{◌++◌}
use Rattle.listing.specs.Listing.{outcome_text, closed}
use borrow.Author.Rules.{rules}
use Rattle.listing.proofs.Writing.{put_then}
use Rattle.listing.proofs.put_outcome_line.Statement.{statement}
use Rattle.listing.proofs.put_outcome_line.Tie as tie

parts : (c : tie.Start)
    → length (closed (c.args.name.now ++ outcome_text c.args.outcome)) ≡ length c.args.name.now + length (outcome_text c.args.outcome) + 1
parts c = simp length-append (omega arith)

put-outcome-requires : tie.Need-put_outcome-end-requires
put-outcome-requires c κs =
    let name = c.before.before.before in
    let s = name.before.before.before.before in
    omega (arith, parts s)

put-byte-requires : tie.Need-put_byte-requires
put-byte-requires c κs =
    let value = c.before.before.before in
    let name = value.before.before.before.before in
    let s = name.before.before.before.before in
    omega (arith, parts s)

returns : tie.Need-returns
returns c =
    let value = c.before.before.before.before.before.before in
    let name = value.before.before.before.before in
    let s = name.before.before.before.before in
    let line = parts s in
    put_then (omega (arith, length-append s.args.name.now (outcome_text s.args.outcome)))
    (put_then (omega arith) name.put_text-value.ensures value.put_outcome-end.ensures)
    c.before.before.put_byte.ensures

pub put_outcome_line_spec : {M : Type 1} → statement M
put_outcome_line_spec =
    tie.close
    (tie.spec
    (λ c κs. omega (arith, parts c.before.before.before))
    put-outcome-requires
    put-byte-requires
    (λ c. search rules)
    returns)

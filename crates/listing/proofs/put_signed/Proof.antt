-- A minus before the magnitude of a number below zero.
use mathlib.Core.Path.{◌≡◌, sym, ap, ◌∙◌}
use mathlib.Core.List.{◌∷◌}
use native.Mathlib.Omega.{arith}
use lib.IntN.{nat_abs}
use lib.ListN.{length}
use mir.Syntax.{w64}
use mir.Val.{to_z, of_z}
use Rattle.integers.proofs.Ranges.{plain_fits}
use Rattle.listing.specs.Numbers.{number, signed_number}
use borrow.Author.Rules.{rules}
use Rattle.listing.proofs.Signed.{signed_below, signed-not-below}
use Rattle.listing.proofs.Writing.{put_then, put_as}
use Rattle.listing.proofs.put_signed.Statement.{statement}
use Rattle.listing.proofs.put_signed.Tie as tie

value-plain : (c : tie.Start) → to_z w64 (of_z w64 c.args.value) ≡ c.args.value
value-plain c = plain_fits c.ranges.value

text-below : (c : tie.Then-value-lt0) → signed_number c.before.before.args.value ≡ 45 ∷ number (nat_abs c.before.before.args.value)
text-below c = signed_below c.before.before.args.value (rw (value-plain c.before.before) at c.if-value-lt0.true)

text-not-below : (c : tie.Else-value-lt0) → signed_number c.before.before.args.value ≡ number (nat_abs c.before.before.args.value)
text-not-below c = signed-not-below c.before.before.args.value (rw (value-plain c.before.before) at c.if-value-lt0.false)

put-byte-requires : tie.Need-put_byte-next-requires
put-byte-requires c κs = omega (arith, ap length (text-below c.before), c.before.before.before.requires)

put-number-requires : tie.Need-put_number-requires
put-number-requires c κs =
    let minus = c.before.before.before.before in
    let s = minus.before.before.before.before in
    rw (c.magnitude.ensures ∙ ap nat_abs (value-plain s)) (omega (arith, ap length (text-below minus.before.before)))

returns : tie.Need-returns-then-value-lt0
returns c =
    let counted = c.before.before.before in
    let minus = counted.before.before.before.before in
    let s = minus.before.before.before.before in
    let text = text-below minus.before.before in
    let n : counted.magnitude.result ≡ nat_abs s.args.value = counted.magnitude.ensures ∙ ap nat_abs (value-plain s) in
    put_as (sym text)
    (put_then (omega (arith, ap length text)) minus.put_byte-next.ensures (put_as (ap number n) c.before.before.put_number.ensures))

put-number-requires-2 : tie.Need-put_number-requires-2
put-number-requires-2 c κs =
    let s = c.before.before.before.before in
    rw (c.magnitude-2.ensures ∙ ap nat_abs (value-plain s)) (omega (arith, ap length (text-not-below c.before.before), s.requires))

returns-2 : tie.Need-returns
returns-2 c =
    let counted = c.before.before.before in
    let s = counted.before.before.before.before in
    put_as (ap number (counted.magnitude-2.ensures ∙ ap nat_abs (value-plain s)) ∙ sym (text-not-below counted.before.before))
    c.before.before.put_number-2.ensures

pub put_signed_spec : {M : Type 1} → statement M
put_signed_spec =
    tie.close
    (tie.spec
    put-byte-requires
    (λ c κs. search rules)
    put-number-requires
    (λ c. search rules)
    returns
    (λ c κs. search rules)
    put-number-requires-2
    (λ c. search rules)
    returns-2)

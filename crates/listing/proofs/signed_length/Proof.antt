-- A minus more where the number is below zero.
use mathlib.Core.Path.{◌≡◌, sym, ap, ◌∙◌}
use Prim.Native.Nat.{ℕ}
use native.Mathlib.Omega.{arith}
use lib.IntN.{nat_abs}
use lib.ListN.{length}
use mir.Syntax.{w64}
use mir.Val.{to_z, of_z}
use Rattle.integers.proofs.Ranges.{plain_fits}
use Rattle.listing.specs.Numbers.{number}
use borrow.Author.Rules.{rules}
use Rattle.listing.proofs.Numbers.{number_short}
use Rattle.listing.proofs.Signed.{signed_below, signed-not-below}
use Rattle.listing.proofs.signed_length.Statement.{statement}
use Rattle.listing.proofs.signed_length.Tie as tie

value-plain : (c : tie.Start) → to_z w64 (of_z w64 c.args.value) ≡ c.args.value
value-plain c = plain_fits c.ranges.value

digits : (c : tie.After-number_length-digits) → c.number_length-digits.result ≡ length (number (nat_abs c.before.before.args.value))
digits c = c.number_length-digits.ensures ∙ ap (λ (n : ℕ). length (number n)) (c.before.magnitude.ensures ∙ ap nat_abs (value-plain c.before.before))

add-result : tie.Need-overflow_add-result
add-result c = omega (arith, digits c.before, number_short (nat_abs c.before.before.before.args.value))

returns : tie.Need-returns-then-value-lt0
returns c =
    let s = c.before.before.before in
    omega (arith, digits c.before, ap length (signed_below s.args.value (rw (value-plain s) at c.if-value-lt0.true)))

returns-2 : tie.Need-returns
returns-2 c =
    let s = c.before.before.before in
    digits c.before ∙ sym (ap length (signed-not-below s.args.value (rw (value-plain s) at c.if-value-lt0.false)))

pub signed_length_spec : {M : Type 1} → statement M
signed_length_spec =
    tie.close (tie.spec (λ c κs. search rules) (λ c κs. search rules) add-result returns returns-2)

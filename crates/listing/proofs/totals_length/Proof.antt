-- Each text by its own length, of which none is longer than 21 bytes.
use mathlib.Core.Path.{◌≡◌, ap, ◌∙◌}
use Prim.Native.Nat.{◌≤◌}
use native.Mathlib.Omega.{arith}
use lib.IntN.{ℤ}
use lib.ListN.{length}
use Rattle.integers.proofs.Ranges.{plain_fits}
use Rattle.listing.specs.Numbers.{signed_number}
use borrow.Author.Rules.{rules}
use Rattle.listing.proofs.Lengths.{signed-short, outcome-short, profit-length, outcomes-length}
use Rattle.listing.proofs.totals_length.Statement.{statement}
use Rattle.listing.proofs.totals_length.Tie as tie

profit-digits : (c : tie.After-signed_length) → c.signed_length.result ≡ length (signed_number c.before.args.profit)
profit-digits c = c.signed_length.ensures ∙ ap (λ (x : ℤ). length (signed_number x)) (plain_fits c.before.ranges.profit)

short-profit : (c : tie.After-signed_length) → c.signed_length.result ≤ 21
short-profit c = rw (profit-digits c) (signed-short c.before.args.profit)

short-starts : (c : tie.After-outcome_length) → c.outcome_length.result ≤ 21
short-starts c = rw c.outcome_length.ensures (outcome-short c.before.before.args.outcomes.starts)

short-hours : (c : tie.After-outcome_length-2) → c.outcome_length-2.result ≤ 21
short-hours c = rw c.outcome_length-2.ensures (outcome-short c.before.before.before.args.outcomes.hours)

short-mwh : (c : tie.After-outcome_length-3) → c.outcome_length-3.result ≤ 21
short-mwh c = rw c.outcome_length-3.ensures (outcome-short c.before.before.before.before.args.outcomes.mwh)

add-result-8 : tie.Need-overflow_add-result-8
add-result-8 c =
    omega (arith, short-profit c.before.before.before, short-starts c.before.before, short-hours c.before, short-mwh c)

returns : tie.Need-returns
returns c =
    let a = c.before.before.before.before.args in
    omega (arith, profit-digits c.before.before.before, profit-length a.profit, outcomes-length a.outcomes)

pub totals_length_spec : {M : Type 1} → statement M
totals_length_spec =
    tie.close
    (tie.spec
    (λ c. search rules)
    (λ c κs. search rules)
    (λ c. omega (arith, short-profit c))
    (λ c. omega (arith, short-profit c))
    (λ c κs. search rules)
    (λ c. omega (arith, short-profit c.before, short-starts c))
    (λ c. omega (arith, short-profit c.before, short-starts c))
    (λ c κs. search rules)
    (λ c. omega (arith, short-profit c.before.before, short-starts c.before, short-hours c))
    (λ c. omega (arith, short-profit c.before.before, short-starts c.before, short-hours c))
    (λ c κs. search rules)
    add-result-8
    returns)

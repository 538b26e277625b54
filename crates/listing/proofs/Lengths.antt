-- How long the lines of the totals are.
use Rattle.std.specs.Prelude.{None, Some}
use mathlib.Core.Path.{◌≡◌}
use mathlib.Core.List.{List, ◌∷◌, ◌++◌}
use Prim.Native.Nat.{ℕ, suc, ◌+◌, ◌≤◌}
use native.Mathlib.Omega.{arith}
use lib.IntN.{ℤ, pos, negsuc}
use lib.ListN.{length, length-append}
use Rattle.calendar.specs.Words.{hours_allowed}
use Rattle.commitment.specs.declared.Outcome.{Outcome}
use Rattle.commitment.specs.declared.Outcome.TheVariants.{None, Empty, Never, Gap}
use Rattle.commitment.specs.declared.Outcomes.{Outcomes}
use Rattle.listing.specs.Types.{HourWord}
use Rattle.listing.specs.Numbers.{number, signed_number}
use Rattle.listing.specs.Listing.{outcome_text, closed, profit_lead, window_lead, refused_lead}
use Rattle.listing.specs.Listing.{interval_line, interval_lines, profit_line, outcome_lines, hours_line, window_line, listing, refusal}
use Rattle.listing.proofs.Numbers.{number_short, number_digits}
use Rattle.listing.proofs.Words.{hours-most}

pub signed-short : (x : ℤ) → length (signed_number x) ≤ 21
signed-short (pos n) = omega (arith, number_short n)
signed-short (negsuc n) = omega (arith, number_short (suc n))

pub outcome-short : (o : Outcome) → length (outcome_text o) ≤ 21
outcome-short None = omega arith
outcome-short Empty = omega arith
outcome-short Never = omega arith
outcome-short (Gap gap) = signed-short gap

closed-length : (name text : List ℕ) → length (closed (name ++ text)) ≡ length name + length text + 1
closed-length name text = simp length-append

pub line-length : (k m : ℕ) → length (interval_line k m) ≡ length (number k) + length (number m) + 2
line-length k m = omega (arith, closed-length (number k) (44 ∷ number m))

pub profit-length : (p : ℤ) → length (profit_line p) ≡ 8 + length (signed_number p)
profit-length p = omega (arith, closed-length profit_lead (signed_number p))

pub outcomes-length : (o : Outcomes)
    → length (outcome_lines o) ≡ 20 + length (outcome_text o.starts) + length (outcome_text o.hours) + length (outcome_text o.mwh)
outcomes-length o = simp length-append (omega arith)

pub totals-short : (p : ℤ) (o : Outcomes) → 24 + (length (profit_line p) + length (outcome_lines o)) ≤ 136
totals-short p o =
    omega (
      arith,
      profit-length p,
      signed-short p,
      outcomes-length o,
      outcome-short o.starts,
      outcome-short o.hours,
      outcome-short o.mwh,
    )

pub hours-length : (word : ℕ) → length (hours_line word) ≡ 8 + length (number (hours_allowed word))
hours-length word = omega (arith, closed-length window_lead (number (hours_allowed word)))

-- `window,24` and the line end
pub window-short : (w : HourWord) → length (window_line w) ≤ 10
window-short None = omega arith
window-short (Some word) =
    let most = hours-most word in
    omega (arith, hours-length word, number_digits 1 (hours_allowed word) (omega (arith, most)) (omega (arith, most)))

pub listing-length : (s : List ℕ) (p : ℤ) (o : Outcomes) (w : HourWord)
    → length (listing s p o w) ≡ length (interval_lines 1 s) + (24 + (length (profit_line p) + length (outcome_lines o)) + length (window_line w))
unfolding listing
listing-length s p o w = simp length-append (omega arith)

pub refusal-length : (n : ℕ) → length (refusal n) ≡ 9 + length (number n)
unfolding refusal
refusal-length n = omega (arith, closed-length refused_lead (number n))

-- A buffer after a text was written into its front, or was not.
use Rattle.std.specs.Prelude.{Err, None, Ok, Some}
use mathlib.Core.Path.{◌≡◌, refl, sym, ap}
use mathlib.Core.Bool.{Bool, true, false, cond}
use mathlib.Core.List.{List, ◌++◌}
use Prim.Native.Nat.{ℕ}
use native.Mathlib.Omega.{arith}
use lib.Dec.{leb}
use lib.IntN.{ℤ}
use lib.ListN.{length, drop}
use Rattle.commitment.specs.declared.Cause.{Cause}
use Rattle.commitment.specs.declared.Cause.TheVariants.{Range}
use Rattle.commitment.specs.declared.Outcomes.{Outcomes}
use Rattle.listing.specs.Types.{Fit}
use Rattle.listing.specs.Types.{HourWord}
use Rattle.listing.specs.Listing.{listing, fitted, written_by, buffer_after, word_kept, listing_written, listing_after}

module _ (line out : List ℕ) where
  -- by whether it fits
  abbrev after : Bool → List ℕ
  after t = cond t (line ++ drop (length line) out) out

  pub line-in-front : (n : ℕ) → written_by (fitted (length line) (length out)) ≡ Ok n → (n ≡ length line) × (buffer_after line out ≡ line ++ drop n out)
  line-in-front n e = by (leb (length line) (length out)) e
    where
      by : (t : Bool) → written_by (cond {A = Fit} t (Some (length line)) None) ≡ Ok n → (n ≡ length line) × (after t ≡ line ++ drop n out)
      by true e = let same : length line ≡ n = cc in (sym same, ap (λ (m : ℕ). line ++ drop m out) same)
      by false e = let z : ◌≡◌ {A = ℕ} 0 1 = cc in absurd (omega arith)

  pub line-untouched : (cause : Cause) → written_by (fitted (length line) (length out)) ≡ Err cause → buffer_after line out ≡ out
  line-untouched cause e = by (leb (length line) (length out)) e
    where
      by : (t : Bool) → written_by (cond {A = Fit} t (Some (length line)) None) ≡ Err cause → after t ≡ out
      by true e = let z : ◌≡◌ {A = ℕ} 0 1 = cc in absurd (omega arith)
      by false e = refl

module _ (s : List ℕ) (p : ℤ) (o : Outcomes) (w : HourWord) (out : List ℕ) where
  abbrev lines : List ℕ
  lines = listing s p o w

  pub listing-in-front : (n : ℕ) → listing_written s p o w (length out) ≡ Ok n → (n ≡ length lines) × (listing_after s p o w out ≡ lines ++ drop n out)
  listing-in-front n e = by (word_kept w) e
    where
      by : (t : Bool) → cond t (written_by (fitted (length lines) (length out))) (Err Range) ≡ Ok n
          → (n ≡ length lines) × (cond t (buffer_after lines out) out ≡ lines ++ drop n out)
      by true e = line-in-front lines out n e
      by false e = let z : ◌≡◌ {A = ℕ} 0 1 = cc in absurd (omega arith)

  pub listing-untouched : (cause : Cause) → listing_written s p o w (length out) ≡ Err cause → listing_after s p o w out ≡ out
  listing-untouched cause e = by (word_kept w) e
    where
      by : (t : Bool) → cond t (written_by (fitted (length lines) (length out))) (Err Range) ≡ Err cause → cond t (buffer_after lines out) out ≡ out
      by true e = line-untouched lines out cause e
      by false e = refl

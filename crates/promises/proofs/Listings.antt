-- The bytes that the calls of `listing` write: 3, 7, what is written, and the buffer past it and on a refusal.
use Rattle.std.specs.Prelude.{Err, Ok}
use mathlib.Core.Path.{◌≡◌, refl}
use mathlib.Core.List.{List, ◌++◌}
use mathlib.Core.Logic.{◌↔◌}
use Prim.Native.Nat.{ℕ}
use lib.IntN.{ℤ}
use lib.ListN.{length, drop}
use Rattle.commitment.specs.declared.Cause.{Cause}
use Rattle.commitment.specs.declared.Outcomes.{Outcomes}
use Rattle.commitment.specs.Causes.{number_of, answered_number}
use Rattle.listing.specs.Types.{HourWord}
use Rattle.listing.specs.Listing.{listing, refusal, fitted, written_by, buffer_after, listing_written, listing_after, bytes_in}
use Rattle.promises.specs.Causes.{FirstOf, NoneOf, listing_causes, line_causes}
use Rattle.promises.proofs.Causes as causes
use Rattle.promises.proofs.Buffers as buffers

-- ---- the listing of a plan: 3 for a word of more than 24 bits, then 7 where it does not fit, exactly; else all of its bytes

module _ (s : List ℕ) (p : ℤ) (o : Outcomes) (w : HourWord) (out : List ℕ) where
  pub listing-refused : (cause : Cause)
      → (listing_written s p o w (length out) ≡ Err cause) ↔ FirstOf (listing_causes (listing s p o w) w (length out)) cause
  listing-refused cause = causes.listing-refused s p o w (length out)

  pub listing-written : (listing_written s p o w (length out) ≡ Ok (length (listing s p o w))) ↔ NoneOf (listing_causes (listing s p o w) w (length out))
  listing-written = causes.listing-given s p o w (length out)

  -- the buffer then begins with them and goes on as it was; on a refusal it is as it was

  pub listing-in-front : (n : ℕ) → listing_written s p o w (length out) ≡ Ok n
      → (n ≡ length (listing s p o w)) × (listing_after s p o w out ≡ listing s p o w ++ drop n out)
  listing-in-front = buffers.listing-in-front s p o w out

  pub listing-untouched : (cause : Cause) → listing_written s p o w (length out) ≡ Err cause → listing_after s p o w out ≡ out
  listing-untouched = buffers.listing-untouched s p o w out

-- ---- the line of a refusal: 7 exactly where it does not fit

module _ (number : ℕ) (out : List ℕ) where
  abbrev line : List ℕ
  line = refusal number

  pub line_refused : (cause : Cause) → (written_by (fitted (length line) (length out)) ≡ Err cause) ↔ FirstOf (line_causes line (length out)) cause
  line_refused cause = causes.line_refused line (length out)

  pub line-written : (written_by (fitted (length line) (length out)) ≡ Ok (length line)) ↔ NoneOf (line_causes line (length out))
  line-written = causes.line-written line (length out)

  pub line-in-front : (n : ℕ) → written_by (fitted (length line) (length out)) ≡ Ok n → (n ≡ length line) × (buffer_after line out ≡ line ++ drop n out)
  line-in-front = buffers.line-in-front line out

  pub line-untouched : (cause : Cause) → written_by (fitted (length line) (length out)) ≡ Err cause → buffer_after line out ≡ out
  line-untouched = buffers.line-untouched line out

-- ---- with a refusal come the number of its cause and no bytes

pub written-refusal : (cause : Cause) → (answered_number {A = ℕ} (Err cause) ≡ number_of cause) × (bytes_in (Err cause) ≡ 0)
written-refusal cause = (refl, refl)

pub written-number : (n : ℕ) → (answered_number (Ok n) ≡ 0) × (bytes_in (Ok n) ≡ n)
written-number n = (refl, refl)

-- Whether a text fits a buffer, and what then becomes of it.
use Rattle.std.specs.Prelude.{Err, None, Some}
use mathlib.Core.Path.{◌≡◌, refl}
use mathlib.Core.Bool.{Bool, true, false, cond}
use mathlib.Core.List.{List}
use Prim.Native.Nat.{ℕ, ◌+◌, ◌-◌, ◌≤◌, ◌<◌}
use native.Mathlib.Nat.{zero-add}
use native.Mathlib.Omega.{arith}
use borrow.Author.Tests.{le-leb, lt-leb, leb-true, leb-false}
use lib.Dec.{leb}
use lib.IntN.{ℤ}
use lib.ListN.{length}
use Rattle.commitment.specs.declared.Cause.TheVariants.{Range}
use Rattle.commitment.specs.declared.Outcomes.{Outcomes}
use Rattle.listing.specs.Types.{Fit}
use Rattle.listing.specs.Types.{HourWord}
use Rattle.listing.specs.Listing.{listing, fitted, written_by, buffer_after, word_kept, listing_written, listing_after, bytes_in}
use Rattle.listing.specs.Writing.{written}

-- so many bytes more
abbrev pub lengthened : ℕ → Fit → Fit
lengthened more (Some bytes) = Some (bytes + more)
lengthened more None = None

pub fit-more : (bytes more room : ℕ) → more ≤ room → fitted (bytes + more) room ≡ lengthened more (fitted bytes (room - more))
fit-more bytes more room h = go (leb bytes (room - more)) refl
  where
    go : (t : Bool) → leb bytes (room - more) ≡ t → fitted (bytes + more) room ≡ lengthened more (cond t (Some bytes) None)
    go true e = simp (le-leb (bytes + more) room (omega (arith, leb-true bytes (room - more) e)))
    go false e = simp (lt-leb (bytes + more) room (omega (arith, leb-false bytes (room - more) e)))

pub fit-room : (bytes room b : ℕ) → fitted bytes room ≡ Some b → (bytes ≡ b) × (b ≤ room)
fit-room bytes room b = go (leb bytes room) refl
  where
    go : (t : Bool) → leb bytes room ≡ t → cond t (Some bytes) None ≡ Some b → (bytes ≡ b) × (b ≤ room)
    go true e f = let same : bytes ≡ b = cc in (same, omega (arith, leb-true bytes room e))
    go false e f = let z : ◌≡◌ {A = ℕ} 0 1 = cc in absurd (omega arith)

pub fit-long : (bytes room : ℕ) → fitted bytes room ≡ None → room < bytes
fit-long bytes room = go (leb bytes room) refl
  where
    go : (t : Bool) → leb bytes room ≡ t → cond t (Some bytes) None ≡ None → room < bytes
    go true e f = let z : ◌≡◌ {A = ℕ} 0 1 = cc in absurd (omega arith)
    go false e f = leb-false bytes room e

-- a text that fits is written at the front; one that does not leaves the buffer
pub after-written : (text buffer : List ℕ) → length text ≤ length buffer → written buffer 0 text ≡ buffer_after text buffer
unfolding written
after-written text buffer h = simp (le-leb (length text) (length buffer) h, zero-add)

pub after-refused : (text buffer : List ℕ) → length buffer < length text → buffer ≡ buffer_after text buffer
after-refused text buffer h = simp (lt-leb (length text) (length buffer) h)

pub bytes_fit : (bytes room : ℕ) → bytes_in (written_by (fitted bytes room)) ≤ room
bytes_fit bytes room = go (leb bytes room) refl
  where
    go : (t : Bool) → leb bytes room ≡ t → bytes_in (written_by (cond t (Some bytes) None)) ≤ room
    go true e = leb-true bytes room e
    go false e = omega arith

-- ---- a listing

module _ (s : List ℕ) (p : ℤ) (o : Outcomes) (w : HourWord) where
  abbrev text : List ℕ
  text = listing s p o w

  -- with a word that is kept it is a text like any other
  pub listing-written : word_kept w ≡ true → (room : ℕ) → listing_written s p o w room ≡ written_by (fitted (length text) room)
  listing-written kept room = rw kept refl

  pub listing-after : word_kept w ≡ true → (buffer : List ℕ) → listing_after s p o w buffer ≡ buffer_after text buffer
  listing-after kept buffer = rw kept refl

  -- with any word
  pub listing-fits : (room : ℕ) → bytes_in (listing_written s p o w room) ≤ room
  listing-fits room = go (word_kept w)
    where
      go : (t : Bool) → bytes_in (cond t (written_by (fitted (length text) room)) (Err Range)) ≤ room
      go true = bytes_fit (length text) room
      go false = omega arith

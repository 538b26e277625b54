-- The hour word of a case: what is known of one that is kept, and how many hours it allows at most.
use Rattle.std.specs.Prelude.{Some}
use mathlib.Core.Path.{◌≡◌, sym, ap, ◌∙◌}
use mathlib.Core.Bool.{Bool, true, false, cond}
use Prim.Native.Nat.{ℕ, zero, suc, ◌+◌, ◌≤◌, ◌<◌}
use native.Mathlib.Omega.{arith}
use borrow.Author.Tests.{ltb-true}
use Rattle.calendar.specs.Words.{allows, allowed_before, hours_allowed, past_words}
use Rattle.listing.specs.Types.{HourWord}
use Rattle.listing.specs.Listing.{word_kept}

pub kept-below : {w : HourWord} {word : ℕ} → w ≡ Some word → word_kept w ≡ true → word < past_words
kept-below {w} {word} e kept = ltb-true word past_words (sym (ap word_kept e) ∙ kept)

-- no more hours are allowed than there are
allowed-most : (word hour : ℕ) → allowed_before word hour ≤ hour
allowed-most word zero = omega arith
allowed-most word (suc hour) = go (allows word hour) (allowed-most word hour)
  where
    go : (t : Bool) → allowed_before word hour ≤ hour → allowed_before word hour + cond t 1 0 ≤ suc hour
    go true h = omega arith
    go false h = omega arith

pub hours-most : (word : ℕ) → hours_allowed word ≤ 24
unfolding hours_allowed
hours-most word = allowed-most word 24

-- From a text to the bytes printed for it. What the statements are made of: specs/Printed, specs/Causes; the work: Printing.
use mathlib.Core.Path.{◌≡◌}
use mathlib.Core.List.{List, ◌++◌}
use mathlib.Core.Logic.{◌↔◌}
use Prim.Native.Nat.{ℕ, ◌≤◌, ◌<◌}
use lib.ListN.{length, drop}
use Rattle.commitment.specs.declared.Cause.{Cause}
use Rattle.commitment.specs.declared.Cause.TheVariants.{Form}
use Rattle.commitment.specs.Causes.{number_of}
use Rattle.casetext.specs.Form.{most_bytes}
use Rattle.listing.specs.Listing.{buffer_after}
use Rattle.answers.specs.Answering.{answered, printed}
use Rattle.answers.specs.Sizes.{out_room}
use Rattle.promises.specs.Causes.{FirstOf, NoneOf, answering_causes}
use Rattle.promises.specs.Printed.{Prints}
use Rattle.promises.proofs.Printing as printing

-- Every text is printed for: the best plan of the case written in it, or the line of the first cause that holds.

pub prints : (text : List ℕ) → Prints text
prints = printing.prints

-- ---- the call `answers::answer`, with a buffer of any length

-- a number: 0 where the best plan was written, 7 exactly where its listing does not fit, and any other exactly where its cause is the first that holds

pub written-exactly : (text : List ℕ) (room : ℕ) → ((answered text room).number ≡ 0) ↔ (NoneOf (answering_causes text) × (length (printed text) ≤ room))
written-exactly = printing.written-exactly

pub seven-exactly : (text : List ℕ) (room : ℕ) → ((answered text room).number ≡ 7) ↔ (NoneOf (answering_causes text) × (room < length (printed text)))
seven-exactly = printing.seven-exactly

pub refused-number : (text : List ℕ) (room : ℕ) (cause : Cause) → FirstOf (answering_causes text) cause → (answered text room).number ≡ number_of cause
refused-number = printing.refused-number

-- the bytes printed stand in front, and what lies past them is as it was; where they do not fit, nothing is written

pub fitting-written : (text out : List ℕ) → length (printed text) ≤ length out
    → ((answered text (length out)).bytes ≡ length (printed text)) × (buffer_after (printed text) out ≡ printed text ++ drop (length (printed text)) out)
fitting-written = printing.fitting-written

pub short-untouched : (text out : List ℕ) → length out < length (printed text)
    → ((answered text (length out)).bytes ≡ 0) × (buffer_after (printed text) out ≡ out)
short-untouched = printing.short-untouched

-- the program's buffer is never too short: it prints all of its bytes for every text, and its number is never 7

pub every-text-is-answered : (text : List ℕ) → ((answered text out_room).bytes ≡ length (printed text)) × ((answered text out_room).number ≡ 7 → ⊥)
every-text-is-answered = printing.every-text-is-answered

-- a text of more bytes than are read is refused as it would be whole, by what was read of it

pub longer-text-is-refused : (text more : List ℕ) → most_bytes < length text
    → FirstOf (answering_causes text) Form × FirstOf (answering_causes (text ++ more)) Form
longer-text-is-refused = printing.longer-refused

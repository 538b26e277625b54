-- Demand 1 (specification 17), of texts: which texts have the form and the names, and that a text that is not refused is read as the figures written
-- in it.
use Rattle.std.specs.Prelude.{Ok}
use mathlib.Core.Path.{◌≡◌}
use mathlib.Core.Bool.{true, not}
use mathlib.Core.List.{List, [], ◌++◌}
use mathlib.Core.Logic.{◌↔◌, ◌⊎◌}
use Prim.Native.Nat.{ℕ, ◌≤◌}
use lib.IntN.{ℤ}
use lib.ListN.{length, take, drop}
use Rattle.commitment.specs.declared.UnitRecord.{UnitRecord}
use Rattle.commitment.specs.Ranges.{prices_kept, case_checked}
use Rattle.casefile.specs.Answers.{read_case, read_prices}
use Rattle.writing.specs.AsWritten.{AsWritten}
use Rattle.tabletext.specs.Tables.{named}
use Rattle.tabletext.specs.Pieces.{fields_of}
use Rattle.casetext.specs.Names.{unit_names, dated_names, price_names}
use Rattle.casetext.specs.Form.{most_bytes, unit_head, price_head, form_kept, names_kept}
use Rattle.writing.specs.Writing.{names_for, written}
use Rattle.writing.proofs.AsWritten.{read-as-written}
use Rattle.writing.proofs.Back.{written_read}
use Rattle.promises.specs.Sequences.{InSomeSequence}
use Rattle.promises.specs.Tables.{TwoTables}
use Rattle.promises.proofs.Forms as forms
use Rattle.promises.proofs.Names as names
use Rattle.casefile.specs.Types.{case_with}

-- A text has the form, so that 1 does not hold, exactly when a writer of two tables makes it within its bytes.

pub form-exactly : (text : List ℕ) → (form_kept text ≡ true) ↔ TwoTables text
form-exactly = forms.form-exactly

-- The names of a text are kept, so that 2 does not hold, exactly when they are the thirteen, or the thirteen and the four of a date and its hour word,
-- in some sequence, and `price`.

pub names-exactly : (text : List ℕ)
    → (names_kept text ≡ true)
    ↔ ((InSomeSequence unit_names (fields_of (unit_head text)) ⊎ InSomeSequence (unit_names ++ dated_names) (fields_of (unit_head text)))
    × InSomeSequence price_names (fields_of (price_head text)))
names-exactly = names.names-exactly

-- A text that is not refused is read as the figures written in it.

pub as_written : (text : List ℕ) (slice : List ℤ) (u : UnitRecord) (count : ℕ)
    → read_case text (length slice) ≡ case_with u count → AsWritten text u (take count (read_prices text slice))
as_written = read-as-written

-- and what a writer of the format writes, with the names in any sequence, and with the four where the record has them, is read back

pub written-is-read : (u : UnitRecord) (prices : List ℤ) (names : List (List ℕ)) (slice : List ℤ) → case_checked u (prices_kept prices) (length prices) ≡ Ok tt
    → named (names_for u.permit) [] names ≡ true → length (written names u prices) ≤ most_bytes → length prices ≤ length slice
    → (read_case (written names u prices) (length slice) ≡ case_with u (length prices))
    × (read_prices (written names u prices) slice ≡ prices ++ drop (length prices) slice)
written-is-read = written_read

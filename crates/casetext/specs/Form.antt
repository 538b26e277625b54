-- The lines of a text, its form and its names (specification 11).
use Rattle.std.specs.Prelude.{Bool, true, false, ◌&&◌, List, [], ◌∷◌, ℕ, leb, length, get_or, drop}
use Rattle.lists.specs.Every.{every}
use Rattle.tabletext.specs.Pieces.{lines_of, last_closed, fields_of}
use Rattle.tabletext.specs.Tables.{name_line, value_line, named}
use Rattle.casetext.specs.Names.{unit_names, unit_groups, price_names}

-- the bytes that a text has at most
abbrev pub most_bytes : ℕ
most_bytes = 12288

-- ---- the lines: the unit's names and values, an empty line, the prices' names, then a price to a line

abbrev pub line_at : ℕ → List ℕ → List ℕ
line_at k text = get_or (lines_of text) k []

abbrev pub unit_head : List ℕ → List ℕ
unit_head text = line_at 0 text

abbrev pub unit_row : List ℕ → List ℕ
unit_row text = line_at 1 text

abbrev pub empty_line : List ℕ → List ℕ
empty_line text = line_at 2 text

abbrev pub price_head : List ℕ → List ℕ
price_head text = line_at 3 text

abbrev pub price_rows : List ℕ → List (List ℕ)
price_rows text = drop 4 (lines_of text)

-- ---- 1: the form

abbrev pub is_empty : List ℕ → Bool
is_empty [] = true
is_empty (b ∷ bs) = false

abbrev pub table_formed : List ℕ → List (List ℕ) → Bool
table_formed head rows = name_line head && every (value_line (length (fields_of head))) rows

unfoldable pub form_kept : List ℕ → Bool
form_kept text =
    leb (length text) most_bytes && last_closed text
    && leb 4 (length (lines_of text)) && is_empty (empty_line text)
    && table_formed (unit_head text) (unit_row text ∷ []) && table_formed (price_head text) (price_rows text)

-- ---- 2: the names, each once, in any sequence, and no other

-- the thirteen alone, or with the four of a date, all of them; and the price's
unfoldable pub names_kept : List ℕ → Bool
names_kept text = named unit_names unit_groups (fields_of (unit_head text)) && named price_names [] (fields_of (price_head text))

-- Where a string of bytes is cut, and what a walk from piece to piece has left.
use Rattle.std.specs.Prelude.{◌≡◌, cond, List, [], ◌∷◌, ℕ, suc, ◌+◌, ◌≤◌, ◌<◌, length, take, drop, map, Option, Some, None, MatchOption}
use denote.Ref.{Bor}
use Rattle.tabletext.specs.declared.Class.{Class}
use Rattle.tabletext.specs.declared.walking.Fields.{Fields}
use Rattle.tabletext.specs.declared.walking.Lines.{Lines}
use Rattle.tabletext.specs.Bytes.{is_of}
use Rattle.tabletext.specs.Pieces.{lines_of, fields_of}

-- how many bytes come before the first of a class
abbrev pub end_of : Class → List ℕ → ℕ
end_of mark [] = 0
end_of mark (b ∷ bs) = cond (is_of mark b) 0 (suc (end_of mark bs))

-- a string is cut at the first byte of a class, or is one piece with nothing behind it
abbrev pub IsCut : Class → List ℕ → List ℕ → Option (Bor (List ℕ)) → Type 0
IsCut mark s piece behind =
    (piece ≡ take (end_of mark s) s)
    × MatchOption behind (length s ≤ end_of mark s) (λ others. (end_of mark s < length s) × (others.now ≡ drop (end_of mark s + 1) s))

abbrev pub fields_of_rest : Option (Bor (List ℕ)) → List (List ℕ)
fields_of_rest None = []
fields_of_rest (Some rest) = fields_of rest.now

-- the fields that a walk has still to give
abbrev pub fields_left : Fields → List (List ℕ)
fields_left it = fields_of_rest it.rest

-- the lines that a walk has still to give
abbrev pub lines_left : Lines → List (List ℕ)
lines_left it = lines_of it.rest.now

-- the groups of a table of names, a line each
abbrev pub groups_of : List ℕ → List (List (List ℕ))
groups_of s = map fields_of (lines_of s)

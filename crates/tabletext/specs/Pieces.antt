-- A text is lines, a line is fields (specification 11).
use Rattle.std.specs.Prelude.{Bool, false, cond, List, [], ◌∷◌, ℕ}
use Rattle.tabletext.specs.declared.Class.TheVariants.{Comma, LineEnd}
use Rattle.tabletext.specs.Bytes.{is_of}

-- a byte in front of the first piece
abbrev pub onto : ℕ → List (List ℕ) → List (List ℕ)
onto b [] = (b ∷ []) ∷ []
onto b (piece ∷ pieces) = (b ∷ piece) ∷ pieces

-- the lines: a line end closes each
abbrev pub lines_of : List ℕ → List (List ℕ)
lines_of [] = []
lines_of (b ∷ bs) = cond (is_of LineEnd b) ([] ∷ lines_of bs) (onto b (lines_of bs))

-- the last line is closed too, and there is one
abbrev pub last_closed : List ℕ → Bool
last_closed [] = false
last_closed (b ∷ []) = is_of LineEnd b
last_closed (b ∷ c ∷ bs) = last_closed (c ∷ bs)

-- the fields of a line: commas part them
abbrev pub fields_of : List ℕ → List (List ℕ)
fields_of [] = [] ∷ []
fields_of (b ∷ bs) = cond (is_of Comma b) ([] ∷ fields_of bs) (onto b (fields_of bs))

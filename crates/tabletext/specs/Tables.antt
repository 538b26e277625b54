-- A table (specification 11): a line of names over lines of values.
use Rattle.std.specs.Prelude.{Bool, ◌&&◌, ◌||◌, cond, List, [], ◌∷◌, ℕ, ◌+◌, leb, eqb, length}
use Rattle.lists.specs.Every.{every}
use Rattle.tabletext.specs.declared.Value.{Value}
use Rattle.tabletext.specs.declared.Value.TheVariants.{Malformed}
use Rattle.tabletext.specs.Bytes.{same}
use Rattle.tabletext.specs.Pieces.{fields_of}
use Rattle.tabletext.specs.Values.{is_name, value_of, is_value}

abbrev pub name_line : List ℕ → Bool
name_line line = every is_name (fields_of line)

-- a line of values has as many values as its line of names has names
abbrev pub value_line : ℕ → List ℕ → Bool
value_line names line = eqb (length (fields_of line)) names && every is_value (fields_of line)

-- how many pieces pass a test
abbrev pub tally : (List ℕ → Bool) → List (List ℕ) → ℕ
tally test [] = 0
tally test (piece ∷ pieces) = cond (test piece) 1 0 + tally test pieces

-- ---- the names of a line, against a table of required names and of groups of names

-- how many of these are this name
abbrev pub occurs : List ℕ → List (List ℕ) → ℕ
occurs name fields = tally (λ field. same field name) fields

-- a name stands so often
abbrev pub standing : ℕ → List (List ℕ) → List ℕ → Bool
standing times fields name = eqb (occurs name fields) times

-- all names of a group stand, each once, or none does: a name that may be missing is a group of its own
abbrev pub together : List (List ℕ) → List (List ℕ) → Bool
together fields group = every (standing 1 fields) group || every (standing 0 fields) group

-- a field is one of these names, or of a group
abbrev pub known : List (List ℕ) → List (List (List ℕ)) → List ℕ → Bool
known names [] field = leb 1 (occurs field names)
known names (group ∷ groups) field = leb 1 (occurs field names) || known group groups field

-- each required name once, of each group all or none, and no other
abbrev pub named : List (List ℕ) → List (List (List ℕ)) → List (List ℕ) → Bool
named required groups fields = every (standing 1 fields) required && every (together fields) groups && every (known required groups) fields

-- the value under a name, the first where the name stands more than once
abbrev pub under : List ℕ → List (List ℕ) → List (List ℕ) → Value
under name [] values = Malformed
under name (field ∷ fields) [] = Malformed
under name (field ∷ fields) (value ∷ values) = cond (same field name) (value_of value) (under name fields values)

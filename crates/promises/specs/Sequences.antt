-- The names of a line are those of a table in some sequence (specification 11): the first stands somewhere, and the others are what is left, in some sequence.
use Rattle.std.specs.Prelude.{◌≡◌, List, [], ◌∷◌, ◌++◌, ℕ}

abbrev pub InSomeSequence : List (List ℕ) → List (List ℕ) → Type 0
InSomeSequence [] fields = fields ≡ []
InSomeSequence (name ∷ names) fields =
    (before : List (List ℕ)) × (after : List (List ℕ)) × (fields ≡ before ++ name ∷ after) × InSomeSequence names (before ++ after)

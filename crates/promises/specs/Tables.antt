-- A text of two tables as a writer makes it (specification 11): names and values joined by commas, lines closed by line ends, an empty line between the tables.
use Rattle.std.specs.Prelude.{◌≡◌, true, ◌&&◌, List, [], ◌∷◌, map, ℕ, ◌≤◌, ◌<◌, eqb, length}
use Rattle.lists.specs.Every.{every}
use Rattle.tabletext.specs.Values.{is_name, is_value}
use Rattle.casetext.specs.Form.{most_bytes}
use Rattle.writing.specs.Writing.{joined, closing}

-- one or more names, and rows of as many values
pub record IsTable (names : List (List ℕ)) (rows : List (List (List ℕ))) : Type 0 where
  pub some : 0 < length names
  pub named : every is_name names ≡ true
  pub filled : every (λ row. eqb (length row) (length names) && every is_value row) rows ≡ true

pub record TwoTables (text : List ℕ) : Type 0 where
  pub names : List (List ℕ)
  pub values : List (List ℕ)
  pub price-names : List (List ℕ)
  pub price-rows : List (List (List ℕ))
  pub unit-table : IsTable names (values ∷ [])
  pub price-table : IsTable price-names price-rows
  pub is : text ≡ closing (joined names ∷ joined values ∷ [] ∷ joined price-names ∷ map joined price-rows)
  pub short : length text ≤ most_bytes

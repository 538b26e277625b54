-- What a walk over pieces finds: how many pass a test, and the value under a name.
use Rattle.std.proofs.Common.{Option, Some, None}
use mathlib.Core.Path.{◌≡◌, refl}
use mathlib.Core.Bool.{Bool, true, false, ◌||◌, cond}
use mathlib.Core.List.{List, [], ◌∷◌}
use Prim.Native.Nat.{ℕ, suc, ◌+◌, ◌≤◌}
use native.Mathlib.Omega.{arith}
use lib.Dec.{leb}
use lib.ListN.{length}
use borrow.Author.Tests.{le-leb}
use Rattle.std.specs.List.{filter, find, list_any, zip}
use Rattle.tabletext.specs.declared.Class.TheVariants.{Comma, LineEnd}
use Rattle.tabletext.specs.declared.Value.{Value}
use Rattle.tabletext.specs.declared.Value.TheVariants.{Malformed}
use Rattle.tabletext.specs.Bytes.{is_of, same}
use Rattle.tabletext.specs.Pieces.{onto, fields_of, lines_of}
use Rattle.tabletext.specs.Tables.{tally, occurs, under}
use Rattle.tabletext.specs.Values.{value_of}

-- ---- how many pieces there are

onto-few : (b n : ℕ) (pieces : List (List ℕ)) → length pieces ≤ n + 1 → length (onto b pieces) ≤ suc n + 1
onto-few b n [] h = omega arith
onto-few b n (piece ∷ pieces) h = omega (arith, h)

pub fields_few : (s : List ℕ) → length (fields_of s) ≤ length s + 1
fields_few [] = omega arith
fields_few (b ∷ bs) = go (is_of Comma b) refl (fields_few bs)
  where
    go : (t : Bool) → is_of Comma b ≡ t → length (fields_of bs) ≤ length bs + 1 → length (fields_of (b ∷ bs)) ≤ suc (length bs) + 1
    go true e below = rw e (omega (arith, below))
    go false e below = rw e (onto-few b (length bs) (fields_of bs) below)

onto-less : (b n : ℕ) (pieces : List (List ℕ)) → length pieces ≤ n → length (onto b pieces) ≤ suc n
onto-less b n [] h = omega arith
onto-less b n (piece ∷ pieces) h = omega (arith, h)

pub lines_few : (s : List ℕ) → length (lines_of s) ≤ length s
lines_few [] = omega arith
lines_few (b ∷ bs) = go (is_of LineEnd b) refl (lines_few bs)
  where
    go : (t : Bool) → is_of LineEnd b ≡ t → length (lines_of bs) ≤ length bs → length (lines_of (b ∷ bs)) ≤ suc (length bs)
    go true e below = rw e (omega (arith, below))
    go false e below = rw e (onto-less b (length bs) (lines_of bs) below)

-- ---- how many pieces pass a test

-- what a piece adds to a count
abbrev pub weight : Bool → ℕ
weight t = cond t 1 0

one_at_most : (t : Bool) → weight t ≤ 1
one_at_most true = omega arith
one_at_most false = omega arith

pub tally-most : (test : List ℕ → Bool) (xs : List (List ℕ)) → tally test xs ≤ length xs
tally-most test [] = omega arith
tally-most test (x ∷ xs) = omega (arith, one_at_most (test x), tally-most test xs)

pub tally-filter : (test : List ℕ → Bool) (xs : List (List ℕ)) → length (filter test xs) ≡ tally test xs
tally-filter test [] = refl
tally-filter test (x ∷ xs) = go (test x) refl (tally-filter test xs)
  where
    go : (t : Bool) → test x ≡ t → length (filter test xs) ≡ tally test xs → length (filter test (x ∷ xs)) ≡ tally test (x ∷ xs)
    go true e below = rw e (omega (arith, below))
    go false e below = rw e (omega (arith, below))

some : (t : Bool) (n : ℕ) (below : Bool) → below ≡ leb 1 n → t || below ≡ leb 1 (weight t + n)
some true n below e = rw (le-leb 1 (1 + n) (omega arith))
some false n below e = let k : 0 + n ≡ n = omega arith in rw (k, e)

-- a name occurs where any field is it
pub any_occurs : (name : List ℕ) (fields : List (List ℕ)) → list_any (λ field. same field name) fields ≡ leb 1 (occurs name fields)
any_occurs name [] = refl
any_occurs name (field ∷ fields) = some (same field name) (occurs name fields) (list_any (λ f. same f name) fields) (any_occurs name fields)

-- ---- the value under a name

abbrev pub found_value : Option (List ℕ × List ℕ) → Value
found_value None = Malformed
found_value (Some pair) = value_of pair.1

pub find_under : (name : List ℕ) (names values : List (List ℕ)) → found_value (find (λ pair. same pair.0 name) (zip names values)) ≡ under name names values
find_under name [] values = refl
find_under name (field ∷ fields) [] = refl
find_under name (field ∷ fields) (value ∷ values) = go (same field name) (find_under name fields values)
  where
    go : (t : Bool) → found_value (find (λ pair. same pair.0 name) (zip fields values)) ≡ under name fields values
        → found_value (cond t (Some (field, value)) (find (λ pair. same pair.0 name) (zip fields values))) ≡ cond t (value_of value) (under name fields values)
    go true below = refl
    go false below = below

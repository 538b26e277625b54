-- A table of names, as its text is walked: groups are lines of names.
use mathlib.Core.Path.{◌≡◌, refl, ap}
use mathlib.Core.Bool.{Bool, ◌&&◌, ◌||◌, or-false}
use mathlib.Core.List.{List, [], ◌∷◌, map}
use Prim.Native.Nat.{ℕ}
use lib.Dec.{leb}
use Rattle.std.specs.List.{list_any}
use Rattle.lists.specs.Every.{every}
use Rattle.tabletext.specs.Pieces.{fields_of}
use Rattle.tabletext.specs.Tables.{occurs, known}

pub every_map : {A B : Type 0} (test : B → Bool) (f : A → B) (xs : List A) → every (λ x. test (f x)) xs ≡ every test (map f xs)
every_map test f [] = refl
every_map test f (x ∷ xs) = ap (λ (t : Bool). test (f x) && t) (every_map test f xs)

-- a name is a required one, or one of a group
pub known_by : (names : List (List ℕ)) (groups : List (List ℕ)) (field : List ℕ)
    → leb 1 (occurs field names) || list_any (λ group. leb 1 (occurs field (fields_of group))) groups ≡ known names (map fields_of groups) field
known_by names [] field = or-false (leb 1 (occurs field names))
known_by names (group ∷ groups) field = ap (λ (t : Bool). leb 1 (occurs field names) || t) (known_by (fields_of group) groups field)

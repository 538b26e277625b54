-- The names of a text's first table tell its permit: with the four of a date it is a date and a word, without them every hour.
use Rattle.std.specs.Prelude.{None, Some}
use mathlib.Core.Path.{◌≡◌, refl, ap, ◌∙◌}
use mathlib.Core.Bool.{Bool, true, false, cond}
use mathlib.Core.List.{List, [], ◌++◌}
use mathlib.Core.Logic.{⊎_elim}
use Prim.Native.Nat.{ℕ}
use native.Mathlib.Omega.{arith}
use lib.Dec.{eqb}
use Rattle.commitment.specs.Types.{Permit}
use Rattle.lists.specs.Every.{every}
use Rattle.tabletext.specs.Tables.{standing, named}
use Rattle.casetext.specs.Names.{year_name, unit_names, dated_names, unit_groups}
use Rattle.casefile.specs.Reading.{window_of, permit_of}
use Rattle.writing.specs.Writing.{names_for}
use Rattle.writing.proofs.Sequences.{Named, names-are, none_of}
use Rattle.writing.proofs.Groups.{with-group, without-group, group-cases}

-- whether a permit has a date
abbrev pub dated : Permit → Bool
dated None = false
dated (Some w) = true

-- a test of the names, with the four and without them
pub every-name : (test : List ℕ → Bool) → every test unit_names ≡ true → every test (unit_names ++ dated_names) ≡ true
    → (p : Permit) → every test (names_for p) ≡ true
every-name test plain with-date None = plain
every-name test plain with-date (Some w) = with-date

module _ (names : List (List ℕ)) where
  pub year-tells : (p : Permit) → Named (names_for p) names → standing 1 names year_name ≡ dated p
  year-tells None n = ap (λ (k : ℕ). eqb k 1) (none_of unit_names [] names n.no_other year_name refl)
  year-tells (Some w) n = ap (λ (k : ℕ). eqb k 1) (n.once 13 (omega arith))

  -- the names are those of the permit that is read
  pub named-for : (values : List (List ℕ)) → named unit_names unit_groups names ≡ true → named (names_for (permit_of names values)) [] names ≡ true
  named-for values e =
      ⊎_elim
      (λ (plain : named unit_names [] names ≡ true). by false (year-tells None (names-are unit_names names plain)) plain)
      (λ (all : named (unit_names ++ dated_names) [] names ≡ true).
      by true (year-tells (Some (window_of names values)) (names-are (unit_names ++ dated_names) names all)) all)
      (group-cases unit_names dated_names [] names e)
    where
      by : (t : Bool) → standing 1 names year_name ≡ t → named (names_for (cond t (Some (window_of names values)) None)) [] names ≡ true
          → named (names_for (permit_of names values)) [] names ≡ true
      by t s n = ap (λ (t : Bool). named (names_for (cond t (Some (window_of names values)) None)) [] names) s ∙ n

  -- and those of a permit are names of a text
  pub unit-named : (p : Permit) → named (names_for p) [] names ≡ true → named unit_names unit_groups names ≡ true
  unit-named None e = without-group unit_names dated_names [] names refl e
  unit-named (Some w) e = with-group unit_names dated_names [] names e

-- The names of a text are kept exactly when they are those of their tables in some sequence: both say that each name occurs as often as in its table.
use mathlib.Core.Path.{◌≡◌, refl, sym, ap, ap₂, ◌∙◌}
use mathlib.Core.Bool.{Bool, true, false, ◌&&◌}
use mathlib.Core.List.{List, [], ◌∷◌, ◌++◌}
use mathlib.Core.Logic.{◌↔◌, ◌⊎◌, ⊎_elim, ⊎_map}
use Prim.Native.Nat.{ℕ, ◌≤◌}
use native.Mathlib.Omega.{arith}
use borrow.Author.Tests.{leb-true, leb-false, le-leb, eqb-true, eq-eqb}
use lib.Dec.{leb, eqb}
use Rattle.lists.specs.Every.{every}
use Rattle.lists.proofs.Conjunctions.{both}
use Rattle.tabletext.specs.Bytes.{same}
use Rattle.tabletext.specs.Pieces.{fields_of}
use Rattle.tabletext.specs.Tables.{occurs, standing, known, named}
use Rattle.tabletext.proofs.Alike.{same_refl, same-eq}
use Rattle.tabletext.proofs.Walks.{weight}
use Rattle.casetext.specs.Names.{unit_names, dated_names, unit_groups, price_names}
use Rattle.casetext.specs.Form.{unit_head, price_head, names_kept}
use Rattle.writing.proofs.Sequences.{of-table, every_of, Parts, parts-of, of_parts, none_of}
use Rattle.writing.proofs.Groups.{occurs-append, with-group, without-group, group-cases}
use Rattle.promises.specs.Sequences.{InSomeSequence}

-- ---- a sequence by its counts

as-often : (names fields : List (List ℕ)) → InSomeSequence names fields → (name : List ℕ) → occurs name fields ≡ occurs name names
as-often [] fields s name = ap (occurs name) s
as-often (first ∷ names) fields s name =
    omega
    (arith, ap (occurs name) s.2, occurs-append name s.0 (first ∷ s.1), occurs-append name s.0 s.1, as-often names (s.0 ++ s.1) s.3 name)

split : (name : List ℕ) (fields : List (List ℕ)) → 1 ≤ occurs name fields
    → (before : List (List ℕ)) × (after : List (List ℕ)) × (fields ≡ before ++ name ∷ after)
split name [] h = absurd (omega (arith, h))
split name (field ∷ fields) h = by (same field name) refl (split name fields)
  where
    by : (t : Bool) → same field name ≡ t
        → (1 ≤ occurs name fields → (before : List (List ℕ)) × (after : List (List ℕ)) × (fields ≡ before ++ name ∷ after))
        → (before : List (List ℕ)) × (after : List (List ℕ)) × (field ∷ fields ≡ before ++ name ∷ after)
    by true e below = ([], fields, ap (λ (l : List ℕ). l ∷ fields) (same-eq field name e))
    by false e below =
        let f = below (omega (arith, ap weight e, h)) in
        (field ∷ f.0, f.1, ap (λ (l : List (List ℕ)). field ∷ l) f.2)

in-sequence : (names fields : List (List ℕ)) → ((name : List ℕ) → occurs name fields ≡ occurs name names) → InSomeSequence names fields
in-sequence [] [] h = refl
in-sequence [] (field ∷ fields) h = absurd (omega (arith, h field, ap weight (same_refl field)))
in-sequence (first ∷ names) fields h =
    let f = split first fields (omega (arith, h first, ap weight (same_refl first))) in (
      f.0,
      f.1,
      f.2,
      in-sequence names (f.0 ++ f.1)
          (λ name. omega (arith, h name, ap (occurs name) f.2, occurs-append name f.0 (first ∷ f.1), occurs-append name f.0 f.1)),
    )

-- ---- the test by counts

-- a table in which each name stands once
abbrev Distinct : List (List ℕ) → Type 0
Distinct names = every (λ name. eqb (occurs name names) 1) names ≡ true

module _ (names fields : List (List ℕ)) (distinct : Distinct names) where
  once : (name : List ℕ) → 1 ≤ occurs name names → occurs name names ≡ 1
  once name some = eqb-true (occurs name names) 1 (of-table (λ x. eqb (occurs x names) 1) names name distinct some)

  named-often : named names [] fields ≡ true → (name : List ℕ) → occurs name fields ≡ occurs name names
  named-often e name = by (leb 1 (occurs name names)) refl (parts-of names [] fields e)
    where
      by : (t : Bool) → leb 1 (occurs name names) ≡ t → Parts names [] fields → occurs name fields ≡ occurs name names
      by true e p =
          let some = leb-true 1 (occurs name names) e in
          eqb-true (occurs name fields) 1 (of-table (standing 1 fields) names name p.each some) ∙ sym (once name some)
      by false e p = omega (arith, leb-false 1 (occurs name names) e, none_of names [] fields p.no_other name e)

  often-named : ((name : List ℕ) → occurs name fields ≡ occurs name names) → named names [] fields ≡ true
  often-named h =
      of_parts names [] fields
      (record {
        each = every_of (standing 1 fields) names (λ name some. eq-eqb (occurs name fields) 1 (h name ∙ once name some));
        grouped = refl;
        no_other = every_of (known names []) fields (λ name some. le-leb 1 (occurs name names) (omega (arith, h name, some)));
      })

  named-exactly : (named names [] fields ≡ true) ↔ InSomeSequence names fields
  named-exactly = (λ e. in-sequence names fields (named-often e), λ s. often-named (as-often names fields s))

-- ---- of a text

-- all four of the date and its word, or none
unit-exactly : (head : List (List ℕ))
    → (named unit_names unit_groups head ≡ true) ↔ (InSomeSequence unit_names head ⊎ InSomeSequence (unit_names ++ dated_names) head)
unit-exactly head =
    let plain = named-exactly unit_names head refl in
    let dated = named-exactly (unit_names ++ dated_names) head refl in (
      λ e. ⊎_map plain.0 dated.0 (group-cases unit_names dated_names [] head e),
      λ s.
          ⊎_elim (λ (one : InSomeSequence unit_names head). without-group unit_names dated_names [] head refl (plain.1 one))
          (λ (all : InSomeSequence (unit_names ++ dated_names) head). with-group unit_names dated_names [] head (dated.1 all))
          s,
    )

pub names-exactly : (text : List ℕ)
    → (names_kept text ≡ true)
    ↔ ((InSomeSequence unit_names (fields_of (unit_head text)) ⊎ InSomeSequence (unit_names ++ dated_names) (fields_of (unit_head text)))
    × InSomeSequence price_names (fields_of (price_head text)))
unfolding names_kept
names-exactly text =
    let head = fields_of (unit_head text) in
    let unit = unit-exactly head in
    let price = named-exactly price_names (fields_of (price_head text)) refl in (
      λ e.
          let p = both (named unit_names unit_groups head) (named price_names [] (fields_of (price_head text))) e in
          (unit.0 p.0, price.0 p.1),
      λ s. ap₂ ◌&&◌ (unit.1 s.0) (price.1 s.1),
    )

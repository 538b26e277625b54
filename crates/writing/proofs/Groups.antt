-- A group of names stands whole or not at all: a line has the names of a table exactly when it has them with the group among the required names,
-- or without the group.
use mathlib.Core.Path.{◌≡◌, refl, sym, ap, ap₂, ◌∙◌}
use mathlib.Core.Bool.{Bool, true, false, ◌&&◌, ◌||◌, not, and_assoc, or-true, or-false, or_assoc}
use mathlib.Core.List.{List, [], ◌∷◌, ◌++◌}
use mathlib.Core.Logic.{◌⊎◌, inl, inr}
use Prim.Native.Nat.{ℕ, zero, suc, ◌+◌, ◌≤◌}
use native.Mathlib.Omega.{arith}
use lib.Dec.{leb}
use borrow.Author.Tests.{leb-true, le-leb, eq-eqb, eqb-true, not-true}
use Rattle.lists.specs.Every.{every}
use Rattle.lists.proofs.Conjunctions.{both}
use Rattle.tabletext.specs.Tables.{occurs, standing, together, known, named}
use Rattle.writing.proofs.Sequences.{of-table, every_of, Parts, parts-of, of_parts, none_of}

pub occurs-append : (name : List ℕ) (xs ys : List (List ℕ)) → occurs name (xs ++ ys) ≡ occurs name xs + occurs name ys
occurs-append name [] ys = omega arith
occurs-append name (x ∷ xs) ys = omega (arith, occurs-append name xs ys)

every_append : (test : List ℕ → Bool) (xs ys : List (List ℕ)) → every test (xs ++ ys) ≡ every test xs && every test ys
every_append test [] ys = refl
every_append test (x ∷ xs) ys =
    ap (λ (t : Bool). test x && t) (every_append test xs ys) ∙ sym (and_assoc (test x) (every test xs) (every test ys))

some-of-two : (m n : ℕ) → leb 1 (m + n) ≡ leb 1 m || leb 1 n
some-of-two zero n =
    let e : 0 + n ≡ n = omega arith in
    ap (leb 1) e
some-of-two (suc m) n = rw (le-leb 1 (suc m + n) (omega arith), le-leb 1 (suc m) (omega arith))

module _ (required group : List (List ℕ)) where
  -- a field is known whether the group stands beside the required names or among them
  known_among : (groups : List (List (List ℕ))) (field : List ℕ) → known (required ++ group) groups field ≡ known required (group ∷ groups) field
  known_among groups field = go groups (ap (leb 1) (occurs-append field required group) ∙ some-of-two (occurs field required) (occurs field group))
    where
      go : (groups : List (List (List ℕ))) → leb 1 (occurs field (required ++ group)) ≡ leb 1 (occurs field required) || leb 1 (occurs field group)
          → known (required ++ group) groups field ≡ known required (group ∷ groups) field
      go [] e = e
      go (next ∷ groups) e =
          ap (λ (t : Bool). t || known next groups field) e ∙ or_assoc (leb 1 (occurs field required)) (leb 1 (occurs field group)) (known next groups field)

  -- and a group that it is not of makes no difference
  known-besides : (groups : List (List (List ℕ))) (field : List ℕ) → leb 1 (occurs field group) ≡ false
      → known required (group ∷ groups) field ≡ known required groups field
  known-besides [] field e = ap (λ (t : Bool). leb 1 (occurs field required) || t) e ∙ or-false (leb 1 (occurs field required))
  known-besides (next ∷ groups) field e = ap (λ (t : Bool). leb 1 (occurs field required) || (t || known next groups field)) e

module _ (required group : List (List ℕ)) (groups : List (List (List ℕ))) (fields : List (List ℕ)) where
  abbrev wider : List ℕ → Bool
  wider = known required (group ∷ groups)

  -- of a group that does not stand no field is a name
  apart : every (standing 0 fields) group ≡ true → (field : List ℕ) → 1 ≤ occurs field fields → wider field ≡ known required groups field
  apart none field some = go (leb 1 (occurs field group)) refl
    where
      go : (t : Bool) → leb 1 (occurs field group) ≡ t → wider field ≡ known required groups field
      go true e =
          let missing = of-table (standing 0 fields) group field none (leb-true 1 (occurs field group) e) in
          absurd (omega (arith, some, eqb-true (occurs field fields) 0 missing))
      go false e = known-besides required group groups field e

  -- a test that agrees with another at every field is passed where that is
  alike : (p q : List ℕ → Bool) → ((field : List ℕ) → 1 ≤ occurs field fields → p field ≡ q field) → every p fields ≡ true → every q fields ≡ true
  alike p q same_at e = every_of q fields (λ field some. sym (same_at field some) ∙ of-table p fields field e some)

  pub with-group : named (required ++ group) groups fields ≡ true → named required (group ∷ groups) fields ≡ true
  with-group e =
      let p = parts-of (required ++ group) groups fields e in
      let q = both (every (standing 1 fields) required) _ (sym (every_append (standing 1 fields) required group) ∙ p.each) in
      of_parts required (group ∷ groups) fields
      (record {
        each = q.0;
        grouped = ap₂ ◌&&◌ (ap (λ (t : Bool). t || every (standing 0 fields) group) q.1) p.grouped;
        no_other = alike (known (required ++ group) groups) wider (λ field some. known_among required group groups field) p.no_other;
      })

  -- where no name of the group is another's
  pub without-group : every (λ name. not (known required groups name)) group ≡ true → named required groups fields ≡ true
      → named required (group ∷ groups) fields ≡ true
  without-group own e =
      let p = parts-of required groups fields e in
      let none = every_of (standing 0 fields) group (absent p.no_other) in
      of_parts required (group ∷ groups) fields
      (record {
        each = p.each;
        grouped = ap₂ ◌&&◌ (ap (λ (t : Bool). every (standing 1 fields) group || t) none ∙ or-true (every (standing 1 fields) group)) p.grouped;
        no_other = alike (known required groups) wider (λ field some. sym (apart none field some)) p.no_other;
      })
    where
      absent : every (known required groups) fields ≡ true → (name : List ℕ) → 1 ≤ occurs name group → standing 0 fields name ≡ true
      absent k name some =
          eq-eqb (occurs name fields) 0
          (none_of required groups fields k name (not-true _ (of-table (λ name. not (known required groups name)) group name own some)))

  pub group-cases : named required (group ∷ groups) fields ≡ true
      → (named required groups fields ≡ true) ⊎ (named (required ++ group) groups fields ≡ true)
  group-cases e =
      let p = parts-of required (group ∷ groups) fields e in
      by p (both (together fields group) (every (together fields) groups) p.grouped) (every (standing 1 fields) group) refl
    where
      by : Parts required (group ∷ groups) fields → (together fields group ≡ true) × (every (together fields) groups ≡ true)
          → (t : Bool) → every (standing 1 fields) group ≡ t → (named required groups fields ≡ true) ⊎ (named (required ++ group) groups fields ≡ true)
      by p q true all =
          inr
          (of_parts (required ++ group) groups fields
          (record {
            each = every_append (standing 1 fields) required group ∙ ap₂ ◌&&◌ p.each all;
            grouped = q.1;
            no_other = alike wider (known (required ++ group) groups) (λ field some. sym (known_among required group groups field)) p.no_other;
          }))
      by p q false part =
          let none : every (standing 0 fields) group ≡ true = sym (ap (λ (t : Bool). t || every (standing 0 fields) group) part) ∙ q.0 in
          inl
          (of_parts required groups fields
          (record { each = p.each; grouped = q.1; no_other = alike wider (known required groups) (apart none) p.no_other }))

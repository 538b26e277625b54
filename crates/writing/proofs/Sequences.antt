-- A line whose names are those of its table, in any sequence: each name stands once, and every field is a name of the table.
use mathlib.Core.Path.{◌≡◌, refl, sym, ap, ap₂, ◌∙◌}
use mathlib.Core.Bool.{Bool, true, false, ◌&&◌, false≢true}
use mathlib.Core.List.{List, [], ◌∷◌}
use Prim.Native.Nat.{ℕ, suc, ◌+◌, ◌≤◌, ◌<◌}
use native.Mathlib.Omega.{arith}
use lib.Dec.{leb}
use lib.ListN.{length, get_or}
use borrow.Author.Tests.{leb-true, leb-false, eqb-true}
use Rattle.lists.specs.Every.{every}
use Rattle.lists.proofs.Conjunctions.{both}
use Rattle.lists.proofs.Every.{every-at}
use Rattle.tabletext.specs.Bytes.{same}
use Rattle.tabletext.specs.Tables.{occurs, standing, together, known, named}
use Rattle.tabletext.proofs.Alike.{same_refl, same-eq}
use Rattle.tabletext.proofs.Walks.{weight, tally-most}

-- ---- a test of every name is a test of each that occurs

module _ (test : List ℕ → Bool) where
  pub of-table : (table : List (List ℕ)) (name : List ℕ) → every test table ≡ true → 1 ≤ occurs name table → test name ≡ true
  of-table [] name h o = absurd (omega (arith, o))
  of-table (entry ∷ table) name h o = go (same entry name) refl (both (test entry) (every test table) h) (of-table table name)
    where
      go : (t : Bool) → same entry name ≡ t → (test entry ≡ true) × (every test table ≡ true)
          → (every test table ≡ true → 1 ≤ occurs name table → test name ≡ true) → test name ≡ true
      go true e p below = ap test (sym (same-eq entry name e)) ∙ p.0
      go false e p below = below p.1 (omega (arith, ap weight e, o))

  pub every_of : (table : List (List ℕ)) → ((name : List ℕ) → 1 ≤ occurs name table → test name ≡ true) → every test table ≡ true
  every_of [] h = refl
  every_of (entry ∷ table) h =
      ap₂ ◌&&◌ (h entry (omega (arith, ap weight (same_refl entry)))) (every_of table (λ name some. h name (omega (arith, some))))

-- ---- the three parts of the test

pub record Parts (required : List (List ℕ)) (groups : List (List (List ℕ))) (fields : List (List ℕ)) : Type 0 where
  pub each : every (standing 1 fields) required ≡ true
  pub grouped : every (together fields) groups ≡ true
  pub no_other : every (known required groups) fields ≡ true

module _ (required : List (List ℕ)) (groups : List (List (List ℕ))) (fields : List (List ℕ)) where
  pub parts-of : named required groups fields ≡ true → Parts required groups fields
  parts-of e =
      let p = both (every (standing 1 fields) required && every (together fields) groups) (every (known required groups) fields) e in
      let q = both (every (standing 1 fields) required) (every (together fields) groups) p.0 in
      record { each = q.0; grouped = q.1; no_other = p.1 }

  pub of_parts : Parts required groups fields → named required groups fields ≡ true
  of_parts p = ap₂ ◌&&◌ (ap₂ ◌&&◌ p.each p.grouped) p.no_other

  -- a name of no table is no field
  pub none_of : every (known required groups) fields ≡ true → (name : List ℕ) → known required groups name ≡ false → occurs name fields ≡ 0
  none_of k name unknown = go (leb 1 (occurs name fields)) refl
    where
      go : (t : Bool) → leb 1 (occurs name fields) ≡ t → occurs name fields ≡ 0
      go true e = absurd (false≢true (sym unknown ∙ of-table (known required groups) fields name k (leb-true 1 (occurs name fields) e)))
      go false e = omega (arith, leb-false 1 (occurs name fields) e)

-- ---- names without groups

pub record Named (names fields : List (List ℕ)) : Type 0 where
  pub once : (k : ℕ) → k < length names → occurs (get_or names k []) fields ≡ 1
  pub no_other : every (known names []) fields ≡ true

module _ (names fields : List (List ℕ)) where
  pub names-are : named names [] fields ≡ true → Named names fields
  names-are e =
      let p = parts-of names [] fields e in
      record { once = λ k h. eqb-true _ 1 (every-at (standing 1 fields) [] names k p.each h); no_other = p.no_other }

  -- there is a field where there is a name
  pub some-name : Named names fields → 0 < length names → 0 < length fields
  some-name n h = omega (arith, n.once 0 h, tally-most (λ field. same field (get_or names 0 [])) fields)

  -- what holds of each name holds of every field
  pub of-names : (test : List ℕ → Bool) → every test names ≡ true → every (known names []) fields ≡ true → every test fields ≡ true
  of-names test h k =
      every_of test fields
      (λ name some. of-table test names name h (leb-true 1 (occurs name names) (of-table (known names []) fields name k some)))

-- ---- a table of one name

pub all-this : (name : List ℕ) (fields : List (List ℕ)) → every (known (name ∷ []) []) fields ≡ true → occurs name fields ≡ length fields
all-this name [] k = refl
all-this name (field ∷ fields) k = go (same name field) refl (both (known (name ∷ []) [] field) _ k) (all-this name fields)
  where
    go : (t : Bool) → same name field ≡ t → (known (name ∷ []) [] field ≡ true) × (every (known (name ∷ []) []) fields ≡ true)
        → (every (known (name ∷ []) []) fields ≡ true → occurs name fields ≡ length fields) → occurs name (field ∷ fields) ≡ suc (length fields)
    go true e p below =
        let s : same field name ≡ true = ap (λ (l : List ℕ). same field l) (same-eq name field e) ∙ same_refl field in
        omega (arith, ap weight s, below p.1)
    go false e p below = absurd (false≢true (sym (ap (λ (t : Bool). leb 1 (weight t + 0)) e) ∙ p.0))

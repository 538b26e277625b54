-- The place of a name in a line of names, and what stands below it.
use mathlib.Core.Path.{◌≡◌, refl, sym, ap, ◌∙◌}
use mathlib.Core.Bool.{Bool, true, false, cond, false≢true}
use mathlib.Core.List.{List, [], ◌∷◌}
use Prim.Native.Nat.{ℕ, zero, suc, ◌<◌}
use native.Mathlib.Omega.{arith}
use lib.ListN.{length, get_or}
use Rattle.tabletext.specs.Bytes.{same}
use Rattle.tabletext.specs.Tables.{occurs, under}
use Rattle.tabletext.specs.Values.{value_of}
use Rattle.tabletext.proofs.Alike.{same_refl, same-eq}
use Rattle.tabletext.proofs.Walks.{weight}
use Rattle.writing.specs.AsWritten.{StandsUnder, StandsNowhere}

alike : (field name : List ℕ) → field ≡ name → same field name ≡ true
alike field name e = ap (λ (s : List ℕ). same s name) e ∙ same_refl name

-- a name that does not occur stands nowhere
pub nowhere : (name : List ℕ) (fields : List (List ℕ)) → occurs name fields ≡ 0 → StandsNowhere fields name
nowhere name [] z i h e = omega (arith, h)
nowhere name (field ∷ fields) z zero h e = omega (arith, ap weight (alike field name e), z)
nowhere name (field ∷ fields) z (suc i) h e = nowhere name fields (omega (arith, z)) i (omega arith) e

-- a name that occurs once has its value under it
pub stands : (name : List ℕ) (names values : List (List ℕ)) → occurs name names ≡ 1 → length values ≡ length names
    → StandsUnder names values name (under name names values)
stands name [] values o l = absurd (omega (arith, o))
stands name (field ∷ fields) [] o l = absurd (omega (arith, l))
stands name (field ∷ fields) (value ∷ values) o l = go (same field name) refl (stands name fields values)
  where
    go : (t : Bool) → same field name ≡ t
        → (occurs name fields ≡ 1 → length values ≡ length fields → StandsUnder fields values name (under name fields values))
        → StandsUnder (field ∷ fields) (value ∷ values) name (cond (same field name) (value_of value) (under name fields values))
    go true q below =
        record {
          place = 0;
          within = omega arith;
          named = same-eq field name q;
          holds = sym (ap (λ (t : Bool). cond t (value_of value) (under name fields values)) q);
          only = first;
        }
      where
        first : (i : ℕ) → i < suc (length fields) → get_or (field ∷ fields) i [] ≡ name → i ≡ 0
        first zero h e = refl
        first (suc i) h e = absurd (nowhere name fields (omega (arith, ap weight q, o)) i (omega arith) e)
    go false q below =
        let w = below (omega (arith, ap weight q, o)) (omega (arith, l)) in
        record {
          place = suc w.place;
          within = omega (arith, w.within);
          named = w.named;
          holds = w.holds ∙ sym (ap (λ (t : Bool). cond t (value_of value) (under name fields values)) q);
          only = later w;
        }
      where
        later : (w : StandsUnder fields values name (under name fields values)) (i : ℕ) → i < suc (length fields)
            → get_or (field ∷ fields) i [] ≡ name → i ≡ suc w.place
        later w zero h e = absurd (false≢true (sym q ∙ alike field name e))
        later w (suc i) h e = ap suc (w.only i (omega arith) e)

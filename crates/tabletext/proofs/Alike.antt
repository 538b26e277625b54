-- When two strings of bytes are alike.
use mathlib.Core.Path.{◌≡◌, refl, ap₂}
use mathlib.Core.Bool.{true, false≢true}
use mathlib.Core.List.{List, [], ◌∷◌}
use Prim.Native.Nat.{ℕ}
use lib.Dec.{eqb}
use borrow.Author.Tests.{eq-eqb, eqb-true}
use Rattle.lists.proofs.Conjunctions.{both}
use Rattle.tabletext.specs.Bytes.{same}

pub same_refl : (a : List ℕ) → same a a ≡ true
same_refl [] = refl
same_refl (a ∷ rest) = rw (eq-eqb a a refl, same_refl rest)

pub same-eq : (a b : List ℕ) → same a b ≡ true → a ≡ b
same-eq [] [] p = refl
same-eq [] (b ∷ bs) p = absurd (false≢true p)
same-eq (a ∷ rest) [] p = absurd (false≢true p)
same-eq (a ∷ rest) (b ∷ bs) p =
    let q = both (eqb a b) (same rest bs) p in
    ap₂ ◌∷◌ (eqb-true a b q.0) (same-eq rest bs q.1)

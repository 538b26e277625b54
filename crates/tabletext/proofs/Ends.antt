-- Where a piece ends: the first byte of a class.
use Rattle.std.proofs.Common.{◌≡◌, refl, sym, ap, ◌∙◌, Some, None}
use mathlib.Core.Bool.{Bool, true, false, cond}
use mathlib.Core.List.{List, [], ◌∷◌}
use Prim.Native.Nat.{ℕ, suc, ◌+◌, ◌≤◌, ◌<◌}
use native.Mathlib.Omega.{arith}
use lib.Dec.{ltb}
use lib.ListN.{length}
use borrow.Author.Tests.{ltb-true, ltb-false}
use Rattle.std.specs.List.{position, position_or_len}
use Rattle.std.proofs.lemmas.List.Recursion.{is_position_or_len}
use Rattle.tabletext.specs.declared.Class.{Class}
use Rattle.tabletext.specs.Bytes.{is_of}
use Rattle.tabletext.specs.Places.{end_of}

module _ (mark : Class) where
  pub end-is : (s : List ℕ) → end_of mark s ≡ position_or_len (is_of mark) s
  end-is s =
      let one_more : (n : ℕ) → suc n ≡ 1 + n = λ n. omega arith in
      is_position_or_len (end_of mark) (is_of mark) refl (λ b bs. ap (cond (is_of mark b) 0) (one_more (end_of mark bs))) s

  -- an end lies within
  pub end-within : (s : List ℕ) → end_of mark s ≤ length s
  end-within [] = omega arith
  end-within (b ∷ bs) = go (is_of mark b) refl (end-within bs)
    where
      go : (t : Bool) → is_of mark b ≡ t → end_of mark bs ≤ length bs → end_of mark (b ∷ bs) ≤ suc (length bs)
      go true e h = rw e (omega arith)
      go false e h = rw e (omega arith)

  -- it is where `position` finds it, or `position` finds none
  pub end_found : (s : List ℕ) (i : ℕ) → Some i ≡ position (is_of mark) s → (i ≡ end_of mark s) × (end_of mark s < length s)
  end_found s i e = go (ltb (position_or_len (is_of mark) s) (length s)) refl e
    where
      go : (t : Bool) → ltb (position_or_len (is_of mark) s) (length s) ≡ t → Some i ≡ cond t (Some (position_or_len (is_of mark) s)) None
          → (i ≡ end_of mark s) × (end_of mark s < length s)
      go true p q =
          let at : i ≡ position_or_len (is_of mark) s = cc in
          let within : position_or_len (is_of mark) s < length s = ltb-true _ _ p in
          (at ∙ sym (end-is s), omega (arith, end-is s))
      go false p q = cc

  pub end-missed : (s : List ℕ) → None ≡ position (is_of mark) s → length s ≤ end_of mark s
  end-missed s e = go (ltb (position_or_len (is_of mark) s) (length s)) refl e
    where
      go : (t : Bool) → ltb (position_or_len (is_of mark) s) (length s) ≡ t → None ≡ cond t (Some (position_or_len (is_of mark) s)) None
          → length s ≤ end_of mark s
      go true p q = cc
      go false p q = omega (arith, end-is s, ltb-false _ _ p)

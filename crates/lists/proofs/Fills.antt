-- Laws on lists that fills of slices need: one more element of what is left; a list filled from the front, one store a turn;
-- a part `&mut s[a..]` or `&mut s[a..e]` that was lent and has come back.
use mathlib.Core.Path.{◌≡◌, sym, ap, ◌∙◌}
use mathlib.Core.List.{List, [], ◌∷◌, ◌++◌, append_assoc, append-nil}
use Prim.Native.Nat.{ℕ, ◌+◌, ◌-◌, ◌≤◌, ◌<◌}
use native.Mathlib.Numerals.{add-one}
use native.Mathlib.Omega.{arith}
use lib.ListN.{length, get_or, set, take, drop, length-append, length-drop}
use lib.ListN.{take-append-drop, get_or-append}
use lib.Seq.{length-take-le, take_all, take-suc-set, drop-length, drop-cons, drop-drop, drop-set-lt}
use lib.Seq.{set_at, append_snoc, get_or-take, get_or-drop, get_or-append-add}
use borrow.Rule.Slice.PartMut.{put_mid, Post-is}

module _ {A : Type 0} where
  -- ---- one more element of what is left

  pub drop-next : (s : List A) (i : ℕ) (d : A) → i < length s → drop i s ≡ get_or s i d ∷ drop (i + 1) s
  drop-next s i d h = drop-cons s i d h ∙ ap (λ (k : ℕ). get_or s i d ∷ drop k s) (sym (add-one i))

  -- ---- a list filled from the front: `front`, as long as i says, and behind it what was there

  module _ (front s₀ : List A) (i : ℕ) (long : length front ≡ i) where
    pub fill-read : (k : ℕ) (d : A) → i ≤ k → get_or (front ++ drop i s₀) k d ≡ get_or s₀ k d
    fill-read k d h =
        let m : k ≡ length front + (k - i) = omega (arith, long) in
        let n : i + (k - i) ≡ k = omega arith in
        ap (λ (j : ℕ). get_or (front ++ drop i s₀) j d) m ∙ get_or-append-add front (drop i s₀) (k - i) d ∙ get_or-drop i s₀ (k - i) d ∙ ap (λ (j : ℕ). get_or s₀ j d) n

    -- the next store makes the front longer by one
    pub fill-next : (v : A) → i < length s₀ → set (front ++ drop i s₀) i v ≡ front ++ (v ∷ []) ++ drop (i + 1) s₀
    fill-next v h =
        ap (λ (t : List A). set (front ++ t) i v) (drop-next s₀ i v h) ∙ set_at front (get_or s₀ i v) (drop (i + 1) s₀) v i long
        ∙ sym (append_snoc front v (drop (i + 1) s₀))

  -- ---- the same fill where the front is `take i s` and what lies behind is as it was

  pub take_next : (s : List A) (i : ℕ) (v : A) → i < length s → take (i + 1) (set s i v) ≡ take i s ++ (v ∷ [])
  take_next s i v h = ap (λ (k : ℕ). take k (set s i v)) (add-one i) ∙ take-suc-set s i v h

  pub kept_next : (s s₀ : List A) (i : ℕ) (v : A) → drop i s ≡ drop i s₀ → drop (i + 1) (set s i v) ≡ drop (i + 1) s₀
  kept_next s s₀ i v e = drop-set-lt (i + 1) s i v (omega arith) ∙ sym (drop-drop 1 i s) ∙ ap (drop 1) e ∙ drop-drop 1 i s₀

  pub kept_whole : (s s₀ : List A) (i : ℕ) → drop i s ≡ drop i s₀ → s ≡ take i s ++ drop i s₀
  kept_whole s s₀ i e = sym (take-append-drop i s) ∙ ap (λ (t : List A). take i s ++ t) e

  -- ---- a part from a to the end, lent and back: `take a s ++ ys`

  -- what is lent
  pub tail-part : (a : ℕ) (s : List A) → take (length s - a) (drop a s) ≡ drop a s
  tail-part a s = take_all (length s - a) (drop a s) (omega (arith, length-drop a s))

  pub tail-back : (a : ℕ) (s ys : List A) → a ≤ length s → put_mid a (length s - a) s ys ≡ take a s ++ ys
  tail-back a s ys h =
      ap (λ (t : List A). take a s ++ (ys ++ t)) (Post-is a (length s) s h ∙ drop-length s) ∙ ap (λ (t : List A). take a s ++ t) (append-nil ys)

  module _ (a : ℕ) (s ys : List A) (fits : a ≤ length s) where
    pub tail-before : (i : ℕ) (d : A) → i < a → get_or (take a s ++ ys) i d ≡ get_or s i d
    tail-before i d h = get_or-append (take a s) ys d i (omega (arith, length-take-le a s fits)) ∙ get_or-take a s i d h

    pub tail-read : (i : ℕ) (d : A) → get_or (take a s ++ ys) (a + i) d ≡ get_or ys i d
    tail-read i d = ap (λ (n : ℕ). get_or (take a s ++ ys) (n + i) d) (sym (length-take-le a s fits)) ∙ get_or-append-add (take a s) ys i d

  -- ---- a part from a to e, lent and back: `take a s ++ (ys ++ drop e s)`; before a the laws of `tail-` hold

  module _ (a e : ℕ) (s ys : List A) (order : a ≤ e) (fits : e ≤ length s) (long : length ys ≡ e - a) where
    head-long : length (take a s ++ ys) ≡ e
    head-long = omega (arith, length-append (take a s) ys, length-take-le a s (omega arith), long)

    -- inside it is the part
    pub part-read : (i : ℕ) (d : A) → i < e - a → get_or (take a s ++ (ys ++ drop e s)) (a + i) d ≡ get_or ys i d
    part-read i d h = tail-read a s (ys ++ drop e s) (omega arith) i d ∙ get_or-append ys (drop e s) d i (omega (arith, long))

    -- from e on it is as it was
    pub part-after : (i : ℕ) (d : A) → e ≤ i → get_or (take a s ++ (ys ++ drop e s)) i d ≡ get_or s i d
    part-after i d h = ap (λ (t : List A). get_or t i d) (sym (append_assoc (take a s) ys (drop e s))) ∙ fill-read (take a s ++ ys) s e head-long i d h

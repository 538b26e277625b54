-- Some quarters of a horizon, by their prices; and a plan in its place of a schedule.
use mathlib.Core.Path.{◌≡◌, refl, sym, ap, ap₂, ◌∙◌}
use mathlib.Core.Bool.{Bool}
use mathlib.Core.List.{List, [], ◌∷◌, ◌++◌, append_assoc}
use Prim.Native.Nat.{ℕ, zero, suc, ◌+◌, ◌-◌, ◌≤◌, ◌<◌}
use native.Mathlib.Nat.{add-zero}
use native.Mathlib.Omega.{arith}
use lib.IntN.{ℤ, pos}
use lib.ListN.{length, get_or, take, drop, length-take, length-drop, length-append}
use lib.Seq.{get_or-take, get_or-drop, drop-drop, length-take-le, drop-append-add, take-append_seam}
use borrow.Rule.Slice.PartMut.{put_mid}
use Rattle.lists.proofs.Fills.{tail-back}
use Rattle.commitment.specs.Types.{Hours}
use Rattle.commitment.specs.Ranges.{Priced}
use Rattle.commitment.specs.Windows.{opens}
use Rattle.optimality.specs.Machine.{quarter, quarters_from}
use Rattle.layers.specs.Filling.{quarters_in, quarters_on, between}
use Rattle.halving.specs.Tasks.{Untouched}

-- ---- quarters

quarters-take : (opening : ℕ → Bool) (i n : ℕ) (prices : List ℤ) → take n (quarters_from opening i prices) ≡ quarters_from opening i (take n prices)
quarters-take opening i zero prices = refl
quarters-take opening i (suc n) [] = refl
quarters-take opening i (suc n) (price ∷ prices) = ap (◌∷◌ (quarter price (opening i))) (quarters-take opening (suc i) n prices)

quarters-drop : (opening : ℕ → Bool) (i n : ℕ) (prices : List ℤ) → drop n (quarters_from opening i prices) ≡ quarters_from opening (i + n) (drop n prices)
quarters-drop opening i zero prices = ap (λ (j : ℕ). quarters_from opening j prices) (sym (add-zero i))
quarters-drop opening i (suc n) [] = refl
quarters-drop opening i (suc n) (price ∷ prices) =
    quarters-drop opening (suc i) n prices ∙ ap (λ (j : ℕ). quarters_from opening j (drop n prices)) (omega arith)

-- the prices of some quarters
abbrev pub prices_of : List ℤ → ℕ → ℕ → List ℤ
prices_of prices from to = take (to - from) (drop from prices)

pub quarters-of : (hours : Hours) (prices : List ℤ) (from to : ℕ) → between (quarters_in hours prices) from to ≡ quarters_on hours from (prices_of prices from to)
quarters-of hours prices from to =
    ap (take (to - from)) (quarters-drop (opens hours) 0 from prices ∙ ap (λ (j : ℕ). quarters_from (opens hours) j (drop from prices)) (omega arith))
    ∙ quarters-take (opens hours) from (to - from) (drop from prices)

module _ (prices : List ℤ) (from to : ℕ) (ordered : from ≤ to) (inside : to ≤ length prices) where
  pub prices-long : length (prices_of prices from to) ≡ to - from
  prices-long = length-take (to - from) (drop from prices) ∙ (let d = length-drop from prices in omega (arith, d))

  pub prices-in-range : Priced prices → Priced (prices_of prices from to)
  prices-in-range priced i h =
      let l : i < to - from = omega (arith, h, prices-long) in
      rw (get_or-take (to - from) (drop from prices) i (pos 0) l, get_or-drop from prices i (pos 0)) (priced (from + i) (omega (arith, l)))

-- ---- schedules

module _ (was : List ℕ) (from to : ℕ) (ordered : from ≤ to) (inside : to ≤ length was) where
  -- the part from an interval on, its front written anew
  pub part-written : (part now written : List ℕ) → part ≡ drop from was → now ≡ written ++ drop (to - from) part
      → put_mid from (length was - from) was now ≡ take from was ++ (written ++ drop to was)
  part-written part now written e h =
      let n : from + (to - from) ≡ to = omega arith in
      tail-back from was now (omega arith)
      ∙ ap (λ (xs : List ℕ). take from was ++ xs)
      (h ∙ ap (λ (xs : List ℕ). written ++ xs) (ap (drop (to - from)) e ∙ drop-drop (to - from) from was ∙ ap (λ (k : ℕ). drop k was) n))

-- two plans one after the other
pub both-written : (was mid now a b : List ℕ) (from at to : ℕ) → from ≤ at → at ≤ to → to ≤ length was → length a ≡ at - from
    → mid ≡ take from was ++ (a ++ drop at was) → now ≡ take at mid ++ (b ++ drop to mid) → now ≡ take from was ++ ((a ++ b) ++ drop to was)
both-written was mid now a b from at to early late inside long first second =
    second ∙ ap₂ (λ (xs ys : List ℕ). xs ++ (b ++ ys)) front behind
    ∙ append_assoc (take from was) a (b ++ drop to was)
    ∙ ap (λ (xs : List ℕ). take from was ++ xs) (sym (append_assoc a b (drop to was)))
  where
    whole : mid ≡ (take from was ++ a) ++ drop at was
    whole = first ∙ sym (append_assoc (take from was) a (drop at was))

    seam : length (take from was ++ a) ≡ at
    seam = omega (arith, length-append (take from was) a, length-take-le from was (omega arith), long)

    front : take at mid ≡ take from was ++ a
    front =
        ap₂ (λ (k : ℕ) (xs : List ℕ). take k xs) (sym seam) whole
        ∙ take-append_seam (take from was ++ a) (drop at was)

    behind : drop to mid ≡ drop to was
    behind =
        let n : at + (to - at) ≡ to = omega arith in
        let k : to ≡ length (take from was ++ a) + (to - at) = omega (arith, seam) in
        ap₂ (λ (k : ℕ) (xs : List ℕ). drop k xs) k whole
        ∙ drop-append-add (take from was ++ a) (drop at was) (to - at)
        ∙ drop-drop (to - at) at was
        ∙ ap (λ (k : ℕ). drop k was) n

-- ---- cells

pub same-beyond : (n : ℕ) (was cells : List ℤ) → drop n cells ≡ drop n was → Untouched n was cells
same-beyond n was cells e j h =
    let i : n + (j - n) ≡ j = omega arith in
    ap (λ (k : ℕ). get_or cells k (pos 0)) (sym i)
    ∙ sym (get_or-drop n cells (j - n) (pos 0))
    ∙ ap (λ (xs : List ℤ). get_or xs (j - n) (pos 0)) e
    ∙ get_or-drop n was (j - n) (pos 0)
    ∙ ap (λ (k : ℕ). get_or was k (pos 0)) i

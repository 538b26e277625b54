-- The lines of a schedule, one interval at a time.
use mathlib.Core.Path.{◌≡◌, sym, ap, ◌∙◌}
use mathlib.Core.List.{List, [], ◌∷◌, ◌++◌, append_assoc, append-nil}
use Prim.Native.Nat.{ℕ, suc, ◌+◌, ◌≤◌, ◌<◌}
use native.Mathlib.Nat.{add-zero}
use native.Mathlib.Numerals.{add-one}
use native.Mathlib.Omega.{arith}
use lib.ListN.{length, take, drop, get_or, length-append, take-append-drop}
use lib.Seq.{take-suc, length-take-le}
use Rattle.listing.specs.Listing.{interval_line, interval_lines}

lines_split : (k : ℕ) (s t : List ℕ) → interval_lines k (s ++ t) ≡ interval_lines k s ++ interval_lines (k + length s) t
lines_split k [] t = ap (λ (n : ℕ). interval_lines n t) (sym (add-zero k))
lines_split k (m ∷ s) t =
    ap (λ (l : List ℕ). interval_line k m ++ l) (lines_split (suc k) s t)
    ∙ sym (append_assoc (interval_line k m) (interval_lines (suc k) s) (interval_lines (suc k + length s) t))
    ∙ ap (λ (n : ℕ). (interval_line k m ++ interval_lines (suc k) s) ++ interval_lines n t) (omega arith)

module _ (s : List ℕ) (i : ℕ) where
  pub lines_next : i < length s → interval_lines 1 (take (i + 1) s) ≡ interval_lines 1 (take i s) ++ interval_line (i + 1) (get_or s i 0)
  lines_next h =
      let long : 1 + length (take i s) ≡ i + 1 = omega (arith, length-take-le i s (omega arith)) in
      let more : take (i + 1) s ≡ take i s ++ (get_or s i 0 ∷ []) = rw (add-one i) (take-suc s i 0 h) in
      ap (interval_lines 1) more
      ∙ lines_split 1 (take i s) (get_or s i 0 ∷ [])
      ∙ ap (λ (n : ℕ). interval_lines 1 (take i s) ++ interval_lines n (get_or s i 0 ∷ [])) long
      ∙ ap (λ (l : List ℕ). interval_lines 1 (take i s) ++ l) (append-nil (interval_line (i + 1) (get_or s i 0)))

  pub lines-short : length (interval_lines 1 (take i s)) ≤ length (interval_lines 1 s)
  lines-short =
      let front = interval_lines 1 (take i s) in
      let rest = interval_lines (1 + length (take i s)) (drop i s) in
      let whole : length (interval_lines 1 s) ≡ length front + length rest =
      ap (λ (l : List ℕ). length (interval_lines 1 l)) (sym (take-append-drop i s))
      ∙ ap length (lines_split 1 (take i s) (drop i s))
      ∙ length-append front rest in
      omega arith

-- Texts written into a buffer one after the other are their concatenation written at once.
use mathlib.Core.Path.{◌≡◌, sym, ap, ap₂, ◌∙◌}
use mathlib.Core.List.{List, [], ◌∷◌, ◌++◌, append_assoc}
use Prim.Native.Nat.{ℕ, ◌+◌, ◌≤◌, ◌<◌}
use native.Mathlib.Nat.{add-zero}
use native.Mathlib.Numerals.{add-one}
use native.Mathlib.Omega.{arith}
use lib.ListN.{length, take, drop, get_or, set, length-append, length-drop, take-append-drop}
use lib.Seq.{set_split, length-take-le, take_at, take_all, take-suc, drop-append-add, drop-drop}
use Rattle.listing.specs.Writing.{written, Put}

module _ (b : List ℕ) (at : ℕ) where
  pub written_byte : (v : ℕ) → at < length b → set b at v ≡ written b at (v ∷ [])
  unfolding written
  written_byte v h = rw (add-one at) (set_split b at v h)

  pub written-length : (t : List ℕ) → at + length t ≤ length b → length (written b at t) ≡ length b
  unfolding written
  written-length t h =
      simp (length-append, length-take-le at b (omega arith), length-drop) (omega arith)

  pub written_then : (s t : List ℕ) → at + length s + length t ≤ length b → written (written b at s) (at + length s) t ≡ written b at (s ++ t)
  unfolding written
  written_then s t h =
      let front = take at b ++ s in
      let rest = drop (at + length s) b in
      let long : length front ≡ at + length s = simp (length-append, length-take-le at b (omega arith)) in
      let whole : take at b ++ (s ++ rest) ≡ front ++ rest = sym (append_assoc (take at b) s rest) in
      let first : take (at + length s) (front ++ rest) ≡ front = take_at front rest (at + length s) long in
      let behind : drop (at + length s + length t) (front ++ rest) ≡ drop (at + length s + length t) b =
      ap (λ (k : ℕ). drop (k + length t) (front ++ rest)) (sym long) ∙ drop-append-add front rest (length t) ∙ drop-drop (length t) (at + length s) b in
      let seam : at + length (s ++ t) ≡ at + length s + length t = simp length-append (omega arith) in
      ap₂ (λ (x y : List ℕ). x ++ (t ++ y)) (ap (take (at + length s)) whole ∙ first) (ap (drop (at + length s + length t)) whole ∙ behind)
      ∙ append_assoc (take at b) s (t ++ drop (at + length s + length t) b)
      ∙ ap (λ (x : List ℕ). take at b ++ x) (sym (append_assoc s t (drop (at + length s + length t) b)) ∙ ap (λ (k : ℕ). (s ++ t) ++ drop k b) (sym seam))

-- no text
pub put-none : (b : List ℕ) (at : ℕ) → Put b at [] at b
unfolding written
put-none b at = record { place = sym (add-zero at); bytes = sym (rw (add-zero at) (take-append-drop at b)) }

-- a text after another, as what the two calls give
pub put_then : {b : List ℕ} {at : ℕ} {s : List ℕ} {p : ℕ} {c t : List ℕ} {q : ℕ} {d : List ℕ} → at + length s + length t ≤ length b
    → Put b at s p c → Put c p t q d → Put b at (s ++ t) q d
put_then {b} {at} {s} {p} {c} {t} {q} {d} h f g =
    let e : length (s ++ t) ≡ length s + length t = length-append s t in
    record {
      place = omega (arith, f.place, g.place, e);
      bytes = g.bytes ∙ ap₂ (λ (x : List ℕ) (k : ℕ). written x k t) f.bytes f.place ∙ written_then b at s t h;
    }

-- a text by another name
pub put_as : {b : List ℕ} {at : ℕ} {s t : List ℕ} {p : ℕ} {c : List ℕ} → s ≡ t → Put b at s p c → Put b at t p c
put_as e f = rw (← e) f

-- a buffer keeps its length
pub put-length : {b : List ℕ} {at : ℕ} {s : List ℕ} {p : ℕ} {c : List ℕ} → at + length s ≤ length b → Put b at s p c → length c ≡ length b
put-length {b} {at} {s} h f = ap length f.bytes ∙ written-length b at s h

-- ---- a text copied byte by byte

module _ (b : List ℕ) (at : ℕ) (text : List ℕ) (room : at + length text ≤ length b) where
  pub copied_none : b ≡ written b at (take 0 text)
  unfolding written
  copied_none = sym (rw (add-zero at) (take-append-drop at b))

  pub copied_next : (i : ℕ) → i < length text → set (written b at (take i text)) (at + i) (get_or text i 0) ≡ written b at (take (i + 1) text)
  copied_next i h =
      let long : length (take i text) ≡ i = length-take-le i text (omega arith) in
      let same : length (written b at (take i text)) ≡ length b = written-length b at (take i text) (omega arith) in
      written_byte (written b at (take i text)) (at + i) (get_or text i 0) (omega arith)
      ∙ ap (λ (k : ℕ). written (written b at (take i text)) (at + k) (get_or text i 0 ∷ [])) (sym long)
      ∙ written_then b at (take i text) (get_or text i 0 ∷ []) (omega arith)
      ∙ ap (written b at) (sym (rw (add-one i) (take-suc text i 0 h)))

  pub copied-whole : (i : ℕ) → length text ≤ i → written b at (take i text) ≡ written b at text
  copied-whole i h = ap (written b at) (take_all i text h)

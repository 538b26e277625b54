-- Cutting a string: the first line or field, and the others behind it.
use mathlib.Core.Path.{◌≡◌, refl, sym, ap, ap₂, ◌∙◌}
use mathlib.Core.Bool.{Bool, true, false}
use mathlib.Core.List.{List, [], ◌∷◌}
use Prim.Native.Nat.{ℕ, suc, ◌+◌, ◌≤◌, ◌<◌}
use native.Mathlib.Omega.{arith}
use denote.Ref.{Bor}
use lib.ListN.{length, take, drop, drop_of_length-le}
use lib.Seq.{take_all}
use Rattle.std.proofs.Common.{Option, Some, None}
use Rattle.std.specs.Option.{unwrap_or}
use Rattle.tabletext.specs.declared.Class.TheVariants.{Comma, LineEnd}
use Rattle.tabletext.specs.Bytes.{is_of}
use Rattle.tabletext.specs.Pieces.{onto, lines_of, fields_of}
use Rattle.tabletext.specs.Places.{end_of, IsCut, fields_of_rest}

-- ---- the first piece of a whole string

line_step : (b : ℕ) (bs : List ℕ) (t : Bool) → is_of LineEnd b ≡ t
    → onto b (lines_of bs) ≡ (b ∷ take (end_of LineEnd bs) bs) ∷ lines_of (drop (suc (end_of LineEnd bs)) bs)
    → lines_of (b ∷ bs) ≡ take (end_of LineEnd (b ∷ bs)) (b ∷ bs) ∷ lines_of (drop (suc (end_of LineEnd (b ∷ bs))) (b ∷ bs))
line_step b bs true e h = rw e
line_step b bs false e h = rw e h

line_first : (b : ℕ) (bs : List ℕ) → lines_of (b ∷ bs) ≡ take (end_of LineEnd (b ∷ bs)) (b ∷ bs) ∷ lines_of (drop (suc (end_of LineEnd (b ∷ bs))) (b ∷ bs))
line_first b [] = line_step b [] (is_of LineEnd b) refl refl
line_first b (c ∷ cs) = line_step b (c ∷ cs) (is_of LineEnd b) refl (ap (onto b) (line_first c cs))

some-line : (s : List ℕ) → 0 < length s → lines_of s ≡ take (end_of LineEnd s) s ∷ lines_of (drop (suc (end_of LineEnd s)) s)
some-line [] h = absurd (omega arith)
some-line (b ∷ bs) h = line_first b bs

field_step : (b : ℕ) (bs : List ℕ) (t : Bool) → is_of Comma b ≡ t → end_of Comma (b ∷ bs) < length (b ∷ bs)
    → (end_of Comma bs < length bs → fields_of bs ≡ take (end_of Comma bs) bs ∷ fields_of (drop (suc (end_of Comma bs)) bs))
    → fields_of (b ∷ bs) ≡ take (end_of Comma (b ∷ bs)) (b ∷ bs) ∷ fields_of (drop (suc (end_of Comma (b ∷ bs))) (b ∷ bs))
field_step b bs true e h ih = rw e
field_step b bs false e h ih = let k : end_of Comma bs < length bs = omega (arith, rw e at h) in rw (e, ih k)

-- where a comma follows
field-first : (s : List ℕ) → end_of Comma s < length s → fields_of s ≡ take (end_of Comma s) s ∷ fields_of (drop (suc (end_of Comma s)) s)
field-first [] h = absurd (omega (arith, h))
field-first (b ∷ bs) h = field_step b bs (is_of Comma b) refl h (field-first bs)

field-stop : (b : ℕ) (bs : List ℕ) (t : Bool) → is_of Comma b ≡ t → length (b ∷ bs) ≤ end_of Comma (b ∷ bs)
    → (length bs ≤ end_of Comma bs → fields_of bs ≡ bs ∷ []) → fields_of (b ∷ bs) ≡ (b ∷ bs) ∷ []
field-stop b bs true e h ih = absurd (omega (arith, rw e at h))
field-stop b bs false e h ih = let k : length bs ≤ end_of Comma bs = omega (arith, rw e at h) in rw (e, ih k)

-- where none does
field-last : (s : List ℕ) → length s ≤ end_of Comma s → fields_of s ≡ s ∷ []
field-last [] h = refl
field-last (b ∷ bs) h = field-stop b bs (is_of Comma b) refl h (field-last bs)

-- ---- a cut gives the first piece, and leaves the others

behind-end : (s : List ℕ) (n : ℕ) → drop (suc n) s ≡ drop (n + 1) s
behind-end s n = let k : suc n ≡ n + 1 = omega arith in ap (λ (m : ℕ). drop m s) k

pub cut_field : (s piece : List ℕ) (behind : Option (Bor (List ℕ))) → IsCut Comma s piece behind → fields_of s ≡ piece ∷ fields_of_rest behind
cut_field s piece None c =
    field-last s c.1 ∙ ap (λ (p : List ℕ). p ∷ []) (sym (c.0 ∙ take_all (end_of Comma s) s c.1))
cut_field s piece (Some others) c =
    field-first s c.1.0 ∙ ap₂ (λ (p r : List ℕ). p ∷ fields_of r) (sym c.0) (behind-end s (end_of Comma s) ∙ sym c.1.1)

pub cut_line : (s piece : List ℕ) (behind : Option (Bor (List ℕ))) (none : Bor (List ℕ)) → none.now ≡ [] → 0 < length s → IsCut LineEnd s piece behind
    → lines_of s ≡ piece ∷ lines_of (unwrap_or behind none).now
cut_line s piece None none empty some c =
    let past : length s ≤ suc (end_of LineEnd s) = omega (arith, c.1) in
    some-line s some ∙ ap₂ (λ (p r : List ℕ). p ∷ lines_of r) (sym c.0) (drop_of_length-le s {i = suc (end_of LineEnd s)} past ∙ sym empty)
cut_line s piece (Some others) none empty some c =
    some-line s some ∙ ap₂ (λ (p r : List ℕ). p ∷ lines_of r) (sym c.0) (behind-end s (end_of LineEnd s) ∙ sym c.1.1)

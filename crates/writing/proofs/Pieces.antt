-- Fields that are joined and lines that are closed are parted again, where no byte of theirs parts.
use mathlib.Core.Path.{◌≡◌, refl, ap, ◌∙◌}
use mathlib.Core.Bool.{Bool, true, false, not}
use mathlib.Core.List.{List, [], ◌∷◌, ◌++◌}
use Prim.Native.Nat.{ℕ}
use borrow.Author.Tests.{not-true}
use Rattle.lists.specs.Every.{every}
use Rattle.lists.proofs.Conjunctions.{both}
use Rattle.tabletext.specs.declared.Class.{Class}
use Rattle.tabletext.specs.declared.Class.TheVariants.{Comma, LineEnd}
use Rattle.tabletext.specs.Bytes.{is_of}
use Rattle.tabletext.specs.Pieces.{lines_of, last_closed, fields_of}
use Rattle.writing.specs.Writing.{joined, closing}

-- no byte is of the class
abbrev pub free : Class → List ℕ → Bool
free mark s = every (λ b. not (is_of mark b)) s

field-before : (s rest : List ℕ) → free Comma s ≡ true → fields_of (s ++ 44 ∷ rest) ≡ s ∷ fields_of rest
unfolding is_of
field-before [] rest h = refl
field-before (b ∷ bs) rest h =
    let p = both (not (is_of Comma b)) (free Comma bs) h in
    rw (not-true (is_of Comma b) p.0, field-before bs rest p.1)

pub field-alone : (s : List ℕ) → free Comma s ≡ true → fields_of s ≡ s ∷ []
field-alone [] h = refl
field-alone (b ∷ bs) h =
    let p = both (not (is_of Comma b)) (free Comma bs) h in
    rw (not-true (is_of Comma b) p.0, field-alone bs p.1)

pub fields_back : (field : List ℕ) (fields : List (List ℕ)) → every (free Comma) (field ∷ fields) ≡ true → fields_of (joined (field ∷ fields)) ≡ field ∷ fields
fields_back field [] h = field-alone field (both (free Comma field) true h).0
fields_back field (next ∷ fields) h =
    let p = both (free Comma field) (every (free Comma) (next ∷ fields)) h in
    field-before field (joined (next ∷ fields)) p.0 ∙ ap (λ (l : List (List ℕ)). field ∷ l) (fields_back next fields p.1)

line_before : (s rest : List ℕ) → free LineEnd s ≡ true → lines_of (s ++ 10 ∷ rest) ≡ s ∷ lines_of rest
unfolding is_of
line_before [] rest h = refl
line_before (b ∷ bs) rest h =
    let p = both (not (is_of LineEnd b)) (free LineEnd bs) h in
    rw (not-true (is_of LineEnd b) p.0, line_before bs rest p.1)

pub lines-back : (lines : List (List ℕ)) → every (free LineEnd) lines ≡ true → lines_of (closing lines) ≡ lines
lines-back [] h = refl
lines-back (line ∷ lines) h =
    let p = both (free LineEnd line) (every (free LineEnd) lines) h in
    line_before line (closing lines) p.0 ∙ ap (λ (l : List (List ℕ)). line ∷ l) (lines-back lines p.1)

-- ---- the last line is closed

closed-behind : (s : List ℕ) (b : ℕ) (bs : List ℕ) → last_closed (s ++ b ∷ bs) ≡ last_closed (b ∷ bs)
closed-behind [] b bs = refl
closed-behind (a ∷ []) b bs = refl
closed-behind (a ∷ c ∷ s) b bs = closed-behind (c ∷ s) b bs

pub closing-closed : (line : List ℕ) (lines : List (List ℕ)) → last_closed (closing (line ∷ lines)) ≡ true
unfolding is_of
closing-closed line [] = closed-behind line 10 []
closing-closed line (next ∷ lines) = closed-behind line 10 (closing (next ∷ lines)) ∙ below (next ++ 10 ∷ closing lines) (closing-closed next lines)
  where
    below : (rest : List ℕ) → last_closed rest ≡ true → last_closed (10 ∷ rest) ≡ true
    below [] h = refl
    below (b ∷ bs) h = h

-- ---- bytes that do not part: what is joined has none of a class where no field has

joined_free : (mark : Class) → is_of mark 44 ≡ false → (fields : List (List ℕ)) → every (free mark) fields ≡ true → free mark (joined fields) ≡ true
joined_free mark comma [] h = refl
joined_free mark comma (field ∷ []) h = (both (free mark field) true h).0
joined_free mark comma (field ∷ next ∷ fields) h =
    let p = both (free mark field) (every (free mark) (next ∷ fields)) h in
    free-append field (44 ∷ joined (next ∷ fields)) p.0 (rw comma (joined_free mark comma (next ∷ fields) p.1))
  where
    free-append : (s t : List ℕ) → free mark s ≡ true → free mark t ≡ true → free mark (s ++ t) ≡ true
    free-append [] t p q = q
    free-append (b ∷ bs) t p q =
        let r = both (not (is_of mark b)) (free mark bs) p in
        rw r.0 (free-append bs t r.1 q)

pub joined_line : (fields : List (List ℕ)) → every (free LineEnd) fields ≡ true → free LineEnd (joined fields) ≡ true
unfolding is_of
joined_line fields h = joined_free LineEnd refl fields h

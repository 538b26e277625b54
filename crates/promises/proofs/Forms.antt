-- A text has the form exactly when a writer of two tables makes it.
use mathlib.Core.Path.{◌≡◌, refl, sym, ap, ap₂, ◌∙◌}
use mathlib.Core.Bool.{Bool, true, false, ◌&&◌, not, cond}
use mathlib.Core.List.{List, [], ◌∷◌, map}
use mathlib.Core.Logic.{◌↔◌}
use Prim.Native.Nat.{ℕ, ◌<◌}
use native.Mathlib.Omega.{arith}
use borrow.Author.Tests.{le-leb, eqb-true}
use lib.Dec.{leb, ltb, eqb}
use lib.IntN.{pos, neg_ℤ}
use lib.ListN.{length, get_or, drop}
use Rattle.lists.specs.Every.{every}
use Rattle.lists.proofs.Conjunctions.{both}
use Rattle.tabletext.specs.declared.Class.{Class}
use Rattle.tabletext.specs.declared.Class.TheVariants.{Digit, Letter, Minus, Comma, LineEnd, Refused}
use Rattle.tabletext.specs.declared.Value.TheVariants.{Malformed, WordNone, Number}
use Rattle.tabletext.specs.Bytes.{between, rank, class_of, is_of, same}
use Rattle.tabletext.specs.Pieces.{onto, lines_of, last_closed, fields_of}
use Rattle.tabletext.specs.Tables.{name_line, value_line}
use Rattle.tabletext.specs.Values.{is_name, is_value, value_of, numeral, lead_kept, from_digits, negative, none_word, well_formed}
use Rattle.tabletext.proofs.Alike.{same-eq}
use Rattle.tabletext.proofs.Groups.{every_map}
use Rattle.casetext.specs.Form.{most_bytes, unit_head, unit_row, price_head, price_rows, is_empty, table_formed, form_kept}
use Rattle.writing.specs.Writing.{joined, closing}
use Rattle.writing.proofs.AsWritten.{formed-is, lines_are}
use Rattle.writing.proofs.Back.{some-fields}
use Rattle.writing.proofs.Pieces.{free, lines-back, closing-closed, joined_line}
use Rattle.promises.specs.Tables.{IsTable, TwoTables}

-- ---- what is parted and joined again is as it was

joined-onto : (b : ℕ) (piece : List ℕ) (pieces : List (List ℕ)) → joined (onto b (piece ∷ pieces)) ≡ b ∷ joined (piece ∷ pieces)
joined-onto b piece [] = refl
joined-onto b piece (next ∷ pieces) = refl

-- a line parted is one piece or more
fields-some : (s : List ℕ) → 0 < length (fields_of s)
fields-some [] = omega arith
fields-some (b ∷ bs) = by (is_of Comma b) (fields_of bs)
  where
    by : (t : Bool) (pieces : List (List ℕ)) → 0 < length (cond t ([] ∷ pieces) (onto b pieces))
    by true pieces = omega arith
    by false [] = omega arith
    by false (piece ∷ pieces) = omega arith

comma-is : (b : ℕ) → is_of Comma b ≡ true → b ≡ 44
unfolding is_of
comma-is b e = by (between 48 b 57) (between 97 b 122) (eqb b 44) (eqb b 45) (eqb b 10) refl e
  where
    by : (d l c m n : Bool) → eqb b 44 ≡ c → eqb (rank (cond d Digit (cond l Letter (cond c Comma (cond m Minus (cond n LineEnd Refused)))))) 2 ≡ true → b ≡ 44
    by true l c m n i e = let z : ◌≡◌ {A = ℕ} 0 1 = cc in absurd (omega arith)
    by false true c m n i e = let z : ◌≡◌ {A = ℕ} 0 1 = cc in absurd (omega arith)
    by false false true m n i e = eqb-true b 44 i
    by false false false true n i e = let z : ◌≡◌ {A = ℕ} 0 1 = cc in absurd (omega arith)
    by false false false false true i e = let z : ◌≡◌ {A = ℕ} 0 1 = cc in absurd (omega arith)
    by false false false false false i e = let z : ◌≡◌ {A = ℕ} 0 1 = cc in absurd (omega arith)

end_is : (b : ℕ) → is_of LineEnd b ≡ true → b ≡ 10
unfolding is_of
end_is b e = by (between 48 b 57) (between 97 b 122) (eqb b 44) (eqb b 45) (eqb b 10) refl e
  where
    by : (d l c m n : Bool) → eqb b 10 ≡ n → eqb (rank (cond d Digit (cond l Letter (cond c Comma (cond m Minus (cond n LineEnd Refused)))))) 4 ≡ true → b ≡ 10
    by true l c m n i e = let z : ◌≡◌ {A = ℕ} 0 1 = cc in absurd (omega arith)
    by false true c m n i e = let z : ◌≡◌ {A = ℕ} 0 1 = cc in absurd (omega arith)
    by false false true m n i e = let z : ◌≡◌ {A = ℕ} 0 1 = cc in absurd (omega arith)
    by false false false true n i e = let z : ◌≡◌ {A = ℕ} 0 1 = cc in absurd (omega arith)
    by false false false false true i e = eqb-true b 10 i
    by false false false false false i e = let z : ◌≡◌ {A = ℕ} 0 1 = cc in absurd (omega arith)

joined-empty : (pieces : List (List ℕ)) → 0 < length pieces → joined ([] ∷ pieces) ≡ 44 ∷ joined pieces
joined-empty [] some = absurd (omega (arith, some))
joined-empty (piece ∷ pieces) some = refl

joined_back : (s : List ℕ) → joined (fields_of s) ≡ s
joined_back [] = refl
joined_back (b ∷ bs) = by (is_of Comma b) refl (fields_of bs) (fields-some bs) (joined_back bs)
  where
    by : (t : Bool) → is_of Comma b ≡ t → (pieces : List (List ℕ)) → 0 < length pieces → joined pieces ≡ bs
        → joined (cond t ([] ∷ pieces) (onto b pieces)) ≡ b ∷ bs
    by true e pieces some below = joined-empty pieces some ∙ ap₂ ◌∷◌ (sym (comma-is b e)) below
    by false e [] some below = absurd (omega (arith, some))
    by false e (piece ∷ pieces) some below = joined-onto b piece pieces ∙ ap (λ (l : List ℕ). b ∷ l) below

closing-onto : (b : ℕ) (lines : List (List ℕ)) → 0 < length lines → closing (onto b lines) ≡ b ∷ closing lines
closing-onto b [] some = absurd (omega (arith, some))
closing-onto b (line ∷ lines) some = refl

-- a text whose last line is closed has a line
lines-some : (text : List ℕ) → last_closed text ≡ true → 0 < length (lines_of text)
lines-some [] e = let z : ◌≡◌ {A = ℕ} 0 1 = cc in absurd (omega arith)
lines-some (b ∷ bs) e = by (is_of LineEnd b) (lines_of bs)
  where
    by : (t : Bool) (lines : List (List ℕ)) → 0 < length (cond t ([] ∷ lines) (onto b lines))
    by true lines = omega arith
    by false [] = omega arith
    by false (line ∷ lines) = omega arith

closing-back : (text : List ℕ) → last_closed text ≡ true → closing (lines_of text) ≡ text
closing-back [] e = refl
closing-back (b ∷ []) e = by (is_of LineEnd b) refl e
  where
    by : (t : Bool) → is_of LineEnd b ≡ t → t ≡ true → closing (cond t ([] ∷ []) (onto b [])) ≡ b ∷ []
    by true i e = ap (λ (k : ℕ). k ∷ []) (sym (end_is b i))
    by false i e = let z : ◌≡◌ {A = ℕ} 0 1 = cc in absurd (omega arith)
closing-back (b ∷ c ∷ bs) e = by (is_of LineEnd b) refl (lines_of (c ∷ bs)) (lines-some (c ∷ bs) e) (closing-back (c ∷ bs) e)
  where
    by : (t : Bool) → is_of LineEnd b ≡ t → (lines : List (List ℕ)) → 0 < length lines → closing lines ≡ c ∷ bs
        → closing (cond t ([] ∷ lines) (onto b lines)) ≡ b ∷ c ∷ bs
    by true i lines some below = ap₂ ◌∷◌ (sym (end_is b i)) below
    by false i lines some below = closing-onto b lines some ∙ ap (λ (l : List ℕ). b ∷ l) below

-- ---- names and values have no mark of a table in them

module _ (mark : Class) (no-letter : eqb 1 (rank mark) ≡ false) (no_digit : eqb 0 (rank mark) ≡ false) (no_minus : eqb 3 (rank mark) ≡ false)
    (none_free : free mark none_word ≡ true) where
  other : (class : Class) (b : ℕ) → eqb (rank class) (rank mark) ≡ false → is_of class b ≡ true → not (is_of mark b) ≡ true
  unfolding is_of
  other class b apart e =
      let r : rank (class_of b) ≡ rank class = eqb-true (rank (class_of b)) (rank class) e in
      ap not (ap (λ (k : ℕ). eqb k (rank mark)) r ∙ apart)

  all-other : (class : Class) → eqb (rank class) (rank mark) ≡ false → (s : List ℕ) → every (is_of class) s ≡ true → free mark s ≡ true
  all-other class apart [] e = refl
  all-other class apart (b ∷ bs) e =
      let p = both (is_of class b) (every (is_of class) bs) e in
      ap₂ ◌&&◌ (other class b apart p.0) (all-other class apart bs p.1)

  name_free : (s : List ℕ) → is_name s ≡ true → free mark s ≡ true
  unfolding is_name
  name_free s e = all-other Letter no-letter s (both (ltb 0 (length s)) (every (is_of Letter) s) e).1

  numeral-free : (s : List ℕ) → numeral s ≡ true → free mark s ≡ true
  unfolding numeral
  numeral-free s e =
      let p = both (lead_kept s && every (is_of Digit) s) (leb (length s) 10) e in
      all-other Digit no_digit s (both (lead_kept s) (every (is_of Digit) s) p.0).1

  negative-free : (s : List ℕ) → well_formed (negative s) ≡ true → free mark s ≡ true
  negative-free [] e = refl
  negative-free (b ∷ bs) e = by (is_of Minus b) refl (numeral bs && not (eqb (from_digits 0 bs) 0)) refl e
    where
      by : (t : Bool) → is_of Minus b ≡ t → (n : Bool) → (numeral bs && not (eqb (from_digits 0 bs) 0)) ≡ n
          → well_formed (cond t (cond n (Number (neg_ℤ (pos (from_digits 0 bs)))) Malformed) Malformed) ≡ true → free mark (b ∷ bs) ≡ true
      by true i true j e = ap₂ ◌&&◌ (other Minus b no_minus i) (numeral-free bs (both (numeral bs) (not (eqb (from_digits 0 bs) 0)) j).0)
      by true i false j e = let z : ◌≡◌ {A = ℕ} 0 1 = cc in absurd (omega arith)
      by false i n j e = let z : ◌≡◌ {A = ℕ} 0 1 = cc in absurd (omega arith)

  value-free : (s : List ℕ) → is_value s ≡ true → free mark s ≡ true
  unfolding is_value value_of
  value-free s e = by (same s none_word) refl (numeral s) refl e
    where
      by : (t : Bool) → same s none_word ≡ t → (n : Bool) → numeral s ≡ n
          → well_formed (cond t WordNone (cond n (Number (pos (from_digits 0 s))) (negative s))) ≡ true → free mark s ≡ true
      by true i n j e = ap (free mark) (same-eq s none_word i) ∙ none_free
      by false i true j e = numeral-free s j
      by false i false j e = negative-free s e

-- ---- from the form to the tables

every-also : {A : Type 0} (p q : A → Bool) (xs : List A) → ((x : A) → p x ≡ true → q x ≡ true) → every p xs ≡ true → every q xs ≡ true
every-also p q [] h e = refl
every-also p q (x ∷ xs) h e =
    let f = both (p x) (every p xs) e in
    ap₂ ◌&&◌ (h x f.0) (every-also p q xs h f.1)

-- a row is as long as its names, of values
abbrev row_kept : ℕ → List (List ℕ) → Bool
row_kept names row = eqb (length row) names && every is_value row

table_of : (head : List ℕ) (rows : List (List ℕ)) → table_formed head rows ≡ true → IsTable (fields_of head) (map fields_of rows)
table_of head rows e =
    let p = both (name_line head) (every (value_line (length (fields_of head))) rows) e in
    record {
      some = fields-some head;
      named = p.0;
      filled = sym (every_map (row_kept (length (fields_of head))) fields_of rows) ∙ p.1;
    }

rows_back : (rows : List (List ℕ)) → map joined (map fields_of rows) ≡ rows
rows_back [] = refl
rows_back (row ∷ rows) = ap₂ ◌∷◌ (joined_back row) (rows_back rows)

tables-of : (text : List ℕ) → form_kept text ≡ true → TwoTables text
tables-of text e =
    let f = formed-is text e in
    let lines = lines_are (lines_of text) f.four in
    record {
      names = fields_of (unit_head text);
      values = fields_of (unit_row text);
      price-names = fields_of (price_head text);
      price-rows = map fields_of (price_rows text);
      unit-table = table_of (unit_head text) (unit_row text ∷ []) f.unit-table;
      price-table = table_of (price_head text) (price_rows text) f.price-table;
      is =
          sym (closing-back text f.closed) ∙ ap closing lines
          ∙ ap (λ (third : List ℕ). closing (unit_head text ∷ unit_row text ∷ third ∷ price_head text ∷ price_rows text)) f.third-empty
          ∙ sym
          (ap₂ (λ (a b : List ℕ). closing (a ∷ b ∷ [] ∷ joined (fields_of (price_head text)) ∷ map joined (map fields_of (price_rows text))))
          (joined_back (unit_head text)) (joined_back (unit_row text))
          ∙ ap₂ (λ (a : List ℕ) (rest : List (List ℕ)). closing (unit_head text ∷ unit_row text ∷ [] ∷ a ∷ rest))
          (joined_back (price_head text)) (rows_back (price_rows text)));
      short = omega (arith, f.short);
    }

-- ---- from the tables to the form

end-name : (s : List ℕ) → is_name s ≡ true → free LineEnd s ≡ true
unfolding is_of
end-name = name_free LineEnd refl refl refl refl

end-value : (s : List ℕ) → is_value s ≡ true → free LineEnd s ≡ true
unfolding is_of
end-value = value-free LineEnd refl refl refl refl

comma-name : (s : List ℕ) → is_name s ≡ true → free Comma s ≡ true
unfolding is_of
comma-name = name_free Comma refl refl refl refl

comma-value : (s : List ℕ) → is_value s ≡ true → free Comma s ≡ true
unfolding is_of
comma-value = value-free Comma refl refl refl refl

module _ (names : List (List ℕ)) (rows : List (List (List ℕ))) (t : IsTable names rows) where
  head-free : free LineEnd (joined names) ≡ true
  head-free = joined_line names (every-also is_name (free LineEnd) names end-name t.named)

  rows-free : every (free LineEnd) (map joined rows) ≡ true
  rows-free =
      sym (every_map (free LineEnd) joined rows)
      ∙ every-also (row_kept (length names)) (λ row. free LineEnd (joined row)) rows
      (λ row e. joined_line row (every-also is_value (free LineEnd) row end-value (both (eqb (length row) (length names)) (every is_value row) e).1))
      t.filled

  head-is : fields_of (joined names) ≡ names
  head-is = some-fields names t.some (every-also is_name (free Comma) names comma-name t.named)

  row_line : (row : List (List ℕ)) → row_kept (length names) row ≡ true → value_line (length names) (joined row) ≡ true
  row_line row e =
      let p = both (eqb (length row) (length names)) (every is_value row) e in
      let some : 0 < length row = omega (arith, t.some, eqb-true (length row) (length names) p.0) in
      ap (row_kept (length names)) (some-fields row some (every-also is_value (free Comma) row comma-value p.1)) ∙ e

  table-back : table_formed (joined names) (map joined rows) ≡ true
  table-back =
      ap (λ (fields : List (List ℕ)). every is_name fields && every (value_line (length fields)) (map joined rows)) head-is
      ∙ ap₂ ◌&&◌ t.named
      (sym (every_map (value_line (length names)) joined rows)
      ∙ every-also (row_kept (length names)) (λ row. value_line (length names) (joined row)) rows row_line t.filled)

module _ (text : List ℕ) (t : TwoTables text) where
  abbrev lines : List (List ℕ)
  lines = joined t.names ∷ joined t.values ∷ [] ∷ joined t.price-names ∷ map joined t.price-rows

  lines-found : lines_of text ≡ lines
  lines-found =
      let unit = rows-free t.names (t.values ∷ []) t.unit-table in
      let row = (both (free LineEnd (joined t.values)) true unit).0 in
      let prices = ap₂ ◌&&◌ (head-free t.price-names t.price-rows t.price-table) (rows-free t.price-names t.price-rows t.price-table) in
      ap lines_of t.is ∙ lines-back lines (ap₂ ◌&&◌ (head-free t.names (t.values ∷ []) t.unit-table) (ap₂ ◌&&◌ row prices))

  form_of : form_kept text ≡ true
  unfolding form_kept
  form_of =
      let short = le-leb (length text) most_bytes t.short in
      let later = joined t.values ∷ [] ∷ joined t.price-names ∷ map joined t.price-rows in
      let closed = ap last_closed t.is ∙ closing-closed (joined t.names) later in
      let four = ap (λ (ls : List (List ℕ)). leb 4 (length ls)) lines-found ∙ le-leb 4 (length lines) (omega arith) in
      let third = ap (λ (ls : List (List ℕ)). is_empty (get_or ls 2 [])) lines-found in
      let first = ap (λ (ls : List (List ℕ)). table_formed (get_or ls 0 []) (get_or ls 1 [] ∷ [])) lines-found in
      let unit = first ∙ table-back t.names (t.values ∷ []) t.unit-table in
      let second = ap (λ (ls : List (List ℕ)). table_formed (get_or ls 3 []) (drop 4 ls)) lines-found in
      let prices = second ∙ table-back t.price-names t.price-rows t.price-table in
      ap₂ ◌&&◌ (ap₂ ◌&&◌ (ap₂ ◌&&◌ (ap₂ ◌&&◌ (ap₂ ◌&&◌ short closed) four) third) unit) prices

pub form-exactly : (text : List ℕ) → (form_kept text ≡ true) ↔ TwoTables text
form-exactly text = (tables-of text, form_of text)

-- Demand 1's sentence: in a text that is not refused each field is the value written under its name, and the prices are those of the lines in order.
use Rattle.std.specs.Prelude.{None, Ok, Some}
use mathlib.Core.Path.{◌≡◌, refl, sym, ap, ap₂, ◌∙◌}
use mathlib.Core.Bool.{Bool, true, false, ◌&&◌, cond}
use mathlib.Core.List.{List, [], ◌∷◌, map}
use Prim.Native.Nat.{ℕ, zero, suc, ◌+◌, ◌≤◌, ◌<◌}
use native.Mathlib.Omega.{arith}
use lib.Dec.{leb, eqb}
use lib.IntN.{ℤ, pos, negsuc, nat_abs}
use lib.ListN.{length, take, drop, get_or, length-map}
use lib.Seq.{take-append_seam}
use borrow.Author.Tests.{leb-true, eqb-true}
use Rattle.commitment.specs.Bounds.{most_starts, most_hours, most_mwh}
use Rattle.commitment.specs.declared.UnitRecord.{UnitRecord}
use Rattle.commitment.specs.Limits.{limit_kept}
use Rattle.commitment.specs.Ranges.{permit_kept, prices_kept, case_checked}
use Rattle.lists.specs.Every.{every}
use Rattle.lists.proofs.Conjunctions.{both}
use Rattle.commitment.proofs.Passing.{Passing, passing, prices-small}
use Rattle.lists.proofs.Every.{every-at}
use Rattle.commitment.proofs.Ranges.{InRange, in-range, window-ranges}
use Rattle.tabletext.specs.declared.Class.TheVariants.{Comma}
use Rattle.tabletext.specs.declared.Value.{Value}
use Rattle.tabletext.specs.declared.Value.TheVariants.{Malformed, WordNone, Number}
use Rattle.tabletext.specs.Bytes.{is_of, same}
use Rattle.tabletext.specs.Pieces.{onto, lines_of, last_closed, fields_of}
use Rattle.tabletext.specs.Tables.{name_line, value_line, occurs, standing, known, named, under}
use Rattle.tabletext.specs.Values.{value_of, is_value}
use Rattle.tabletext.proofs.Alike.{same-eq}
use Rattle.casefile.specs.Answers.{read_case, read_prices}
use Rattle.casetext.specs.Names.{block_name, pmin_name, pmax_name, mot_name, mdt_name, was_name, held_name, vec_name, mlc_name, suc_name}
use Rattle.casetext.specs.Names.{starts_name, hours_name, mwh_name, year_name, month_name, day_name, window_name}
use Rattle.casetext.specs.Names.{price_name, unit_names, unit_groups, price_names}
use Rattle.casetext.specs.Form.{most_bytes, unit_head, unit_row, empty_line, price_head, price_rows, is_empty, table_formed, form_kept, names_kept}
use Rattle.casefile.specs.Reading.{beyond, whole_of, limit_of, cents_of, window_of, permit_of, unit_in, price_of, prices_in, text_checked}
use Rattle.casefile.proofs.Checking.{text-passed, read-case, answer-read}
use Rattle.writing.specs.AsWritten.{StandsUnder, limit_value, StandsNowhere, PermitWritten, AsWritten}
use Rattle.writing.specs.Writing.{names_for}
use Rattle.writing.proofs.Places.{nowhere, stands}
use Rattle.writing.proofs.Sequences.{Named, names-are, none_of, all-this}
use Rattle.writing.proofs.Permits.{named-for}
use Rattle.casefile.specs.Types.{case_with}

-- ---- a number in its range is the number that is written

whole_is : (v : Value) → whole_of v < beyond → v ≡ Number (pos (whole_of v))
whole_is Malformed h = absurd (omega (arith, h))
whole_is WordNone h = absurd (omega (arith, h))
whole_is (Number (pos n)) h = refl
whole_is (Number (negsuc n)) h = absurd (omega (arith, h))

limit_is : (most : ℕ) (v : Value) → most < beyond → limit_kept most (limit_of v) ≡ true → v ≡ limit_value (limit_of v)
limit_is most Malformed m h = absurd (omega (arith, leb-true beyond most h))
limit_is most WordNone m h = refl
limit_is most (Number (pos n)) m h = refl
limit_is most (Number (negsuc n)) m h = absurd (omega (arith, leb-true beyond most h))

cents-is : (v : Value) → nat_abs (cents_of v) < beyond → v ≡ Number (cents_of v)
cents-is Malformed h = absurd (omega (arith, h))
cents-is WordNone h = absurd (omega (arith, h))
cents-is (Number z) h = refl

-- ---- a line of one field is that field

some-field : (s : List ℕ) → 0 < length (fields_of s)
some-field [] = omega arith
some-field (b ∷ bs) = go (is_of Comma b) (fields_of bs)
  where
    go : (t : Bool) (fields : List (List ℕ)) → 0 < length (cond t ([] ∷ fields) (onto b fields))
    go true fields = omega arith
    go false [] = omega arith
    go false (f ∷ fs) = omega arith

one_field : (s : List ℕ) → length (fields_of s) ≡ 1 → fields_of s ≡ s ∷ []
one_field [] h = refl
one_field (b ∷ bs) h = go (is_of Comma b) refl (fields_of bs) (some-field bs) (one_field bs) h
  where
    go : (t : Bool) → is_of Comma b ≡ t → (fields : List (List ℕ)) → 0 < length fields → (length fields ≡ 1 → fields ≡ bs ∷ [])
        → length (cond (is_of Comma b) ([] ∷ fields) (onto b fields)) ≡ 1 → cond (is_of Comma b) ([] ∷ fields) (onto b fields) ≡ (b ∷ bs) ∷ []
    go true e fields some below h = absurd (omega (arith, rw e at h))
    go false e [] some below h = absurd (omega arith)
    go false e (f ∷ fs) some below h = let k : suc (length fs) ≡ 1 = rw e at h in rw e (ap (onto b) (below k))

-- ---- the form and the names of a text that is not refused

pub record Formed (text : List ℕ) : Type 0 where
  pub short : length text ≤ most_bytes
  pub closed : last_closed text ≡ true
  pub four : 4 ≤ length (lines_of text)
  pub third-empty : empty_line text ≡ []
  pub unit-table : table_formed (unit_head text) (unit_row text ∷ []) ≡ true
  pub price-table : table_formed (price_head text) (price_rows text) ≡ true

empty-is : (s : List ℕ) → is_empty s ≡ true → s ≡ []
empty-is [] e = refl
empty-is (b ∷ bs) e = let z : ◌≡◌ {A = Bool} false true = e in let n : ◌≡◌ {A = ℕ} 0 1 = cc in absurd (omega arith)

pub formed-is : (text : List ℕ) → form_kept text ≡ true → Formed text
unfolding form_kept
formed-is text e =
    let start = leb (length text) most_bytes && last_closed text in
    let four = leb 4 (length (lines_of text)) in
    let third = is_empty (empty_line text) in
    let unit = table_formed (unit_head text) (unit_row text ∷ []) in
    let p = both (start && four && third && unit) (table_formed (price_head text) (price_rows text)) e in
    let u = both (start && four && third) unit p.0 in
    let g = both (start && four) third u.0 in
    let f = both start four g.0 in
    let s = both (leb (length text) most_bytes) (last_closed text) f.0 in
    record {
      short = leb-true (length text) most_bytes s.0;
      closed = s.1;
      four = leb-true 4 (length (lines_of text)) f.1;
      third-empty = empty-is (empty_line text) g.1;
      unit-table = u.1;
      price-table = p.1;
    }

pub lines_are : (ls : List (List ℕ)) → 4 ≤ length ls → ls ≡ get_or ls 0 [] ∷ get_or ls 1 [] ∷ get_or ls 2 [] ∷ get_or ls 3 [] ∷ drop 4 ls
lines_are [] h = absurd (omega arith)
lines_are (a ∷ []) h = absurd (omega arith)
lines_are (a ∷ b ∷ []) h = absurd (omega arith)
lines_are (a ∷ b ∷ c ∷ []) h = absurd (omega arith)
lines_are (a ∷ b ∷ c ∷ d ∷ ls) h = refl

-- the line of values has as many fields as the line of names
row-length : (names : ℕ) (row : List ℕ) → value_line names row ≡ true → length (fields_of row) ≡ names
row-length names row e = eqb-true (length (fields_of row)) names (both (eqb (length (fields_of row)) names) (every is_value (fields_of row)) e).0

-- a line of one name, which is this one
one_name : (name : List ℕ) (line : List ℕ) → named (name ∷ []) [] (fields_of line) ≡ true → line ≡ name
one_name name line e =
    let n = names-are (name ∷ []) (fields_of line) e in
    let o = n.once 0 (omega arith) in
    let f = one_field line (sym (all-this name (fields_of line) n.no_other) ∙ o) in
    same-eq line name (sole (same line name) (ap (occurs name) (sym f) ∙ o))
  where
    sole : (t : Bool) → cond t 1 0 + 0 ≡ 1 → t ≡ true
    sole true h = refl
    sole false h = absurd (omega (arith, h))

get_d_map : (f : List ℕ → ℤ) (rows : List (List ℕ)) (i : ℕ) → i < length rows → get_or (map f rows) i (pos 0) ≡ f (get_or rows i [])
get_d_map f [] i h = absurd (omega arith)
get_d_map f (row ∷ rows) zero h = refl
get_d_map f (row ∷ rows) (suc i) h = get_d_map f rows i (omega arith)

-- the names and the values of the first table, and what stands under a name
abbrev names_in : List ℕ → List (List ℕ)
names_in text = fields_of (unit_head text)

abbrev values_in : List ℕ → List (List ℕ)
values_in text = fields_of (unit_row text)

abbrev Standing : List ℕ → List ℕ → Value → Type 0
Standing text = StandsUnder (names_in text) (values_in text)

abbrev found : List ℕ → List ℕ → Value
found text name = under name (names_in text) (values_in text)

module _ (text : List ℕ) (form : form_kept text ≡ true) (names-once : names_kept text ≡ true)
    (checks : case_checked (unit_in text) (prices_kept (prices_in text)) (length (prices_in text)) ≡ Ok tt) where
  formed : Formed text
  formed = formed-is text form

  both-named : (named unit_names unit_groups (names_in text) ≡ true) × (named price_names [] (fields_of (price_head text)) ≡ true)
  unfolding names_kept
  both-named = both (named unit_names unit_groups (names_in text)) (named price_names [] (fields_of (price_head text))) names-once

  names-for : Named (names_for (permit_of (names_in text) (values_in text))) (names_in text)
  names-for = names-are _ (names_in text) (named-for (names_in text) (values_in text) both-named.0)

  -- under a name that stands once
  under-name : (name : List ℕ) → occurs name (names_in text) ≡ 1 → Standing text name (found text name)
  under-name name once =
      let row = both (value_line (length (names_in text)) (unit_row text)) true (both (name_line (unit_head text)) _ formed.unit-table).1 in
      stands name (names_in text) (values_in text) once (row-length _ (unit_row text) row.0)

  as-value : {name : List ℕ} {v w : Value} → v ≡ w → Standing text name v → Standing text name w
  as-value e s = record { place = s.place; within = s.within; named = s.named; holds = s.holds ∙ e; only = s.only }

  whole-at : (name : List ℕ) → occurs name (names_in text) ≡ 1 → whole_of (found text name) < beyond
      → Standing text name (Number (pos (whole_of (found text name))))
  whole-at name once b = as-value (whole_is _ b) (under-name name once)

  limit-at : (name : List ℕ) → occurs name (names_in text) ≡ 1 → (most : ℕ) → most < beyond → limit_kept most (limit_of (found text name)) ≡ true
      → Standing text name (limit_value (limit_of (found text name)))
  limit-at name once most m b = as-value (limit_is most _ m b) (under-name name once)

  -- the permit, by whether the four names are there
  permit-at : (t : Bool) →
      let p = cond t (Some (window_of (names_in text) (values_in text))) None in
      Named (names_for p) (names_in text) → permit_kept p ≡ true → PermitWritten (names_in text) (values_in text) p
  permit-at true n k =
      let r = window-ranges (window_of (names_in text) (values_in text)) k in
      record {
        year = whole-at year_name (n.once 13 (omega arith)) (omega (arith, r.year-most));
        month = whole-at month_name (n.once 14 (omega arith)) (omega (arith, r.month-most));
        day = whole-at day_name (n.once 15 (omega arith)) (omega (arith, r.day-most));
        window = whole-at window_name (n.once 16 (omega arith)) (omega (arith, r.word-most));
      }
  permit-at false n k = record { no-year = missing refl; no-month = missing refl; no-day = missing refl; no-window = missing refl }
    where
      missing : {name : List ℕ} → known unit_names [] name ≡ false → StandsNowhere (names_in text) name
      missing {name} u = nowhere name (names_in text) (none_of unit_names [] (names_in text) n.no_other name u)

  head-is : price_head text ≡ price_name
  head-is = one_name price_name (price_head text) both-named.1

  -- each line of the second table is one field, the price
  price-at : (i : ℕ) → i < length (price_rows text) → price_of (price_head text) (get_or (price_rows text) i []) ≡ cents_of (value_of (get_or (price_rows text) i []))
  unfolding is_of
  price-at i h =
      let row = get_or (price_rows text) i [] in
      let lines = (both (name_line (price_head text)) _ formed.price-table).1 in
      let v = every-at (value_line (length (fields_of (price_head text)))) [] (price_rows text) i lines h in
      let n : length (fields_of (price_head text)) ≡ 1 = ap (λ (l : List ℕ). length (fields_of l)) head-is in
      ap₂ (λ (fields values : List (List ℕ)). cents_of (under price_name fields values)) (ap fields_of head-is) (one_field row (row-length _ row v ∙ n))

  case-kept : Passing (unit_in text) (prices_kept (prices_in text)) (length (prices_in text))
  case-kept = passing (unit_in text) (prices_kept (prices_in text)) (length (prices_in text)) checks

  in-ranges : InRange (unit_in text)
  in-ranges = in-range (unit_in text) case-kept.order.ranges

  prices-long : length (prices_in text) ≡ length (price_rows text)
  unfolding prices_in
  prices-long = length-map (price_rows text) (price_of (price_head text))

  price-written : (i : ℕ) → i < length (prices_in text) → value_of (get_or (price_rows text) i []) ≡ Number (get_or (prices_in text) i (pos 0))
  unfolding prices_in
  price-written i h =
      let row = get_or (price_rows text) i [] in
      let r : i < length (price_rows text) = omega (arith, prices-long) in
      let e : get_or (prices_in text) i (pos 0) ≡ cents_of (value_of row) = get_d_map (price_of (price_head text)) (price_rows text) i r ∙ price-at i r in
      cents-is (value_of row) (omega (arith, prices-small _ case-kept.prices i h, ap nat_abs e)) ∙ ap Number (sym e)

  pub text-as-written : AsWritten text (unit_in text) (prices_in text)
  unfolding unit_in
  text-as-written =
      let r = in-ranges in
      let once = names-for.once in
      record {
        lines = lines_are (lines_of text) formed.four
            ∙ ap (λ (third : List ℕ). unit_head text ∷ unit_row text ∷ third ∷ price_head text ∷ price_rows text) formed.third-empty;
        block = whole-at block_name (once 0 (omega arith)) (omega (arith, r.generator.block-most));
        pmin = whole-at pmin_name (once 1 (omega arith)) (omega (arith, r.generator.pmin-most));
        pmax = whole-at pmax_name (once 2 (omega arith)) (omega (arith, r.generator.pmax-most));
        mot = whole-at mot_name (once 3 (omega arith)) (omega (arith, r.generator.mot-most));
        mdt = whole-at mdt_name (once 4 (omega arith)) (omega (arith, r.generator.mdt-most));
        was = whole-at was_name (once 5 (omega arith)) (omega (arith, r.opening.was-most));
        held = whole-at held_name (once 6 (omega arith)) (omega (arith, r.opening.held-most));
        vec = whole-at vec_name (once 7 (omega arith)) (omega (arith, r.costs.vec-most));
        mlc = whole-at mlc_name (once 8 (omega arith)) (omega (arith, r.costs.mlc-most));
        suc-cost = whole-at suc_name (once 9 (omega arith)) (omega (arith, r.costs.suc-most));
        starts = limit-at starts_name (once 10 (omega arith)) most_starts (omega arith) r.limits.starts-kept;
        hours = limit-at hours_name (once 11 (omega arith)) most_hours (omega arith) r.limits.hours-kept;
        mwh = limit-at mwh_name (once 12 (omega arith)) most_mwh (omega arith) r.limits.mwh-kept;
        permit = permit-at (standing 1 (names_in text) year_name) names-for r.permit;
        price-name = head-is;
        one-a-line = prices-long;
        price = price-written;
      }

-- ---- the sentence, of what reading answers and of what it leaves in the slice

pub read-as-written : (text : List ℕ) (slice : List ℤ) (u : UnitRecord) (count : ℕ) → read_case text (length slice) ≡ case_with u count
    → AsWritten text u (take count (read_prices text slice))
unfolding read_case
read-as-written text slice u count e =
    let a = read-case (text_checked text (length slice)) (unit_in text) u (length (prices_in text)) count e in
    let p = (text-passed text (length slice) a.0).written in
    let w = text-as-written text p.form p.names p.checks in
    let front : take count (read_prices text slice) ≡ prices_in text =
    ap₂ (λ (n : ℕ) (l : List ℤ). take n l) (sym a.2) (sym (answer-read text slice a.0).1)
    ∙ take-append_seam (prices_in text) (drop (length (prices_in text)) slice) in
    rw (front, ← a.1) w

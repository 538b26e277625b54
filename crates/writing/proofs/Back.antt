-- The way back: the text that a writer makes of any record and prices within range, its names in any sequence, is read as that record and those prices.
use Rattle.std.specs.Prelude.{None, Ok, Some}
use mathlib.Core.Path.{◌≡◌, refl, sym, ap, ap₂, ◌∙◌}
use mathlib.Core.Bool.{Bool, true, false, ◌&&◌, cond}
use mathlib.Core.List.{List, [], ◌∷◌, ◌++◌, map}
use Prim.Native.Nat.{ℕ, suc, ◌≤◌, ◌<◌, ◌^◌}
use native.Mathlib.Omega.{arith}
use lib.Dec.{leb}
use lib.IntN.{ℤ, pos, nat_abs}
use lib.ListN.{length, drop, get_or, length-map}
use borrow.Author.Tests.{leb-true, le-leb, eq-eqb}
use Rattle.commitment.specs.declared.Opening.{Opening}
use Rattle.commitment.specs.declared.Costs.{Costs}
use Rattle.commitment.specs.declared.Generator.{Generator}
use Rattle.commitment.specs.declared.Limits.{Limits}
use Rattle.commitment.specs.Bounds.{most_starts, most_hours, most_mwh}
use Rattle.commitment.specs.Types.{Checked}
use Rattle.commitment.specs.Types.{Limit}
use Rattle.commitment.specs.Types.{Permit}
use Rattle.commitment.specs.declared.Window.{Window}
use Rattle.commitment.specs.declared.UnitRecord.{UnitRecord}
use Rattle.commitment.specs.Limits.{limit_kept}
use Rattle.commitment.specs.Ranges.{permit_kept, prices_kept, case_checked}
use Rattle.lists.specs.Every.{every}
use Rattle.commitment.proofs.Passing.{Passing, passing, prices-small}
use Rattle.commitment.proofs.Ranges.{WindowRanges, window-ranges, InRange, in-range}
use Rattle.tabletext.specs.declared.Class.TheVariants.{Comma, LineEnd}
use Rattle.tabletext.specs.declared.Value.{Value}
use Rattle.tabletext.specs.declared.Value.TheVariants.{Number}
use Rattle.tabletext.specs.Bytes.{is_of, same}
use Rattle.tabletext.specs.Pieces.{lines_of, fields_of}
use Rattle.tabletext.specs.Tables.{value_line, occurs, named, under}
use Rattle.tabletext.specs.Values.{is_name, value_of, well_formed, is_value}
use Rattle.tabletext.proofs.Alike.{same-eq}
use Rattle.tabletext.proofs.Groups.{every_map}
use Rattle.commitment.specs.Causes.{first_of}
use Rattle.commitment.proofs.Causes.{checked_then}
use Rattle.casefile.specs.Answers.{read_by, read_case, read_prices}
use Rattle.casetext.specs.Names.{block_name, pmin_name, pmax_name, mot_name, mdt_name, was_name, held_name, vec_name, mlc_name, suc_name}
use Rattle.casetext.specs.Names.{starts_name, hours_name, mwh_name, year_name, month_name, day_name, window_name}
use Rattle.casetext.specs.Names.{price_name, unit_names, dated_names, unit_groups, price_names}
use Rattle.casetext.specs.Form.{most_bytes, is_empty, unit_head, unit_row, price_head, price_rows, table_formed, form_kept, names_kept}
use Rattle.casefile.specs.Reading.{whole_of, limit_of, cents_of, window_of, permit_of, unit_of, unit_in, price_of, prices_in, case_in, room_checks, text_checked}
use Rattle.casefile.proofs.Checking.{case-decides, text_in-turn, answer-read}
use Rattle.writing.specs.Writing.{joined, shown_whole, shown_price, shown_limit, shown_dated, shown_field, dated_for, names_for, written}
use Rattle.writing.specs.AsWritten.{limit_value}
use Rattle.writing.proofs.Numbers.{whole_back, price-back, limit-back, whole-unparted, price-unparted, limit-unparted}
use Rattle.writing.proofs.Sequences.{Named, names-are, some-name, of-names}
use Rattle.writing.proofs.Permits.{dated, every-name, year-tells, unit-named}
use Rattle.writing.proofs.Pieces.{free, field-alone, fields_back, lines-back, closing-closed, joined_line}
use Rattle.casefile.specs.Types.{case_with}

-- ---- tests of every element

conj : {a b : Bool} → a ≡ true → b ≡ true → a && b ≡ true
conj p q = ap₂ ◌&&◌ p q

every-from : {A : Type 0} (test : A → Bool) (otherwise : A) (xs : List A) → ((i : ℕ) → i < length xs → test (get_or xs i otherwise) ≡ true) → every test xs ≡ true
every-from test otherwise [] h = refl
every-from test otherwise (x ∷ xs) h = conj (h 0 (omega arith)) (every-from test otherwise xs (λ i l. h (suc i) (omega arith)))

pub some-fields : (fields : List (List ℕ)) → 0 < length fields → every (free Comma) fields ≡ true → fields_of (joined fields) ≡ fields
some-fields [] some h = absurd (omega arith)
some-fields (field ∷ fields) some h = fields_back field fields h

-- under a name that stands in the line, where each value is made by a rule of its name, is what the rule makes
under_back : (rule : List ℕ → List ℕ) (name : List ℕ) (names : List (List ℕ)) → 0 < occurs name names → under name names (map rule names) ≡ value_of (rule name)
under_back rule name [] h = absurd (omega arith)
under_back rule name (field ∷ fields) h = go (same field name) refl (under_back rule name fields)
  where
    go : (t : Bool) → same field name ≡ t → (0 < occurs name fields → under name fields (map rule fields) ≡ value_of (rule name))
        → under name (field ∷ fields) (map rule (field ∷ fields)) ≡ value_of (rule name)
    go true e below = rw e (ap (λ (n : List ℕ). value_of (rule n)) (same-eq field name e))
    go false e below = rw e (below (omega (arith, rw e at h)))

map_back : (f : List ℕ → ℤ) (g : ℤ → List ℕ) (zs : List ℤ) → ((i : ℕ) → i < length zs → f (g (get_or zs i (pos 0))) ≡ get_or zs i (pos 0)) → map f (map g zs) ≡ zs
map_back f g [] h = refl
map_back f g (z ∷ zs) h = ap₂ ◌∷◌ (h 0 (omega arith)) (map_back f g zs (λ i l. h (suc i) (omega arith)))

limit-small : (most : ℕ) (l : Limit) → most < 10 ^ 10 → limit_kept most l ≡ true → (n : ℕ) → l ≡ Some n → n < 10 ^ 10
limit-small most l m k n e = omega (arith, leb-true n most (ap (limit_kept most) (sym e) ∙ k))

limit-of-value : (l : Limit) → limit_of (limit_value l) ≡ l
limit-of-value None = refl
limit-of-value (Some n) = refl

-- ---- groups, and records, are alike where each field is

generator-alike : {a a' b b' c c' d d' e e' : ℕ} → a ≡ a' → b ≡ b' → c ≡ c' → d ≡ d' → e ≡ e'
    → ◌≡◌ {A = Generator} (record { block = a; pmin = b; pmax = c; mot = d; mdt = e }) (record { block = a'; pmin = b'; pmax = c'; mot = d'; mdt = e' })
generator-alike p q r s t = cc

costs-alike : {a a' b b' c c' : ℕ} → a ≡ a' → b ≡ b' → c ≡ c' → ◌≡◌ {A = Costs} (record { vec = a; mlc = b; suc = c }) (record { vec = a'; mlc = b'; suc = c' })
costs-alike p q r = cc

opening-alike : {a a' b b' : ℕ} → a ≡ a' → b ≡ b' → ◌≡◌ {A = Opening} (record { was = a; held = b }) (record { was = a'; held = b' })
opening-alike p q = cc

limits-alike : {a a' b b' c c' : Limit} → a ≡ a' → b ≡ b' → c ≡ c'
    → ◌≡◌ {A = Limits} (record { starts = a; hours = b; mwh = c }) (record { starts = a'; hours = b'; mwh = c' })
limits-alike p q r = cc

window-alike : {a a' b b' c c' d d' : ℕ} → a ≡ a' → b ≡ b' → c ≡ c' → d ≡ d'
    → ◌≡◌ {A = Window} (record { date = record { year = a; month = b; day = c }; word = d })
    (record { date = record { year = a'; month = b'; day = c' }; word = d' })
window-alike p q r s = cc

unit-alike : {g g' : Generator} {k k' : Costs} {o o' : Opening} {l l' : Limits} {h h' : Permit} → g ≡ g' → k ≡ k' → o ≡ o' → l ≡ l' → h ≡ h'
    → ◌≡◌ {A = UnitRecord} (record { generator = g; costs = k; opening = o; limits = l; permit = h })
    (record { generator = g'; costs = k'; opening = o'; limits = l'; permit = h' })
unit-alike p q r s t = cc

-- ---- a record and prices within range, and the names in some sequence

module _ (u : UnitRecord) (prices : List ℤ) (names : List (List ℕ))
    (kept : case_checked u (prices_kept prices) (length prices) ≡ Ok tt) (each : named (names_for u.permit) [] names ≡ true) where
  names-for : (p : Permit) → u.permit ≡ p → Named (names_for p) names
  names-for p is = names-are (names_for p) names (ap (λ (q : Permit). named (names_for q) [] names) (sym is) ∙ each)

  names-kept : Named (names_for u.permit) names
  names-kept = names-for u.permit refl

  some : 0 < length names
  some = some-name (names_for u.permit) names names-kept (omega arith)

  -- a test that each name of the tables passes, every name passes
  names-pass : (test : List ℕ → Bool) → every test unit_names ≡ true → every test (unit_names ++ dated_names) ≡ true → every test names ≡ true
  names-pass test plain dated = of-names (names_for u.permit) names test (every-name test plain dated u.permit) names-kept.no_other

  case-kept : Passing u (prices_kept prices) (length prices)
  case-kept = passing u (prices_kept prices) (length prices) kept

  ranges : InRange u
  ranges = in-range u case-kept.order.ranges

  -- ---- of a record with a date

  module _ (w : Window) (is : u.permit ≡ Some w) where
    dated-ranges : WindowRanges w
    dated-ranges = window-ranges w (ap permit_kept (sym is) ∙ ranges.permit)

    dated-shown : (name : List ℕ) → shown_dated u.permit name ≡ shown_dated (Some w) name
    dated-shown name = ap (λ (p : Permit). shown_dated p name) is

  -- ---- tests that what is shown passes

  abbrev values : List (List ℕ)
  values = map (shown_field u) names

  abbrev rows : List (List ℕ)
  rows = map shown_price prices

  dated-pass : (test : List ℕ → Bool) → ((n : ℕ) → n < 10 ^ 10 → test (shown_whole n) ≡ true) → (p : Permit) → u.permit ≡ p
      → every (λ name. test (shown_field u name)) (dated_for p) ≡ true
  dated-pass test whole None is = refl
  dated-pass test whole (Some w) is =
      let r = dated-ranges w is in
      let shown = dated-shown w is in
      conj (ap test (shown year_name) ∙ whole w.date.year (omega (arith, r.year-most)))
      (conj (ap test (shown month_name) ∙ whole w.date.month (omega (arith, r.month-most)))
      (conj (ap test (shown day_name) ∙ whole w.date.day (omega (arith, r.day-most)))
      (conj (ap test (shown window_name) ∙ whole w.word (omega (arith, r.word-most))) refl)))

  -- a test that every number and every limitation passes as it is shown, every field of the record passes
  fields-pass : (test : List ℕ → Bool) → ((n : ℕ) → n < 10 ^ 10 → test (shown_whole n) ≡ true)
      → ((l : Limit) → ((n : ℕ) → l ≡ Some n → n < 10 ^ 10) → test (shown_limit l) ≡ true)
      → every (λ name. test (shown_field u name)) (names_for u.permit) ≡ true
  fields-pass test whole limit =
      let r = ranges in
      conj (whole u.generator.block (omega (arith, r.generator.block-most)))
      (conj (whole u.generator.pmin (omega (arith, r.generator.pmin-most)))
      (conj (whole u.generator.pmax (omega (arith, r.generator.pmax-most)))
      (conj (whole u.generator.mot (omega (arith, r.generator.mot-most)))
      (conj (whole u.generator.mdt (omega (arith, r.generator.mdt-most)))
      (conj (whole u.opening.was (omega (arith, r.opening.was-most)))
      (conj (whole u.opening.held (omega (arith, r.opening.held-most)))
      (conj (whole u.costs.vec (omega (arith, r.costs.vec-most)))
      (conj (whole u.costs.mlc (omega (arith, r.costs.mlc-most)))
      (conj (whole u.costs.suc (omega (arith, r.costs.suc-most)))
      (conj (limit u.limits.starts (limit-small most_starts u.limits.starts (omega arith) r.limits.starts-kept))
      (conj (limit u.limits.hours (limit-small most_hours u.limits.hours (omega arith) r.limits.hours-kept))
      (conj (limit u.limits.mwh (limit-small most_mwh u.limits.mwh (omega arith) r.limits.mwh-kept))
      (dated-pass test whole u.permit refl)))))))))))))

  values-pass : (test : List ℕ → Bool) → every (λ name. test (shown_field u name)) (names_for u.permit) ≡ true → every test values ≡ true
  values-pass test h =
      sym (every_map test (shown_field u) names)
      ∙ of-names (names_for u.permit) names (λ name. test (shown_field u name)) h names-kept.no_other

  rows_pass : (test : List ℕ → Bool) → ((z : ℤ) → nat_abs z < 10 ^ 10 → test (shown_price z) ≡ true) → every test rows ≡ true
  rows_pass test price =
      sym (every_map test shown_price prices)
      ∙ every-from (λ z. test (shown_price z)) (pos 0) prices (λ i h. price (get_or prices i (pos 0)) (omega (arith, prices-small _ case-kept.prices i h)))

  -- ---- the lines and their fields

  names-back : fields_of (joined names) ≡ names
  unfolding is_of
  names-back = some-fields names some (names-pass (free Comma) refl refl)

  values-back : fields_of (joined values) ≡ values
  values-back =
      some-fields values (omega (arith, some, length-map names (shown_field u)))
      (values-pass (free Comma) (fields-pass (free Comma) (λ n h. (whole-unparted n h).no-comma) (λ l h. (limit-unparted l h).no-comma)))

  abbrev parts : List (List ℕ)
  parts = joined names ∷ joined values ∷ [] ∷ price_name ∷ rows

  parts_free : every (free LineEnd) parts ≡ true
  unfolding is_of
  parts_free =
      conj (joined_line names (names-pass (free LineEnd) refl refl))
      (conj
      (joined_line values
      (values-pass (free LineEnd) (fields-pass (free LineEnd) (λ n h. (whole-unparted n h).no_end) (λ l h. (limit-unparted l h).no_end))))
      (rows_pass (free LineEnd) (λ z h. (price-unparted z h).no_end)))

  abbrev text : List ℕ
  text = written names u prices

  lines_are : lines_of text ≡ parts
  unfolding written
  lines_are = lines-back parts parts_free

  head-is : unit_head text ≡ joined names
  head-is = ap (λ (ls : List (List ℕ)). get_or ls 0 []) lines_are

  row_is : unit_row text ≡ joined values
  row_is = ap (λ (ls : List (List ℕ)). get_or ls 1 []) lines_are

  price-head-is : price_head text ≡ price_name
  price-head-is = ap (λ (ls : List (List ℕ)). get_or ls 3 []) lines_are

  price-rows-are : price_rows text ≡ rows
  price-rows-are = ap (λ (ls : List (List ℕ)). drop 4 ls) lines_are

  -- ---- the form

  value-is : (s : List ℕ) (v : Value) → value_of s ≡ v → well_formed v ≡ true → is_value s ≡ true
  unfolding is_value
  value-is s v e w = ap well_formed e ∙ w

  limit-value : (l : Limit) → well_formed (limit_value l) ≡ true
  limit-value None = refl
  limit-value (Some n) = refl

  as_many : length (fields_of (joined values)) ≡ length (fields_of (joined names))
  as_many = rw (values-back, names-back) (length-map names (shown_field u))

  values-kept : every is_value values ≡ true
  values-kept =
      values-pass is_value
      (fields-pass is_value (λ n h. value-is (shown_whole n) (Number (pos n)) (whole_back n h) refl)
      (λ l h. value-is (shown_limit l) (limit_value l) (limit-back l h) (limit-value l)))

  unit-table : table_formed (joined names) (joined values ∷ []) ≡ true
  unfolding is_name is_of
  unit-table =
      conj (ap (every is_name) names-back ∙ names-pass is_name refl refl)
      (conj (conj (eq-eqb _ _ as_many) (ap (every is_value) values-back ∙ values-kept)) refl)

  price-line : (z : ℤ) → nat_abs z < 10 ^ 10 → value_line 1 (shown_price z) ≡ true
  price-line z h =
      let f = field-alone (shown_price z) (price-unparted z h).no-comma in
      conj (eq-eqb (length (fields_of (shown_price z))) 1 (ap (λ (l : List (List ℕ)). length l) f))
      (ap (every is_value) f ∙ conj (value-is (shown_price z) (Number z) (price-back z h) refl) refl)

  price-table : table_formed price_name rows ≡ true
  unfolding is_name is_of
  price-table = rows_pass (value_line 1) price-line

  module _ (room : ℕ) (short : length text ≤ most_bytes) (fits : length prices ≤ room) where
    form : form_kept text ≡ true
    unfolding form_kept written
    form =
        conj (conj (conj (conj (conj (le-leb (length text) most_bytes short) (closing-closed (joined names) (joined values ∷ [] ∷ price_name ∷ rows)))
        (ap (λ (ls : List (List ℕ)). leb 4 (length ls)) lines_are ∙ le-leb 4 (length parts) (omega arith)))
        (ap (λ (ls : List (List ℕ)). is_empty (get_or ls 2 [])) lines_are))
        (ap₂ (λ (head row : List ℕ). table_formed head (row ∷ [])) head-is row_is ∙ unit-table))
        (ap₂ table_formed price-head-is price-rows-are ∙ price-table)

    named-text : names_kept text ≡ true
    unfolding names_kept is_of
    named-text =
        conj (ap (named unit_names unit_groups) (ap fields_of head-is ∙ names-back) ∙ unit-named names u.permit each)
        (ap (λ (head : List ℕ). named price_names [] (fields_of head)) price-head-is)

    -- ---- the record and the prices

    whole-field : (name : List ℕ) → occurs name names ≡ 1 → (n : ℕ) → n < 10 ^ 10 → shown_field u name ≡ shown_whole n → whole_of (under name names values) ≡ n
    whole-field name once n b e = ap whole_of (under_back (shown_field u) name names (omega (arith, once)) ∙ ap value_of e ∙ whole_back n b)

    limit-field : (name : List ℕ) → occurs name names ≡ 1 → (most : ℕ) → most < 10 ^ 10 → (l : Limit) → limit_kept most l ≡ true
        → shown_field u name ≡ shown_limit l → limit_of (under name names values) ≡ l
    limit-field name once most m l b e =
        ap limit_of (under_back (shown_field u) name names (omega (arith, once)) ∙ ap value_of e ∙ limit-back l (limit-small most l m b)) ∙ limit-of-value l

    -- the four names stand where the record has a date
    told : (p : Permit) → u.permit ≡ p → permit_of names values ≡ cond (dated p) (Some (window_of names values)) None
    told p is = ap (λ (t : Bool). cond t (Some (window_of names values)) None) (year-tells names p (names-for p is))

    permit-is : (p : Permit) → u.permit ≡ p → permit_of names values ≡ p
    permit-is None is = told None is
    permit-is (Some w) is =
        let once = (names-for (Some w) is).once in
        let r = dated-ranges w is in
        let shown = dated-shown w is in
        told (Some w) is
        ∙ ap Some
        (window-alike
        (whole-field year_name (once 13 (omega arith)) w.date.year (omega (arith, r.year-most)) (shown year_name))
        (whole-field month_name (once 14 (omega arith)) w.date.month (omega (arith, r.month-most)) (shown month_name))
        (whole-field day_name (once 15 (omega arith)) w.date.day (omega (arith, r.day-most)) (shown day_name))
        (whole-field window_name (once 16 (omega arith)) w.word (omega (arith, r.word-most)) (shown window_name)))

    fields-are : unit_of names values ≡ u
    fields-are =
        let r = ranges in
        let once = names-kept.once in
        unit-alike
        (generator-alike
        (whole-field block_name (once 0 (omega arith)) u.generator.block (omega (arith, r.generator.block-most)) refl)
        (whole-field pmin_name (once 1 (omega arith)) u.generator.pmin (omega (arith, r.generator.pmin-most)) refl)
        (whole-field pmax_name (once 2 (omega arith)) u.generator.pmax (omega (arith, r.generator.pmax-most)) refl)
        (whole-field mot_name (once 3 (omega arith)) u.generator.mot (omega (arith, r.generator.mot-most)) refl)
        (whole-field mdt_name (once 4 (omega arith)) u.generator.mdt (omega (arith, r.generator.mdt-most)) refl))
        (costs-alike
        (whole-field vec_name (once 7 (omega arith)) u.costs.vec (omega (arith, r.costs.vec-most)) refl)
        (whole-field mlc_name (once 8 (omega arith)) u.costs.mlc (omega (arith, r.costs.mlc-most)) refl)
        (whole-field suc_name (once 9 (omega arith)) u.costs.suc (omega (arith, r.costs.suc-most)) refl))
        (opening-alike
        (whole-field was_name (once 5 (omega arith)) u.opening.was (omega (arith, r.opening.was-most)) refl)
        (whole-field held_name (once 6 (omega arith)) u.opening.held (omega (arith, r.opening.held-most)) refl))
        (limits-alike
        (limit-field starts_name (once 10 (omega arith)) most_starts (omega arith) u.limits.starts r.limits.starts-kept refl)
        (limit-field hours_name (once 11 (omega arith)) most_hours (omega arith) u.limits.hours r.limits.hours-kept refl)
        (limit-field mwh_name (once 12 (omega arith)) most_mwh (omega arith) u.limits.mwh r.limits.mwh-kept refl))
        (permit-is u.permit refl)

    unit-is : unit_in text ≡ u
    unfolding unit_in
    unit-is = ap₂ unit_of (ap fields_of head-is ∙ names-back) (ap fields_of row_is ∙ values-back) ∙ fields-are

    price-is : (z : ℤ) → nat_abs z < 10 ^ 10 → price_of price_name (shown_price z) ≡ z
    unfolding is_of
    price-is z h =
        ap (λ (fields : List (List ℕ)). cents_of (under price_name (fields_of price_name) fields)) (field-alone (shown_price z) (price-unparted z h).no-comma)
        ∙ ap cents_of (price-back z h)

    prices-are : prices_in text ≡ prices
    unfolding prices_in
    prices-are =
        ap₂ (λ (head : List ℕ) (ls : List (List ℕ)). map (price_of head) ls) price-head-is price-rows-are
        ∙ map_back (price_of price_name) shown_price prices (λ i h. price-is (get_or prices i (pos 0)) (omega (arith, prices-small _ case-kept.prices i h)))

    -- ---- what is read

    passed : text_checked text room ≡ Ok tt
    unfolding case_in
    passed =
        text_in-turn text room
        ∙ ap (λ (k : Checked). checked_then k (first_of (room_checks text room))) (sym (case-decides text form named-text))
        ∙ rw (unit-is, prices-are, kept, le-leb (length prices) room fits)

    case-read : read_case text room ≡ case_with u (length prices)
    unfolding read_case
    case-read = ap₂ (λ (k : Checked) (v : UnitRecord). read_by k v (length (prices_in text))) passed unit-is ∙ ap (λ (l : List ℤ). case_with u (length l)) prices-are

-- what is written is read: the answer is the record, and the slice has the prices in front and behind them what was there
pub written_read : (u : UnitRecord) (prices : List ℤ) (names : List (List ℕ)) (slice : List ℤ) → case_checked u (prices_kept prices) (length prices) ≡ Ok tt
    → named (names_for u.permit) [] names ≡ true → length (written names u prices) ≤ most_bytes → length prices ≤ length slice
    → (read_case (written names u prices) (length slice) ≡ case_with u (length prices))
    × (read_prices (written names u prices) slice ≡ prices ++ drop (length prices) slice)
written_read u prices names slice kept each short fits =
    let room = length slice in (
      case-read u prices names kept each room short fits,
      sym (answer-read (written names u prices) slice (passed u prices names kept each room short fits)).1
          ∙ ap (λ (l : List ℤ). l ++ drop (length l) slice) (prices-are u prices names kept each room short fits),
    )

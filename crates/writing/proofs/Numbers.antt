-- Numbers and limitations that are written are read back.
use Rattle.std.specs.Prelude.{None, Some}
use mathlib.Core.Path.{◌≡◌, refl, ap, ◌∙◌}
use mathlib.Core.Bool.{Bool, true, false, ◌&&◌, not, cond}
use mathlib.Core.List.{List, [], ◌∷◌}
use Prim.Native.Nat.{ℕ, zero, suc, ◌+◌, ◌-◌, ◌*◌, ◌/◌, ◌%◌, ◌≤◌, ◌<◌, ◌^◌}
use native.Mathlib.Nat.{pow-suc}
use native.Mathlib.Omega.{arith}
use lib.Dec.{ltb, leb, eqb}
use lib.IntN.{ℤ, pos, negsuc, nat_abs}
use lib.ListN.{length}
use borrow.Author.Tests.{ltb-true, ltb-false, le-leb, ne_eqb, eqb-true}
use Rattle.commitment.specs.Types.{Limit}
use Rattle.lists.specs.Every.{every}
use Rattle.lists.proofs.Conjunctions.{both}
use Rattle.tabletext.specs.declared.Class.{Class}
use Rattle.tabletext.specs.declared.Class.TheVariants.{Digit, Comma, LineEnd}
use Rattle.tabletext.specs.declared.Value.TheVariants.{Number}
use Rattle.tabletext.specs.Bytes.{rank, class_of, is_of, same}
use Rattle.tabletext.specs.Values.{from_digits, lead_kept, numeral, negated, none_word, value_of}
use Rattle.tabletext.proofs.Digits.{digit-range}
use Rattle.writing.specs.Writing.{digits_of, shown_whole, shown_price, shown_limit}
use Rattle.writing.specs.AsWritten.{limit_value}
use Rattle.writing.proofs.Pieces.{free}

-- ---- digits

is_digit : (k : ℕ) → k < 10 → is_of Digit (48 + k) ≡ true
unfolding is_of
is_digit k h = simp (le-leb 48 (48 + k) (omega arith), le-leb (48 + k) 57 (omega arith))

-- some digit that is no zero leads
abbrev leads : List ℕ → Bool
leads [] = false
leads (b ∷ bs) = not (eqb b 48)

leads-kept : (s : List ℕ) → leads s ≡ true → lead_kept s ≡ true
leads-kept [] e = e
leads-kept (b ∷ []) e = refl
leads-kept (b ∷ d ∷ bs) e = e

-- digits in front of others
record Digits (n : ℕ) (others s : List ℕ) : Type 0 where
  number : from_digits 0 s ≡ from_digits n others
  first : 0 < n → leads s ≡ true
  each : every (is_of Digit) others ≡ true → every (is_of Digit) s ≡ true

last-digit : (n : ℕ) (others : List ℕ) → n < 10 → Digits n others ((48 + n) ∷ others)
last-digit n others h =
    let z : 0 * 10 + (48 + n - 48) ≡ n = omega arith in
    record {
      number = ap (λ (m : ℕ). from_digits m others) z;
      first = λ p. ap not (ne_eqb (48 + n) 48 (λ e. omega arith));
      each = λ e. rw (is_digit n h, e);
    }

more-digits : (n : ℕ) (others s : List ℕ) → 10 ≤ n → Digits (n / 10) ((48 + n % 10) ∷ others) s → Digits n others s
more-digits n others s h d =
    let z : n / 10 * 10 + (48 + n % 10 - 48) ≡ n = omega arith in
    record {
      number = d.number ∙ ap (λ (m : ℕ). from_digits m others) z;
      first = λ p. d.first (omega arith);
      each = λ e. d.each (rw (is_digit (n % 10) (omega arith), e));
    }

one_more : (k n : ℕ) (others : List ℕ) (t : Bool) → ltb n 10 ≡ t
    → (10 ≤ n → Digits (n / 10) ((48 + n % 10) ∷ others) (digits_of k (n / 10) ((48 + n % 10) ∷ others)))
    → Digits n others (digits_of (suc k) n others)
one_more k n others true e d = rw e (last-digit n others (ltb-true n 10 e))
one_more k n others false e d = let h : 10 ≤ n = ltb-false n 10 e in rw e (more-digits n others _ h (d h))

digits-back : (k n : ℕ) (others : List ℕ) → n < 10 ^ suc k → Digits n others (digits_of (suc k) n others)
digits-back zero n others h = one_more zero n others (ltb n 10) refl (λ g. absurd (omega (arith, pow-suc 10 0)))
digits-back (suc k) n others h =
    let b : n / 10 < 10 ^ suc k = omega (arith, pow-suc 10 (suc k)) in
    one_more (suc k) n others (ltb n 10) refl (λ g. digits-back k (n / 10) ((48 + n % 10) ∷ others) b)

few-digits : (k n : ℕ) (others : List ℕ) → length (digits_of k n others) ≤ k + length others
few-digits zero n others = omega arith
few-digits (suc k) n others = go (ltb n 10) (few-digits k (n / 10) ((48 + n % 10) ∷ others))
  where
    go : (t : Bool) → length (digits_of k (n / 10) ((48 + n % 10) ∷ others)) ≤ k + suc (length others)
        → length (cond t ((48 + n) ∷ others) (digits_of k (n / 10) ((48 + n % 10) ∷ others))) ≤ suc k + length others
    go true h = omega arith
    go false h = omega arith

-- ---- a number of at most ten digits

record Shown (n : ℕ) (s : List ℕ) : Type 0 where
  numeral-is : numeral s ≡ true
  digits : every (is_of Digit) s ≡ true
  number : from_digits 0 s ≡ n

shown : (n : ℕ) → n < 10 ^ 10 → Shown n (shown_whole n)
unfolding numeral is_of
shown zero h = record { numeral-is = refl; digits = refl; number = refl }
shown (suc n) h =
    let s = shown_whole (suc n) in
    let d = digits-back 9 (suc n) [] h in
    record {
      numeral-is = rw (leads-kept s (d.first (omega arith)), d.each refl, le-leb (length s) 10 (omega (arith, few-digits 10 (suc n) [])));
      digits = d.each refl;
      number = d.number;
    }

-- digits are not the word `none`
not_none : (s : List ℕ) → every (is_of Digit) s ≡ true → same s none_word ≡ false
not_none [] e = refl
not_none (b ∷ bs) e =
    let d = digit-range b (both (is_of Digit b) (every (is_of Digit) bs) e).0 in
    rw (ne_eqb b 110 (λ q. omega arith))

numeral-value : (s : List ℕ) → numeral s ≡ true → every (is_of Digit) s ≡ true → value_of s ≡ Number (pos (from_digits 0 s))
unfolding value_of
numeral-value s e d = rw (not_none s d, e)

pub whole_back : (n : ℕ) → n < 10 ^ 10 → value_of (shown_whole n) ≡ Number (pos n)
whole_back n h =
    let k = shown n h in
    numeral-value (shown_whole n) k.numeral-is k.digits ∙ ap (λ (m : ℕ). Number (pos m)) k.number

-- ---- a number below 0

negated_back : (s : List ℕ) (n : ℕ) → numeral s ≡ true → from_digits 0 s ≡ suc n → negated s ≡ Number (negsuc n)
negated_back s n e d = rw (e, d, ne_eqb (suc n) 0 (λ q. omega arith))

minus-numeral : (s : List ℕ) → numeral (45 ∷ s) ≡ false
unfolding numeral is_of
minus-numeral s = go (lead_kept (45 ∷ s))
  where
    go : (t : Bool) → t && false && leb (length (45 ∷ s)) 10 ≡ false
    go true = refl
    go false = refl

minus-value : (s : List ℕ) → value_of (45 ∷ s) ≡ negated s
unfolding value_of is_of
minus-value s = rw (minus-numeral s)

pub price-back : (z : ℤ) → nat_abs z < 10 ^ 10 → value_of (shown_price z) ≡ Number z
price-back (pos n) h = whole_back n h
price-back (negsuc n) h =
    let k = shown (suc n) h in
    minus-value (shown_whole (suc n)) ∙ negated_back (shown_whole (suc n)) n k.numeral-is k.number

pub limit-back : (l : Limit) → ((n : ℕ) → l ≡ Some n → n < 10 ^ 10) → value_of (shown_limit l) ≡ limit_value l
unfolding value_of
limit-back None h = refl
limit-back (Some n) h = whole_back n (h n refl)

-- ---- none of these has a byte that parts

other-class : (b : ℕ) (mark : Class) → eqb 0 (rank mark) ≡ false → is_of Digit b ≡ true → is_of mark b ≡ false
unfolding is_of
other-class b mark m e = ap (λ (k : ℕ). eqb k (rank mark)) (eqb-true (rank (class_of b)) 0 e) ∙ m

digits-free : (mark : Class) → eqb 0 (rank mark) ≡ false → (s : List ℕ) → every (is_of Digit) s ≡ true → free mark s ≡ true
digits-free mark m [] e = refl
digits-free mark m (b ∷ bs) e =
    let p = both (is_of Digit b) (every (is_of Digit) bs) e in
    rw (other-class b mark m p.0) (digits-free mark m bs p.1)

pub record Unparted (s : List ℕ) : Type 0 where
  pub no-comma : free Comma s ≡ true
  pub no_end : free LineEnd s ≡ true

pub whole-unparted : (n : ℕ) → n < 10 ^ 10 → Unparted (shown_whole n)
whole-unparted n h =
    let d = (shown n h).digits in
    record { no-comma = digits-free Comma refl (shown_whole n) d; no_end = digits-free LineEnd refl (shown_whole n) d }

pub price-unparted : (z : ℤ) → nat_abs z < 10 ^ 10 → Unparted (shown_price z)
unfolding is_of
price-unparted (pos n) h = whole-unparted n h
price-unparted (negsuc n) h = let w = whole-unparted (suc n) h in record { no-comma = w.no-comma; no_end = w.no_end }

pub limit-unparted : (l : Limit) → ((n : ℕ) → l ≡ Some n → n < 10 ^ 10) → Unparted (shown_limit l)
unfolding is_of
limit-unparted None h = record { no-comma = refl; no_end = refl }
limit-unparted (Some n) h = whole-unparted n (h n refl)

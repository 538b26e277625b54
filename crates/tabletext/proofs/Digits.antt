-- Digits: their bytes, and how many a number has.
use mathlib.Core.Path.{◌≡◌, refl}
use mathlib.Core.Bool.{Bool, true, false, cond, false≢true}
use mathlib.Core.List.{List}
use Prim.Native.Nat.{ℕ, ◌+◌, ◌-◌, ◌*◌, ◌≤◌, ◌<◌, ◌^◌}
use native.Mathlib.Nat.{pow-le-pow_right, pow-suc}
use native.Mathlib.Numerals.{add-one}
use native.Mathlib.Omega.{arith}
use lib.Dec.{leb, eqb}
use lib.ListN.{length, drop, get_or}
use borrow.Author.Tests.{leb-true}
use Rattle.lists.proofs.Fills.{drop-next}
use Rattle.lists.specs.Every.{every}
use Rattle.lists.proofs.Conjunctions.{both}
use Rattle.lists.proofs.Every.{every-at}
use Rattle.tabletext.specs.declared.Class.TheVariants.{Digit, Letter, Comma, Minus, LineEnd, Refused}
use Rattle.tabletext.specs.Bytes.{between, rank, is_of}
use Rattle.tabletext.specs.Values.{from_digits, lead_kept, most_digits, numeral}

no_other : (t u v w : Bool) → eqb (rank (cond t Letter (cond u Comma (cond v Minus (cond w LineEnd Refused))))) 0 ≡ true → ⊥
no_other true u v w q = false≢true q
no_other false true v w q = false≢true q
no_other false false true w q = false≢true q
no_other false false false true q = false≢true q
no_other false false false false q = false≢true q

pub digit-range : (b : ℕ) → is_of Digit b ≡ true → (48 ≤ b) × (b ≤ 57)
unfolding is_of
digit-range b p = go (between 48 b 57) refl p
  where
    go : (t : Bool) → between 48 b 57 ≡ t
        → eqb (rank (cond t Digit (cond (between 97 b 122) Letter (cond (eqb b 44) Comma (cond (eqb b 45) Minus (cond (eqb b 10) LineEnd Refused)))))) 0 ≡ true
        → (48 ≤ b) × (b ≤ 57)
    go true e q = let r = both (leb 48 b) (leb b 57) e in (leb-true 48 b r.0, leb-true b 57 r.1)
    go false e q = absurd (no_other (between 97 b 122) (eqb b 44) (eqb b 45) (eqb b 10) q)

-- what it says of a string that it is a numeral
pub record Numeral (s : List ℕ) : Type 0 where
  pub lead : lead_kept s ≡ true
  pub digits : every (is_of Digit) s ≡ true
  pub most : length s ≤ 10

pub numeral-is : (s : List ℕ) → numeral s ≡ true → Numeral s
unfolding numeral
numeral-is s p =
    let q = both _ (leb (length s) 10) p in
    let r = both (lead_kept s) (every (is_of Digit) s) q.0 in
    record { lead = r.0; digits = r.1; most = leb-true (length s) 10 q.1 }

tens : (i j : ℕ) → i ≤ j → 10 ^ i ≤ 10 ^ j
tens i j h = pow-le-pow_right (omega arith) {i = i} {j = j} h

-- one digit more: n stands for the digits before place i
pub record NextDigit (s : List ℕ) (n i : ℕ) : Type 0 where
  pub least : 48 ≤ get_or s i 0
  pub most : get_or s i 0 ≤ 57
  pub small : n < 1000000000
  pub next : n * 10 + (get_or s i 0 - 48) < 10 ^ (i + 1)
  pub on : from_digits n (drop i s) ≡ from_digits (n * 10 + (get_or s i 0 - 48)) (drop (i + 1) s)

pub next-digit : (s : List ℕ) (n i : ℕ) → numeral s ≡ true → i < length s → n < 10 ^ i → NextDigit s n i
next-digit s n i p h b =
    let k = numeral-is s p in
    let d = digit-range (get_or s i 0) (every-at (is_of Digit) 0 s i k.digits h) in
    let m : 10 ^ i ≤ 10 ^ 9 = tens i 9 (omega arith) in
    let q : 10 ^ (i + 1) ≡ 10 ^ i * 10 = rw add-one (pow-suc 10 i) in
    record { least = d.0; most = d.1; small = omega arith; next = omega arith; on = rw (drop-next s i 0 h) }

-- ten digits stand for less than 10^10
pub all_digits : (n i : ℕ) → i ≤ most_digits → n < 10 ^ i → n < 10 ^ most_digits
all_digits n i h b = omega (arith, tens i most_digits h)

-- Names, and the values that fields hold (specification 11).
use Rattle.std.specs.Prelude.{Bool, true, false, ◌&&◌, not, cond, List, [], ◌∷◌, ℕ, ◌+◌, ◌-◌, ◌*◌, leb, eqb, ltb, pos, neg_ℤ, length}
use Rattle.lists.specs.Every.{every}
use Rattle.lists.specs.Text.{bytes}
use Rattle.tabletext.specs.declared.Class.TheVariants.{Digit, Letter, Minus}
use Rattle.tabletext.specs.declared.Value.{Value}
use Rattle.tabletext.specs.declared.Value.TheVariants.{Malformed, WordNone, Number}
use Rattle.tabletext.specs.Bytes.{is_of, same}

-- a name is one or more letters
unfoldable pub is_name : List ℕ → Bool
is_name s = ltb 0 (length s) && every (is_of Letter) s

-- the number that digits stand for, after others that stand for n
abbrev pub from_digits : ℕ → List ℕ → ℕ
from_digits n [] = n
from_digits n (b ∷ bs) = from_digits (n * 10 + (b - 48)) bs

-- some digit leads, and a zero only where no other follows
abbrev pub lead_kept : List ℕ → Bool
lead_kept [] = false
lead_kept (b ∷ []) = true
lead_kept (b ∷ c ∷ bs) = not (eqb b 48)

abbrev pub most_digits : ℕ
most_digits = 10

-- 1 to 10 digits without needless leading zeros
unfoldable pub numeral : List ℕ → Bool
numeral s = lead_kept s && every (is_of Digit) s && leb (length s) most_digits

-- a minus is allowed except on 0
abbrev pub negated : List ℕ → Value
negated s = cond (numeral s && not (eqb (from_digits 0 s) 0)) (Number (neg_ℤ (pos (from_digits 0 s)))) Malformed

abbrev pub negative : List ℕ → Value
negative [] = Malformed
negative (b ∷ bs) = cond (is_of Minus b) (negated bs) Malformed

abbrev pub none_word : List ℕ
none_word = bytes "none"

-- a value is `none`, or such digits with or without a minus
unfoldable pub value_of : List ℕ → Value
value_of s = cond (same s none_word) WordNone (cond (numeral s) (Number (pos (from_digits 0 s))) (negative s))

abbrev pub well_formed : Value → Bool
well_formed Malformed = false
well_formed WordNone = true
well_formed (Number z) = true

unfoldable pub is_value : List ℕ → Bool
is_value s = well_formed (value_of s)

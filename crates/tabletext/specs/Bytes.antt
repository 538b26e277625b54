-- The bytes of a text, by class (specification 11).
use Rattle.std.specs.Prelude.{Bool, ◌&&◌, cond, List, ℕ, leb, eqb}
use Rattle.std.specs.Cmp.Lexicographic.{pointwise}
use Rattle.tabletext.specs.declared.Class.{Class}
use Rattle.tabletext.specs.declared.Class.TheVariants.{Digit, Letter, Comma, Minus, LineEnd, Refused}

abbrev pub between : ℕ → ℕ → ℕ → Bool
between least n most = leb least n && leb n most

-- digits 48 to 57, minus 45, comma 44, letters 97 to 122 and line end 10
abbrev pub class_of : ℕ → Class
class_of b =
    cond (between 48 b 57) Digit
    (cond (between 97 b 122) Letter
    (cond (eqb b 44) Comma
    (cond (eqb b 45) Minus
    (cond (eqb b 10) LineEnd Refused))))

-- a number for each class, to tell them apart by
abbrev pub rank : Class → ℕ
rank Digit = 0
rank Letter = 1
rank Comma = 2
rank Minus = 3
rank LineEnd = 4
rank Refused = 5

unfoldable pub is_of : Class → ℕ → Bool
is_of class b = eqb (rank (class_of b)) (rank class)

-- two strings of bytes are alike: as long, and equal byte by byte
abbrev pub same : List ℕ → List ℕ → Bool
same a b = pointwise eqb a b

-- Classes compared: two are one where their numbers are.
use Rattle.std.proofs.Common.{◌≡◌, refl}
use mathlib.Core.Path.{ap₂}
use lib.Dec.{eqb}
use denote.Enum.Bare.{sameb}
use denote.Enum.Declared.{tag_of}
use Rattle.tabletext.specs.contracts.Class.{the_type}
use Rattle.tabletext.specs.declared.Class.{Class}
use Rattle.tabletext.specs.declared.Class.TheVariants.{Digit, Letter, Comma, Minus, LineEnd, Refused}
use Rattle.tabletext.specs.Bytes.{rank}

ranked : (a : Class) → tag_of the_type a ≡ rank a
ranked Digit = refl
ranked Letter = refl
ranked Comma = refl
ranked Minus = refl
ranked LineEnd = refl
ranked Refused = refl

pub same_rank : (a b : Class) → sameb the_type a b ≡ eqb (rank a) (rank b)
same_rank a b = ap₂ eqb (ranked a) (ranked b)

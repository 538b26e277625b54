-- What the planning program has room for (specification 13): the numbers stand here, and the program and the statements about it take them from here.
use Rattle.std.specs.Prelude.{ℕ, suc}
use Rattle.casetext.specs.Form.{most_bytes}

-- one byte more than a text may have, so that a longer one shows
abbrev pub text_room : ℕ
text_room = suc most_bytes

-- prices of a text, and entries of the schedule
abbrev pub price_room : ℕ
price_room = 6144

abbrev pub cell_room : ℕ
cell_room = 4000

-- the bytes printed
abbrev pub out_room : ℕ
out_room = 26930

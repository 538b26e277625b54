-- Text in definitions: the codes of its characters, one byte each in ASCII.
use Rattle.std.specs.Prelude.{List, [], ◌∷◌, ℕ, zero, suc}
use Prim.Native.Char.{code}
use Prim.Native.String.{String, len, char_at}

abbrev codes_from : ℕ → ℕ → String → List ℕ
codes_from at zero text = []
codes_from at (suc count) text = code (char_at text at) ∷ codes_from (suc at) count text

-- `bytes "mot"` is 109 ∷ 111 ∷ 116 ∷ []
abbrev pub bytes : String → List ℕ
bytes text = codes_from 0 (len text) text

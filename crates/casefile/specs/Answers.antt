-- What reading answers and what it leaves in the price slice (specification 14, 15).
use Rattle.std.specs.Prelude.{List, [], ◌++◌, ℕ, ℤ, length, drop, None, Ok, Err}
use Rattle.commitment.specs.Types.{Checked}
use Rattle.commitment.specs.declared.UnitRecord.{UnitRecord}
use Rattle.commitment.specs.Causes.{number_of}
use Rattle.casefile.specs.Types.{CaseRead, case_with}
use Rattle.casefile.specs.Reading.{unit_in, prices_in, written_checked, text_checked}

abbrev pub read_by : Checked → UnitRecord → ℕ → CaseRead
read_by (Ok _) unit count = case_with unit count
read_by (Err cause) unit count = Err cause

-- the prices in front, and what lies past them as it was; on a refusal all as it was
abbrev pub prices_left : Checked → List ℤ → List ℤ → List ℤ
prices_left (Ok _) prices slice = prices ++ drop (length prices) slice
prices_left (Err cause) prices slice = slice

-- on a refusal the part that comes back is empty
abbrev pub front_part : Checked → List ℤ → List ℤ
front_part (Ok _) prices = prices
front_part (Err cause) prices = []

-- what a text holds, before anything is written
unfoldable pub case_found : List ℕ → CaseRead
case_found text = read_by (written_checked text) (unit_in text) (length (prices_in text))

-- of a text and a slice with room for so many prices
unfoldable pub read_case : List ℕ → ℕ → CaseRead
read_case text room = read_by (text_checked text room) (unit_in text) (length (prices_in text))

unfoldable pub read_prices : List ℕ → List ℤ → List ℤ
read_prices text slice = prices_left (text_checked text (length slice)) (prices_in text) slice

unfoldable pub read_part : List ℕ → ℕ → List ℤ
read_part text room = front_part (text_checked text room) (prices_in text)

-- ---- the number, the count and the record of an answer: on a refusal every other number is 0, every limitation `none`, every hour permitted

abbrev pub no_unit : UnitRecord
no_unit =
    record {
      generator = record { block = 0; pmin = 0; pmax = 0; mot = 0; mdt = 0 };
      costs = record { vec = 0; mlc = 0; suc = 0 };
      opening = record { was = 0; held = 0 };
      limits = record { starts = None; hours = None; mwh = None };
      permit = None;
    }

abbrev pub read_count : CaseRead → ℕ
read_count (Ok case) = case.count
read_count (Err cause) = 0

abbrev pub read_unit : CaseRead → UnitRecord
read_unit (Ok case) = case.unit
read_unit (Err cause) = no_unit

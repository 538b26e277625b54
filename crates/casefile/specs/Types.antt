-- The answer of reading: a record and how many prices.
use Rattle.std.specs.Prelude.{ℕ, Result, Ok}
use Rattle.commitment.specs.declared.Cause.{Cause}
use Rattle.commitment.specs.declared.UnitRecord.{UnitRecord}
use Rattle.casefile.specs.declared.Case.{Case}

abbrev pub CaseRead : Type 0
CaseRead = Result Case Cause

abbrev pub case_with : UnitRecord → ℕ → CaseRead
case_with unit count = Ok (record { unit = unit; count = count })

-- The number of a refusal.
use Rattle.std.specs.Prelude.{ℕ}
use Rattle.enumeration.specs.declared.expectation.Refusal.{Refusal}
use Rattle.enumeration.specs.declared.expectation.Refusal.TheVariants as refusals

abbrev pub number_of : Refusal → ℕ
number_of refusals.Name = 2
number_of refusals.Scratch = 8
number_of refusals.NoSchedule = 9
number_of refusals.NotKept = 10
number_of refusals.Date = 12

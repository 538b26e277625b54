-- What the program prints for a text, said of the case that is written in it.
use Rattle.std.specs.Prelude.{◌≡◌, List, ◌⊎◌, ℕ, ℤ, length, take}
use Rattle.commitment.specs.declared.Cause.{Cause}
use Rattle.commitment.specs.declared.Limitation.{Limitation}
use Rattle.commitment.specs.declared.Outcomes.{Outcomes}
use Rattle.commitment.specs.declared.UnitRecord.{UnitRecord}
use Rattle.commitment.specs.Causes.{number_of}
use Rattle.commitment.specs.Rivals.{IsBest}
use Rattle.optimality.specs.Outcomes.{Says}
use Rattle.writing.specs.AsWritten.{AsWritten}
use Rattle.listing.specs.Listing.{listing, refusal, buffer_after}
use Rattle.answers.specs.Answering.{word_of, printed, answered}
use Rattle.answers.specs.Sizes.{out_room}
use Rattle.promises.specs.Causes.{FirstOf, NoneOf, answering_causes}
use Rattle.promises.specs.Outcomes.{outcome_for}

-- the listing of the best plan: of the record and the prices written in the text, a schedule that no rival outdoes, the earliest of those that earn as
-- much, its profit, and three outcomes that are what they say
pub record BestPlanPrinted (text : List ℕ) : Type 0 where
  pub unit : UnitRecord
  pub prices : List ℤ
  pub written : AsWritten text unit prices
  pub schedule : List ℕ
  pub profit : ℤ
  pub outcomes : Outcomes
  pub best : IsBest unit prices schedule profit
  pub says : (which : Limitation) → Says unit prices which (outcome_for outcomes which)
  pub lines : printed text ≡ listing schedule profit outcomes (word_of unit.permit)

pub record Prints (text : List ℕ) : Type 0 where
  -- a text is refused or it is not
  pub either : NoneOf (answering_causes text) ⊎ ((cause : Cause) × FirstOf (answering_causes text) cause)
  -- where it is not, the best plan is printed
  pub planned : NoneOf (answering_causes text) → BestPlanPrinted text
  -- where it is, the line of the first cause that holds
  pub refused : (cause : Cause) → FirstOf (answering_causes text) cause → printed text ≡ refusal (number_of cause)
  -- and the program's buffer holds all of it: the bytes that it writes out are these
  pub whole : (out : List ℕ) → length out ≡ out_room → take (answered text (length out)).bytes (buffer_after (printed text) out) ≡ printed text

-- The causes of a refusal (specification 15): their numbers, and the first of several in the order of a call's list of checks.
use Rattle.std.specs.Prelude.{Bool, true, false, List, [], ◌∷◌, ℕ, Result, Ok, Err}
use Rattle.commitment.specs.declared.Cause.{Cause}
use Rattle.commitment.specs.declared.Cause.TheVariants.{Form, Name, Range, Levels, Shape, Date, Horizon, Segments, Length, Scratch, NoSchedule, NotKept}
use Rattle.commitment.specs.Types.{Checked}

-- the number of each cause, in the order in which causes are given
abbrev pub number_of : Cause → ℕ
number_of Form = 1
number_of Name = 2
number_of Range = 3
number_of Levels = 11
number_of Shape = 4
number_of Date = 12
number_of Horizon = 5
number_of Segments = 6
number_of Length = 7
number_of Scratch = 8
number_of NoSchedule = 9
number_of NotKept = 10

-- the number of an answer: 0 where it is not refused
abbrev pub answered_number : {A : Type 0} → Result A Cause → ℕ
answered_number (Ok answer) = 0
answered_number (Err cause) = number_of cause

-- a check of a call: whether it is kept, else the cause
pub record Check : Type 0 where
  pub kept : Bool
  pub cause : Cause

infix 5 ◌else◌
abbrev pub ◌else◌ : Bool → Cause → Check
kept else cause = record { kept = kept; cause = cause }

-- of several causes the first in their order is given, whatever its number: a call's checks stand in that order, and the first not kept decides
abbrev pub unless : Bool → Cause → Checked → Checked
unless true cause rest = rest
unless false cause rest = Err cause

abbrev pub first_of : List Check → Checked
first_of [] = Ok tt
first_of (check ∷ checks) = unless check.kept check.cause (first_of checks)

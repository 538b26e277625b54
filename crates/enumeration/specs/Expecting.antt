-- What the enumerator's answers say of a limitation and of a case.
use Rattle.std.specs.Prelude.{◌≡◌, ℕ, ◌+◌, ◌*◌, ◌/◌, ◌^◌, ◌≤◌, Option, IsNone, MatchOption, Ok, Err, IfOk, replicate, ℤ, pos, ◌-ℤ◌, ◌≢◌}
use Rattle.enumeration.specs.declared.expectation.Expected.{Expected}
use Rattle.enumeration.specs.declared.enumerator.Case.{Case}
use Rattle.enumeration.specs.declared.found.Found.{Found}
use Rattle.enumeration.specs.declared.enumerator.Sums.{Sums}
use Rattle.enumeration.specs.declared.enumerator.Which.{Which}
use Rattle.enumeration.specs.declared.enumerator.Worth.{Worth}
use Rattle.enumeration.specs.declared.enumerator.Worth.TheVariants.{None, Empty, Never, Gap}
use Rattle.enumeration.specs.Limits.{for_limit}
use Rattle.enumeration.specs.Lists.{room, untouched}

-- after i intervals
pub record Summed (i : ℕ) (sums : Sums) : Type 0 where
  pub starts : sums.starts ≤ i
  pub running : sums.running ≤ i
  pub output : sums.output ≤ 2 ^ 32 * i
  pub earned : sums.earned ≤ 2 ^ 48 * i
  pub spent : sums.spent ≤ 2 ^ 51 * i

-- after one interval more
pub record OneMore (was sums : Sums) : Type 0 where
  pub starts : sums.starts ≤ was.starts + 1
  pub running : sums.running ≤ was.running + 1
  pub output : sums.output ≤ was.output + 2 ^ 32
  pub earned : sums.earned ≤ was.earned + 2 ^ 48
  pub spent : sums.spent ≤ was.spent + 2 ^ 51

abbrev pub cap_of : Case → Which → Option ℕ
cap_of case which = for_limit case.limits which

-- what is earned less what is spent
abbrev pub earnings : Found → ℤ
earnings found = pos found.earned -ℤ pos found.spent

-- `none`: not limited; `empty`: nine tenths rounds to 0; else limited, and it does not
abbrev pub WorthOf : Option ℕ → Worth → Type 0
WorthOf cap None = IsNone cap
WorthOf cap Empty = MatchOption cap ⊥ (λ most. most * 9 / 10 ≡ 0)
WorthOf cap Never = MatchOption cap ⊥ (λ most. most * 9 / 10 ≢ 0)
WorthOf cap (Gap gap) = MatchOption cap ⊥ (λ most. most * 9 / 10 ≢ 0)

-- a plan's number is 0
abbrev pub number_in : Expected → ℕ
number_in expected = elim expected.answer [ Ok plan ↦ 0 | Err number ↦ number ]

-- a refusal, and the entries as they were
pub record Refused (number : ℕ) (expected : Expected) : Type 0 where
  pub answer : expected.answer ≡ Err number
  pub schedule : expected.schedule ≡ replicate room untouched

-- with a plan, each limitation has its outcome
abbrev pub ExpectedOf : Case → Expected → Type 0
ExpectedOf case expected =
    IfOk expected.answer
    (λ plan. WorthOf case.limits.starts plan.worths.starts × WorthOf case.limits.hours plan.worths.hours × WorthOf case.limits.mwh plan.worths.mwh)

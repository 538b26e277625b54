-- Cases computed from the definitions: C1 whole, from the bytes of its text to the bytes of its listing with the program's slices, without and with an
-- hour word; and the answers of the calls to C1 to C12 and to the cases of permitted hours.
use Rattle.std.specs.Prelude.{Err}
use mathlib.Core.Path.{◌≡◌, refl}
use mathlib.Core.List.{List, [], ◌∷◌, ◌++◌, map}
use Prim.Native.Nat.{ℕ}
use Rattle.lists.specs.Text.{bytes}
use Rattle.casefile.specs.Reading.{unit_in, prices_in}
use Rattle.commitment.specs.Ranges.{ranges_kept, prices_kept}
use Rattle.casetext.specs.Form.{form_kept, names_kept}
use Rattle.tabletext.specs.Bytes.{is_of}
use Rattle.tabletext.specs.Values.{is_name, is_value, value_of, numeral}
use Rattle.writing.specs.Writing.{closing}
use Rattle.listing.specs.Listing.{listing, refusal}
use Rattle.listing.specs.Numbers.{number, decimal}
use Rattle.rounding.specs.Rounding.{rounded}
use Rattle.calendar.specs.Dates.{day_number, is_sunday}
use Rattle.calendar.specs.Clock.{hours_of, clock_after}
use Rattle.calendar.specs.Words.{hours_allowed}
use Rattle.commitment.specs.declared.Cause.TheVariants.{NotKept}
use Rattle.commitment.specs.PlanCases as planCases
use Rattle.commitment.specs.PlanCases.{Value, Row, c1-prices}
use Rattle.commitment.specs.HourCases.{c1-word, table}
use Rattle.assessment.specs.Assessed.{hand_in_checked, assessed}
use Rattle.costs.specs.Answers.{costed}
use Rattle.costs.specs.Cases as costCases
use Rattle.costs.specs.Ranges.{inputs_kept, segments_kept, inputs_checked}
use Rattle.planner.specs.Planning.{plan_checked}
use Rattle.planner.specs.Valuing.{value_checked}
use Rattle.answers.specs.Answering.{all_found, printed}
use Rattle.promises.specs.Twelve.{said_of_twelve, defined_of_twelve, answers_of_twelve, answers_of_hours}

abbrev text_of : List ℕ → List ℕ → List ℕ
text_of names values =
    closing
    (
    names
    ∷ values
    ∷ bytes ""
    ∷ bytes "price"
    ∷ bytes "2000"
    ∷ bytes "9000"
    ∷ bytes "8000"
    ∷ bytes "1000"
    ∷ bytes "7000"
    ∷ bytes "10000"
    ∷ []
    )

abbrev text : List ℕ
text = text_of (bytes "block,pmin,pmax,mot,mdt,was,held,vec,mlc,suc,starts,hours,mwh") (bytes "10,1,2,2,2,0,2,3000,30000,5000,2,2,none")

-- what is printed
abbrev lines : List ℕ
lines =
    closing
    (
    bytes "interval,mw"
    ∷ bytes "1,0"
    ∷ bytes "2,20"
    ∷ bytes "3,20"
    ∷ bytes "4,10"
    ∷ bytes "5,20"
    ∷ bytes "6,20"
    ∷ bytes ""
    ∷ bytes "what,value"
    ∷ bytes "profit,400000"
    ∷ bytes "starts,400000"
    ∷ bytes "hours,320000"
    ∷ bytes "mwh,none"
    ∷ []
    )

pub c1-whole : printed text ≡ lines
unfolding
    printed all_found unit_in prices_in listing refusal number decimal form_kept names_kept is_of is_name is_value value_of numeral ranges_kept prices_kept
c1-whole = refl

-- the same from 3 February 2024, in hour 0 alone
abbrev hour-text : List ℕ
hour-text =
    text_of (bytes "year,block,pmin,pmax,mot,mdt,was,held,vec,mlc,suc,starts,hours,mwh,window,day,month")
    (bytes "2024,10,1,2,2,2,0,2,3000,30000,5000,2,2,none,1,3,2")

abbrev hour-lines : List ℕ
hour-lines =
    closing
    (
    bytes "interval,mw"
    ∷ bytes "1,0"
    ∷ bytes "2,20"
    ∷ bytes "3,20"
    ∷ bytes "4,0"
    ∷ bytes "5,0"
    ∷ bytes "6,0"
    ∷ bytes ""
    ∷ bytes "what,value"
    ∷ bytes "profit,200000"
    ∷ bytes "starts,200000"
    ∷ bytes "hours,200000"
    ∷ bytes "mwh,none"
    ∷ bytes "window,1"
    ∷ []
    )

pub hour-whole : printed hour-text ≡ hour-lines
unfolding
    printed all_found unit_in prices_in listing refusal number decimal form_kept names_kept is_of is_name is_value value_of numeral ranges_kept prices_kept
    clock_after hours_of is_sunday day_number hours_allowed
hour-whole = refl

-- ---- what the specification says of all twelve: the definitions give it, and the calls answer it

pub twelve-defined : defined_of_twelve ≡ said_of_twelve
twelve-defined = both planCases.worked costCases.worked
  where
    both : {a b c d : List (List Value)} → a ≡ b → c ≡ d → a ++ c ≡ b ++ d
    both p q = cc

pub twelve : answers_of_twelve ≡ said_of_twelve
unfolding rounded plan_checked value_checked costed inputs_checked inputs_kept segments_kept ranges_kept prices_kept
twelve = refl

-- and of permitted hours; C1's plan handed in with hour 0 alone is refused with 10

pub hour-cases : answers_of_hours ≡ map (λ (r : Row). r.given) table
unfolding plan_checked value_checked ranges_kept prices_kept clock_after hours_of is_sunday day_number
hour-cases = refl

pub handed-in-shut : assessed (c1-word 1) c1-prices (0 ∷ 20 ∷ 20 ∷ 10 ∷ 20 ∷ 20 ∷ []) ≡ Err NotKept
unfolding hand_in_checked ranges_kept prices_kept clock_after hours_of is_sunday day_number
handed-in-shut = refl

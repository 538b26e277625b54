-- The lines that the planning program prints (specification 12): each is a definition of its own, closed by byte 10.
use Rattle.std.specs.Prelude.{Bool, true, cond, List, [], ◌∷◌, ◌++◌, ℕ, suc, leb, ltb, ℤ, length, drop, Some, None, Ok, Err}
use Rattle.lists.specs.Text.{bytes}
use Rattle.calendar.specs.Words.{hours_allowed, past_words}
use Rattle.commitment.specs.declared.Cause.TheVariants.{Range, Length}
use Rattle.commitment.specs.declared.Outcome.{Outcome}
use Rattle.commitment.specs.declared.Outcome.TheVariants.{None, Empty, Never, Gap}
use Rattle.commitment.specs.declared.Outcomes.{Outcomes}
use Rattle.commitment.specs.Causes.{number_of}
use Rattle.listing.specs.Types.{Fit}
use Rattle.listing.specs.Types.{HourWord}
use Rattle.listing.specs.Types.{Written}
use Rattle.listing.specs.Numbers.{number, signed_number}

abbrev pub interval_heading : List ℕ
interval_heading = bytes "interval,mw\n"

-- after an empty line
abbrev pub value_heading : List ℕ
value_heading = bytes "\nwhat,value\n"

abbrev pub profit_lead : List ℕ
profit_lead = bytes "profit,"

abbrev pub starts_lead : List ℕ
starts_lead = bytes "starts,"

abbrev pub hours_lead : List ℕ
hours_lead = bytes "hours,"

abbrev pub mwh_lead : List ℕ
mwh_lead = bytes "mwh,"

abbrev pub window_lead : List ℕ
window_lead = bytes "window,"

abbrev pub refused_lead : List ℕ
refused_lead = bytes "refused,"

-- ---- an outcome in words, or the gap

abbrev pub outcome_text : Outcome → List ℕ
outcome_text None = bytes "none"
outcome_text Empty = bytes "empty"
outcome_text Never = bytes "never"
outcome_text (Gap gap) = signed_number gap

-- ---- the lines

abbrev pub closed : List ℕ → List ℕ
closed text = text ++ (10 ∷ [])

abbrev pub interval_line : ℕ → ℕ → List ℕ
interval_line interval mw = closed (number interval ++ (44 ∷ number mw))

-- a line for each interval, from a number on
abbrev pub interval_lines : ℕ → List ℕ → List ℕ
interval_lines interval [] = []
interval_lines interval (mw ∷ schedule) = interval_line interval mw ++ interval_lines (suc interval) schedule

abbrev pub profit_line : ℤ → List ℕ
profit_line profit = closed (profit_lead ++ signed_number profit)

abbrev pub outcome_lines : Outcomes → List ℕ
outcome_lines outcomes =
    closed (starts_lead ++ outcome_text outcomes.starts)
    ++ (closed (hours_lead ++ outcome_text outcomes.hours) ++ closed (mwh_lead ++ outcome_text outcomes.mwh))

-- how many of the 24 hours a word allows
abbrev pub hours_line : ℕ → List ℕ
hours_line word = closed (window_lead ++ number (hours_allowed word))

abbrev pub window_line : HourWord → List ℕ
window_line None = []
window_line (Some word) = hours_line word

-- interval and MW, then profit, the three outcomes and the hours that the word allows
unfoldable pub listing : List ℕ → ℤ → Outcomes → HourWord → List ℕ
listing schedule profit outcomes word =
    interval_heading
    ++ (interval_lines 1 schedule ++ (value_heading ++ (profit_line profit ++ (outcome_lines outcomes ++ window_line word))))

-- a refusal is the line `refused,` and the number
unfoldable pub refusal : ℕ → List ℕ
refusal cause = closed (refused_lead ++ number cause)

-- ---- a text in a lent buffer of so many bytes

abbrev pub fitted : ℕ → ℕ → Fit
fitted count room = cond (leb count room) (Some count) None

-- a buffer too short gets 7, the number of a slice too short, and is as it was
abbrev pub written_by : Fit → Written
written_by (Some count) = Ok count
written_by None = Err Length

abbrev pub buffer_after : List ℕ → List ℕ → List ℕ
buffer_after text buffer = cond (leb (length text) (length buffer)) (text ++ drop (length text) buffer) buffer

-- ---- a listing: a word of more than 24 bits gets 3, and the buffer is as it was

abbrev pub word_kept : HourWord → Bool
word_kept None = true
word_kept (Some word) = ltb word past_words

abbrev pub listing_written : List ℕ → ℤ → Outcomes → HourWord → ℕ → Written
listing_written schedule profit outcomes word room =
    cond (word_kept word) (written_by (fitted (length (listing schedule profit outcomes word)) room)) (Err Range)

abbrev pub listing_after : List ℕ → ℤ → Outcomes → HourWord → List ℕ → List ℕ
listing_after schedule profit outcomes word buffer =
    cond (word_kept word) (buffer_after (listing schedule profit outcomes word) buffer) buffer

-- ---- the number of an answer, 0 where the bytes were written, and how many these are, 0 on a refusal

abbrev pub bytes_in : Written → ℕ
bytes_in (Ok count) = count
bytes_in (Err cause) = 0

-- Both ends of every range of every call, computed: the ends are answered, and what lies beyond them gets 3.
use mathlib.Core.Path.{◌≡◌, refl}
use mathlib.Core.List.{map}
use Rattle.calendar.specs.Dates.{day_number, is_sunday}
use Rattle.calendar.specs.Clock.{clock_after, hours_of}
use Rattle.calendar.specs.Words.{hours_allowed}
use Rattle.commitment.specs.Ranges.{ranges_kept, prices_kept}
use Rattle.rounding.specs.Rounding.{rounded}
use Rattle.assessment.specs.Assessed.{hand_in_checked}
use Rattle.costs.specs.Answers.{costed}
use Rattle.costs.specs.Ranges.{inputs_kept, segments_kept, inputs_checked}
use Rattle.curves.specs.Answers.{curved}
use Rattle.curves.specs.Ranges.{points_kept, curve_checked}
use Rattle.listing.specs.Listing.{listing}
use Rattle.listing.specs.Numbers.{number, decimal}
use Rattle.promises.specs.Ends.{numbers_at, expected_at, case_number, case_ends, price_number, low_price_number, price_ends, cost_number, cost_ends}
use Rattle.promises.specs.Ends.{segment_numbers, segments_expected, curve_number, curve_ends, point_numbers, points_expected}
use Rattle.promises.specs.Ends.{clock_number_at, clock_ends, word_number, word_ends}

pub of-cases : map (numbers_at case_number) case_ends ≡ map expected_at case_ends
unfolding hand_in_checked ranges_kept prices_kept clock_after hours_of is_sunday day_number
of-cases = refl

pub of-prices : (map (numbers_at price_number) price_ends ≡ map expected_at price_ends) × (map (numbers_at low_price_number) price_ends ≡ map expected_at price_ends)
unfolding hand_in_checked ranges_kept prices_kept clock_after hours_of is_sunday day_number
of-prices = (refl, refl)

pub of-costs : (map (numbers_at cost_number) cost_ends ≡ map expected_at cost_ends) × (segment_numbers ≡ segments_expected)
unfolding costed inputs_checked inputs_kept segments_kept rounded
of-costs = (refl, refl)

pub of-curves : (map (numbers_at curve_number) curve_ends ≡ map expected_at curve_ends) × (point_numbers ≡ points_expected)
unfolding curved curve_checked points_kept
of-curves = (refl, refl)

pub of-the-clock : map (numbers_at clock_number_at) clock_ends ≡ map expected_at clock_ends
of-the-clock = refl

pub of_words : map (numbers_at word_number) word_ends ≡ map expected_at word_ends
unfolding listing number decimal hours_allowed
of_words = refl

-- Both ends of every range, through the calls (specification 2, 3, 10, 12, 21, 22): the figures of an input as a list, and for each figure an input with it at
-- its least and one with it at its most. Each of the two is answered, and 3 is what one less and one more get.
use Rattle.std.specs.Prelude.{List, [], ◌∷◌, ℕ, zero, suc, ◌+◌, pos, neg_ℤ, get_or, set, replicate, Some}
use Rattle.calendar.specs.Dates.{date}
use Rattle.costs.specs.declared.CostInputs.{CostInputs}
use Rattle.commitment.specs.declared.UnitRecord.{UnitRecord}
use Rattle.commitment.specs.Valuing.{no_outcomes}
use Rattle.checking.specs.Clock.{clock_hour}
use Rattle.assessment.specs.Assessed.{assessed}
use Rattle.costs.specs.Answers.{costed}
use Rattle.curves.specs.Answers.{curved}
use Rattle.listing.specs.Listing.{listing_written}
use Rattle.commitment.specs.Causes.{answered_number}

-- a figure's place, and the figures of an input with it at its least and at its most
pub record Ends : Type 0 where
  pub place : ℕ
  pub least : List ℕ
  pub most : List ℕ

-- a figure put into its place
infix 6 ◌at◌of◌
abbrev pub ◌at◌of◌ : ℕ → ℕ → List ℕ → List ℕ
figure at place of figures = set figures place figure

abbrev ends : ℕ → List ℕ → List ℕ → Ends
ends place least most = record { place = place; least = least; most = most }

abbrev sum_of : List ℕ → ℕ
sum_of [] = 0
sum_of (n ∷ ns) = n + sum_of ns

-- so many numbers, one after the other
abbrev up_from : ℕ → ℕ → List ℕ
up_from first zero = []
up_from first (suc count) = first ∷ up_from (suc first) count

-- ---- the numbers at the two ends, past the upper one, and, where the least is not 0, below it

abbrev below : (List ℕ → ℕ) → ℕ → ℕ → List ℕ → List ℕ
below number place zero figures = []
below number place (suc less) figures = number (set figures place less) ∷ []

abbrev pub numbers_at : (List ℕ → ℕ) → Ends → List ℕ
numbers_at number e =
    number e.least ∷ number e.most ∷ number (set e.most e.place (suc (get_or e.most e.place 0)))
    ∷ below number e.place (get_or e.least e.place 0) e.least

-- the ends are answered, and 3 is given beyond them
abbrev beyond : ℕ → List ℕ
beyond zero = []
beyond (suc less) = 3 ∷ []

abbrev pub expected_at : Ends → List ℕ
expected_at e = 0 ∷ 0 ∷ 3 ∷ beyond (get_or e.least e.place 0)

-- ---- a case, handed in with one interval off at price 0: block, pmin, pmax, mot, mdt, was, held, vec, mlc, suc, starts, hours, mwh, year, month, day, word

abbrev unit_at : List ℕ → UnitRecord
unit_at f =
    record {
      generator = record { block = get_or f 0 0; pmin = get_or f 1 0; pmax = get_or f 2 0; mot = get_or f 3 0; mdt = get_or f 4 0 };
      opening = record { was = get_or f 5 0; held = get_or f 6 0 };
      costs = record { vec = get_or f 7 0; mlc = get_or f 8 0; suc = get_or f 9 0 };
      limits = record { starts = Some (get_or f 10 0); hours = Some (get_or f 11 0); mwh = Some (get_or f 12 0) };
      permit = Some (record { date = date (get_or f 13 0) (get_or f 14 0) (get_or f 15 0); word = get_or f 16 0 });
    }

abbrev pub case_number : List ℕ → ℕ
case_number f = answered_number (assessed (unit_at f) (pos 0 ∷ []) (0 ∷ []))

-- block 1, pmin 1 and pmax 1, mot and mdt 1, off for a quarter-hour, no costs, nothing left, 31 January 2024, no hours
abbrev plain : List ℕ
plain = 1 ∷ 1 ∷ 1 ∷ 1 ∷ 1 ∷ 0 ∷ 1 ∷ 0 ∷ 0 ∷ 0 ∷ 0 ∷ 0 ∷ 0 ∷ 2024 ∷ 1 ∷ 31 ∷ 0 ∷ []

abbrev pub case_ends : List Ends
case_ends =
    ends 0 plain (500 at 0 of plain)
    ∷ ends 1 plain (500 at 1 of (500 at 2 of plain))
    ∷ ends 2 plain (500 at 2 of plain)
    ∷ ends 3 plain (96 at 3 of plain)
    ∷ ends 4 plain (96 at 4 of plain)
    ∷ ends 5 plain (1 at 5 of plain)
    ∷ ends 6 plain (9999 at 6 of plain)
    ∷ ends 7 plain (2000000 at 7 of plain)
    ∷ ends 8 plain (1000000000 at 8 of plain)
    ∷ ends 9 plain (4000000000 at 9 of plain)
    ∷ ends 10 plain (2976 at 10 of plain)
    ∷ ends 11 plain (744 at 11 of plain)
    ∷ ends 12 plain (372000 at 12 of plain)
    ∷ ends 13 (2007 at 13 of plain) (2099 at 13 of plain)
    ∷ ends 14 plain (12 at 14 of plain)
    ∷ ends 15 (1 at 15 of plain) plain
    ∷ ends 16 plain (16777215 at 16 of plain)
    ∷ []

-- a price, above 0 and below it
abbrev pub price_number : List ℕ → ℕ
price_number f = answered_number (assessed (unit_at plain) (pos (get_or f 0 0) ∷ []) (0 ∷ []))

abbrev pub low_price_number : List ℕ → ℕ
low_price_number f = answered_number (assessed (unit_at plain) (neg_ℤ (pos (get_or f 0 0)) ∷ []) (0 ∷ []))

abbrev pub price_ends : List Ends
price_ends = ends 0 (0 ∷ []) (200000 ∷ []) ∷ []

-- ---- cost figures, without segments: block, pmin, pmax, gas, transport, allowance, om, gmc, rate, heat rate at pmin, fuel, aux, minutes, the adders

abbrev inputs_at : List ℕ → CostInputs
inputs_at f =
    record {
      block = get_or f 0 0;
      pmin = get_or f 1 0;
      pmax = get_or f 2 0;
      gas = get_or f 3 0;
      transport = get_or f 4 0;
      allowance = get_or f 5 0;
      om = get_or f 6 0;
      gmc = get_or f 7 0;
      rate = get_or f 8 0;
      min_heat = get_or f 9 0;
      fuel = get_or f 10 0;
      aux = get_or f 11 0;
      minutes = get_or f 12 0;
      start_adder = get_or f 13 0;
      load_adder = get_or f 14 0;
    }

abbrev pub cost_number : List ℕ → ℕ
cost_number f = answered_number (costed (inputs_at f) [] [])

abbrev costless : List ℕ
costless = 1 ∷ 1 ∷ 1 ∷ 0 ∷ 0 ∷ 0 ∷ 0 ∷ 0 ∷ 0 ∷ 1 ∷ 0 ∷ 0 ∷ 0 ∷ 0 ∷ 0 ∷ []

abbrev pub cost_ends : List Ends
cost_ends =
    ends 0 costless (500 at 0 of costless)
    ∷ ends 1 costless (500 at 1 of (500 at 2 of costless))
    ∷ ends 2 costless (500 at 2 of (500 at 1 of costless))
    ∷ ends 3 costless (10000 at 3 of costless)
    ∷ ends 4 costless (10000 at 4 of costless)
    ∷ ends 5 costless (10000 at 5 of costless)
    ∷ ends 6 costless (10000 at 6 of costless)
    ∷ ends 7 costless (10000 at 7 of costless)
    ∷ ends 8 costless (1000000 at 8 of costless)
    ∷ ends 9 costless (50000 at 9 of costless)
    ∷ ends 10 costless (100000 at 10 of costless)
    ∷ ends 11 costless (1000 at 11 of costless)
    ∷ ends 12 costless (1440 at 12 of costless)
    ∷ ends 13 costless (10000000 at 13 of costless)
    ∷ ends 14 costless (10000000 at 14 of costless)
    ∷ []

-- segments of so many MW, and heat rates: MW 1, 0, 500 (more than a unit has between pmin and pmax: 6) and 501; heat rates 1, 0, 50,000 and 50,001; ten
-- segments and eleven
abbrev segment_number : List ℕ → List ℕ → ℕ
segment_number mws heats = answered_number (costed (inputs_at (suc (sum_of mws) at 2 of costless)) mws heats)

abbrev pub segment_numbers : List ℕ
segment_numbers =
    segment_number (1 ∷ []) (1 ∷ [])
    ∷ segment_number (0 ∷ []) (1 ∷ [])
    ∷ segment_number (499 ∷ []) (1 ∷ [])
    ∷ answered_number (costed (inputs_at costless) (500 ∷ []) (1 ∷ []))
    ∷ answered_number (costed (inputs_at costless) (501 ∷ []) (1 ∷ []))
    ∷ segment_number (1 ∷ []) (0 ∷ [])
    ∷ segment_number (1 ∷ []) (50000 ∷ [])
    ∷ segment_number (1 ∷ []) (50001 ∷ [])
    ∷ segment_number (replicate 10 1) (replicate 10 1)
    ∷ segment_number (replicate 11 1) (replicate 11 1)
    ∷ []

abbrev pub segments_expected : List ℕ
segments_expected = 0 ∷ 3 ∷ 0 ∷ 6 ∷ 3 ∷ 3 ∷ 0 ∷ 3 ∷ 0 ∷ 3 ∷ []

-- ---- a bid curve of two points: gas, om, gmc, adder, then the two levels and the two rates

abbrev pub curve_number : List ℕ → ℕ
curve_number f =
    answered_number
    (curved (record { gas = get_or f 0 0; om = get_or f 1 0; gmc = get_or f 2 0; adder = get_or f 3 0 }) (get_or f 4 0 ∷ get_or f 5 0 ∷ []) (get_or f 6 0 ∷ get_or f 7 0 ∷ [])
    1)

abbrev points : List ℕ
points = 0 ∷ 0 ∷ 0 ∷ 0 ∷ 1 ∷ 500 ∷ 1 ∷ 1 ∷ []

abbrev pub curve_ends : List Ends
curve_ends =
    ends 0 points (10000 at 0 of points)
    ∷ ends 1 points (10000 at 1 of points)
    ∷ ends 2 points (10000 at 2 of points)
    ∷ ends 3 points (1000000 at 3 of points)
    ∷ ends 6 points (50000 at 6 of points)
    ∷ ends 7 points (50000 at 7 of points)
    ∷ []

-- levels of 0, 1, 500 and 501 MW; one point, eleven and twelve
abbrev many_points : ℕ → ℕ
many_points n = answered_number (curved (record { gas = 0; om = 0; gmc = 0; adder = 0 }) (up_from 1 n) (replicate n 1) 20)

abbrev pub point_numbers : List ℕ
point_numbers =
    curve_number (0 at 4 of points) ∷ curve_number points ∷ curve_number (501 at 5 of points) ∷ many_points 1 ∷ many_points 11 ∷ many_points 12 ∷ []

abbrev pub points_expected : List ℕ
points_expected = 3 ∷ 0 ∷ 3 ∷ 3 ∷ 0 ∷ 3 ∷ []

-- ---- the clock: year, month, day, interval

abbrev pub clock_number_at : List ℕ → ℕ
clock_number_at f = answered_number (clock_hour (date (get_or f 0 0) (get_or f 1 0) (get_or f 2 0)) (get_or f 3 0))

abbrev january : List ℕ
january = 2024 ∷ 1 ∷ 31 ∷ 1 ∷ []

abbrev pub clock_ends : List Ends
clock_ends =
    ends 0 (2007 at 0 of january) (2099 at 0 of january)
    ∷ ends 1 january (12 at 1 of january)
    ∷ ends 2 (1 at 2 of january) january
    ∷ ends 3 january (2976 at 3 of january)
    ∷ []

-- ---- the word of a listing

abbrev pub word_number : List ℕ → ℕ
word_number f = answered_number (listing_written [] (pos 0) no_outcomes (Some (get_or f 0 0)) 200)

abbrev pub word_ends : List Ends
word_ends = ends 0 (0 ∷ []) (16777215 ∷ []) ∷ []

-- C1's text as it stands in the specification, the same with a date, and damaged ones, each with the number that it gets: from the
-- definitions alone, by computing.
use Rattle.std.specs.Prelude.{None, Ok, Some}
use mathlib.Core.List.{List, [], ◌∷◌, ◌++◌, map}
use mathlib.Core.Path.{◌≡◌, refl}
use Prim.Native.Nat.{ℕ}
use Prim.Native.String.{String}
use lib.IntN.{pos}
use lib.ListN.{replicate}
use Rattle.commitment.specs.Causes.{answered_number}
use Rattle.commitment.specs.Ranges.{ranges_kept, prices_kept}
use Rattle.lists.specs.Text.{bytes}
use Rattle.tabletext.specs.Bytes.{is_of}
use Rattle.tabletext.specs.Values.{is_name, numeral, value_of, is_value}
use Rattle.casefile.specs.Answers.{read_case}
use Rattle.casetext.specs.Form.{form_kept, names_kept}
use Rattle.casefile.specs.Reading.{unit_in, prices_in, text_checked}
use Rattle.writing.specs.Writing.{closing}
use Rattle.casefile.specs.Types.{case_with}

abbrev names : List ℕ
names = bytes "block,pmin,pmax,mot,mdt,was,held,vec,mlc,suc,starts,hours,mwh"

abbrev values : List ℕ
values = bytes "10,1,2,2,2,0,2,3000,30000,5000,2,2,none"

abbrev head : List ℕ
head = bytes "price"

abbrev prices : List (List ℕ)
prices = bytes "2000" ∷ bytes "9000" ∷ bytes "8000" ∷ bytes "1000" ∷ bytes "7000" ∷ bytes "10000" ∷ []

abbrev c1 : List ℕ
c1 = closing (names ∷ values ∷ [] ∷ head ∷ prices)

pub c1-case : read_case c1 6
    ≡ case_with (record {
      generator = record { block = 10; pmin = 1; pmax = 2; mot = 2; mdt = 2 };
      costs = record { vec = 3000; mlc = 30000; suc = 5000 };
      opening = record { was = 0; held = 2 };
      limits = record { starts = Some 2; hours = Some 2; mwh = None };
      permit = None;
    }) 6
unfolding is_of is_name numeral value_of is_value ranges_kept prices_kept form_kept names_kept unit_in prices_in text_checked read_case
c1-case = refl

-- with a date and its word, their names among the others
abbrev c1-dated : List ℕ
c1-dated =
    closing
    (bytes "window,block,pmin,pmax,day,mot,mdt,was,held,vec,year,mlc,suc,starts,hours,mwh,month"
    ∷ bytes "16776960,10,1,2,8,2,2,0,2,3000,2026,30000,5000,2,2,none,3" ∷ [] ∷ head ∷ prices)

pub c1-dated-case : read_case c1-dated 6
    ≡ case_with (record {
      generator = record { block = 10; pmin = 1; pmax = 2; mot = 2; mdt = 2 };
      costs = record { vec = 3000; mlc = 30000; suc = 5000 };
      opening = record { was = 0; held = 2 };
      limits = record { starts = Some 2; hours = Some 2; mwh = None };
      permit = Some (record { date = record { year = 2026; month = 3; day = 8 }; word = 16776960 });
    }) 6
unfolding is_of is_name numeral value_of is_value ranges_kept prices_kept form_kept names_kept unit_in prices_in text_checked read_case
c1-dated-case = refl

pub c1-prices : prices_in c1 ≡ pos 2000 ∷ pos 9000 ∷ pos 8000 ∷ pos 1000 ∷ pos 7000 ∷ pos 10000 ∷ []
unfolding is_of is_name numeral value_of is_value ranges_kept prices_kept form_kept names_kept unit_in prices_in text_checked
c1-prices = refl

-- a slice with room for five of the six prices
pub c1-short : answered_number (text_checked c1 5) ≡ 7
unfolding is_of is_name numeral value_of is_value ranges_kept prices_kept form_kept names_kept unit_in prices_in text_checked
c1-short = refl

-- the four names behind the thirteen, and behind C1's values others
abbrev dated : List ℕ
dated = names ++ bytes ",year,month,day,window"

abbrev values_and : String → List ℕ
values_and others = values ++ 44 ∷ bytes others

abbrev texts : List (List ℕ)
texts =
    -- 0: the text as it is
    (closing (names ∷ values ∷ [] ∷ head ∷ prices))
    -- 0: the names in another sequence, with their values
    ∷ (closing (bytes "mwh,pmin,pmax,mot,mdt,was,held,vec,mlc,suc,starts,hours,block" ∷ bytes "none,1,2,2,2,0,2,3000,30000,5000,2,2,10" ∷ [] ∷ head ∷ prices))
    -- 1: no text
    ∷ []
    -- 1: the last line is not closed
    ∷ (closing (names ∷ values ∷ [] ∷ head ∷ []) ++ bytes "2000")
    -- 1: an empty line more, at the end
    ∷ (closing (names ∷ values ∷ [] ∷ head ∷ prices) ++ 10 ∷ [])
    -- 1: two empty lines between the tables
    ∷ (closing (names ∷ values ∷ [] ∷ [] ∷ head ∷ prices))
    -- 1: an empty line at the top
    ∷ (10 ∷ closing (names ∷ values ∷ [] ∷ head ∷ prices))
    -- 1: the third line is not empty
    ∷ (closing (names ∷ values ∷ values ∷ head ∷ prices))
    -- 1: no second table
    ∷ (closing (names ∷ values ∷ [] ∷ []))
    -- 1: 12,289 bytes
    ∷ (replicate 12289 97)
    -- 1: a value too few
    ∷ (closing (names ∷ bytes "10,1,2,2,2,0,2,3000,30000,5000,2,2" ∷ [] ∷ head ∷ prices))
    -- 1: a value too many
    ∷ (closing (names ∷ bytes "10,1,2,2,2,0,2,3000,30000,5000,2,2,none,1" ∷ [] ∷ head ∷ prices))
    -- 1: a capital letter in a name
    ∷ (closing (bytes "block,pmin,pmax,mot,mdt,was,held,vec,mlc,suc,starts,hours,mWh" ∷ values ∷ [] ∷ head ∷ prices))
    -- 1: an empty name
    ∷ (closing ((names ++ bytes ",") ∷ bytes "10,1,2,2,2,0,2,3000,30000,5000,2,2,none,1" ∷ [] ∷ head ∷ prices))
    -- 1: eleven digits
    ∷ (closing (names ∷ values ∷ [] ∷ head ∷ bytes "12345678901" ∷ []))
    -- 1: -0
    ∷ (closing (names ∷ values ∷ [] ∷ head ∷ bytes "-0" ∷ []))
    -- 1: 00
    ∷ (closing (names ∷ values ∷ [] ∷ head ∷ bytes "00" ∷ []))
    -- 1: +1
    ∷ (closing (names ∷ values ∷ [] ∷ head ∷ bytes "+1" ∷ []))
    -- 1: an empty value
    ∷ (closing (names ∷ values ∷ [] ∷ head ∷ [] ∷ []))
    -- 1: nonee
    ∷ (closing (names ∷ values ∷ [] ∷ head ∷ bytes "nonee" ∷ []))
    -- 1: a leading zero
    ∷ (closing (names ∷ values ∷ [] ∷ head ∷ bytes "09" ∷ []))
    -- 1: a minus alone
    ∷ (closing (names ∷ values ∷ [] ∷ head ∷ bytes "-" ∷ []))
    -- 1: two values over one name
    ∷ (closing (names ∷ values ∷ [] ∷ head ∷ bytes "1,2" ∷ []))
    -- 1: a value not of the form under an unknown name: 1 is the lower
    ∷ (closing (names ∷ values ∷ [] ∷ bytes "cost" ∷ bytes "00" ∷ []))
    -- 2: an unknown name
    ∷ (closing (bytes "block,pmin,pmax,mot,mdt,was,held,vec,mlc,suc,starts,hours,mwx" ∷ values ∷ [] ∷ head ∷ prices))
    -- 2: a repeated name
    ∷ (closing (bytes "block,pmin,pmax,mot,mdt,was,held,vec,mlc,suc,starts,hours,vec" ∷ values ∷ [] ∷ head ∷ prices))
    -- 2: a missing name
    ∷ (closing (bytes "block,pmin,pmax,mot,mdt,was,held,vec,mlc,suc,starts,hours" ∷ bytes "10,1,2,2,2,0,2,3000,30000,5000,2,2" ∷ [] ∷ head ∷ prices))
    -- 2: a name more
    ∷ (closing ((names ++ bytes ",none") ∷ bytes "10,1,2,2,2,0,2,3000,30000,5000,2,2,none,1" ∷ [] ∷ head ∷ prices))
    -- 2: another name where `price` belongs
    ∷ (closing (names ∷ values ∷ [] ∷ bytes "cost" ∷ prices))
    -- 2: `price` twice over two values
    ∷ (closing (names ∷ values ∷ [] ∷ bytes "price,price" ∷ bytes "1,2" ∷ []))
    -- 3: a value out of range
    ∷ (closing (names ∷ bytes "501,1,2,2,2,0,2,3000,30000,5000,2,2,none" ∷ [] ∷ head ∷ prices))
    -- 3: a value below 0
    ∷ (closing (names ∷ bytes "10,1,2,2,2,-1,2,3000,30000,5000,2,2,none" ∷ [] ∷ head ∷ prices))
    -- 3: `none` where it may not stand
    ∷ (closing (names ∷ bytes "none,1,2,2,2,0,2,3000,30000,5000,2,2,none" ∷ [] ∷ head ∷ prices))
    -- 3: `none` as a price
    ∷ (closing (names ∷ values ∷ [] ∷ head ∷ bytes "none" ∷ []))
    -- 3: ten digits
    ∷ (closing (names ∷ values ∷ [] ∷ head ∷ bytes "9999999999" ∷ []))
    -- 3: a price below its range
    ∷ (closing (names ∷ values ∷ [] ∷ head ∷ bytes "-200001" ∷ []))
    -- 4: pmin over pmax, and no price: 4 is the lower
    ∷ (closing (names ∷ bytes "10,3,2,2,2,0,2,3000,30000,5000,2,2,none" ∷ [] ∷ head ∷ []))
    -- 4: pmax × block over 500
    ∷ (closing (names ∷ bytes "500,1,2,2,2,0,2,3000,30000,5000,2,2,none" ∷ [] ∷ head ∷ prices))
    -- 5: no price
    ∷ (closing (names ∷ values ∷ [] ∷ head ∷ []))
    -- 5: 2,977 prices
    ∷ (closing (names ∷ values ∷ [] ∷ head ∷ replicate 2977 (bytes "0")))
    -- 3: a price out of range beyond the 2,976th
    ∷ (closing (names ∷ values ∷ [] ∷ head ∷ (replicate 2976 (bytes "0") ++ bytes "200001" ∷ [])))
    -- 0: a date and its word
    ∷ (closing (dated ∷ values_and "2026,3,8,16776960" ∷ [] ∷ head ∷ prices))
    -- 2: a date without its word
    ∷ (closing ((names ++ bytes ",year,month,day") ∷ values_and "2026,3,8" ∷ [] ∷ head ∷ prices))
    -- 2: a word without its date
    ∷ (closing ((names ++ bytes ",window") ∷ values_and "16776960" ∷ [] ∷ head ∷ prices))
    -- 2: one of the four twice
    ∷ (closing ((dated ++ bytes ",day") ∷ values_and "2026,3,8,16776960,8" ∷ [] ∷ head ∷ prices))
    -- 3: `none` under one of the four
    ∷ (closing (dated ∷ values_and "2026,3,8,none" ∷ [] ∷ head ∷ prices))
    -- 3: a year before the first
    ∷ (closing (dated ∷ values_and "2006,3,8,16776960" ∷ [] ∷ head ∷ prices))
    -- 3: a word of 25 hours
    ∷ (closing (dated ∷ values_and "2026,3,8,16777216" ∷ [] ∷ head ∷ prices))
    -- 12: 30 February, with prices and without: 12 comes before 5
    ∷ (closing (dated ∷ values_and "2024,2,30,1" ∷ [] ∷ head ∷ prices))
    ∷ (closing (dated ∷ values_and "2024,2,30,1" ∷ [] ∷ head ∷ []))
    -- 4: 30 February and pmin over pmax: 4 comes before 12
    ∷ (closing (dated ∷ bytes "10,3,2,2,2,0,2,3000,30000,5000,2,2,none,2024,2,30,1" ∷ [] ∷ head ∷ prices))
    ∷ []

pub numbers : map (λ text. answered_number (text_checked text 6144)) texts
    ≡ 0 ∷ 0 ∷ 1 ∷ 1 ∷ 1 ∷ 1 ∷ 1 ∷ 1 ∷ 1 ∷ 1 ∷ 1 ∷ 1 ∷ 1 ∷ 1 ∷ 1 ∷ 1 ∷ 1 ∷ 1 ∷ 1 ∷ 1 ∷ 1 ∷ 1 ∷ 1 ∷ 1
    ∷ 2 ∷ 2 ∷ 2 ∷ 2 ∷ 2 ∷ 2 ∷ 3 ∷ 3 ∷ 3 ∷ 3 ∷ 3 ∷ 3 ∷ 4 ∷ 4 ∷ 5 ∷ 5 ∷ 3 ∷ 0 ∷ 2 ∷ 2 ∷ 2 ∷ 3 ∷ 3 ∷ 3
    ∷ 12 ∷ 12 ∷ 4 ∷ []
unfolding is_of is_name numeral value_of is_value ranges_kept prices_kept form_kept names_kept unit_in prices_in text_checked
numbers = refl

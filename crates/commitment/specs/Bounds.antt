-- The ends of the ranges (specification 2, 3), each by its name.
use Rattle.std.specs.Prelude.{ℕ, ◌-◌}
use Rattle.calendar.specs.Months.{year_intervals}
use Rattle.calendar.specs.Words.{past_words}

-- ---- the unit: MW in a block and at the highest output, outputs in blocks, mot and mdt

abbrev pub most_mw : ℕ
most_mw = 500

abbrev pub most_blocks : ℕ
most_blocks = 500

abbrev pub most_time : ℕ
most_time = 96

-- ---- the opening state

abbrev pub most_held : ℕ
most_held = 9999

-- ---- the costs

abbrev pub most_vec : ℕ
most_vec = 2000000

abbrev pub most_mlc : ℕ
most_mlc = 1000000000

abbrev pub most_suc : ℕ
most_suc = 4000000000

-- ---- the limitations

abbrev pub most_starts : ℕ
most_starts = 2976

abbrev pub most_hours : ℕ
most_hours = 744

abbrev pub most_mwh : ℕ
most_mwh = 372000

-- ---- the date whose midnight opens interval 1, and the word of permitted hours

abbrev pub most_month : ℕ
most_month = 12

abbrev pub most_day : ℕ
most_day = 31

abbrev pub most_word : ℕ
most_word = past_words - 1

-- ---- the prices: above 0 and below it, and how many

abbrev pub most_price : ℕ
most_price = 200000

abbrev pub most_horizon : ℕ
most_horizon = 2976

-- ---- the intervals that a table can have: a year, of which the check lets a month through

abbrev pub most_intervals : ℕ
most_intervals = year_intervals

-- Where the months of a horizon are cut: month k, counted from 0, has the intervals from one cut to the next.
use Rattle.std.specs.Prelude.{◌≡◌, List, [], ◌∷◌, ℕ, zero, suc, ◌-◌, ◌≤◌, ◌<◌, get_or}
use Rattle.calendar.specs.declared.Date.{Date}
use Rattle.calendar.specs.Months.{most_months}
use Rattle.commitment.specs.declared.Limits.{Limits}
use Rattle.commitment.specs.declared.cuts.Cuts.{Cuts}
use Rattle.commitment.specs.Months.{Month, months_of}

-- so many months, from the cut of a number on
abbrev pub months_between : Limits → List ℕ → ℕ → ℕ → List Month
months_between limits cuts k zero = []
months_between limits cuts k (suc count) =
    record { long = get_or cuts (suc k) 0 - get_or cuts k 0; limits = limits } ∷ months_between limits cuts (suc k) count

-- the cuts are those of the calendar, from the horizon's beginning to its end
pub record CutsOf (d : Date) (n : ℕ) (cuts : Cuts) : Type 0 where
  pub first : get_or cuts.at 0 0 ≡ 0
  pub last : get_or cuts.at cuts.count 0 ≡ n
  pub grow : (k : ℕ) → k < cuts.count → get_or cuts.at k 0 < get_or cuts.at (suc k) 0
  pub some : 1 ≤ cuts.count
  pub few : cuts.count ≤ most_months
  pub months : (limits : Limits) → months_of d limits n ≡ months_between limits cuts.at 0 cuts.count

-- The months of a horizon: where they begin, what each may spend, what the year is worth at the beginning of each, and where its layer stands.
use Rattle.std.specs.Prelude.{◌≡◌, Bool, true, false, cond, List, ◌⊎◌, ℕ, ◌+◌, ◌-◌, ◌*◌, ◌%◌, ◌≤◌, ◌<◌, eqb, ℤ, length, get_or}
use Rattle.commitment.specs.Types.{BestProfit}
use Rattle.commitment.specs.Bounds.{most_intervals}
use Rattle.commitment.specs.Ranges.{Priced}
use Rattle.commitment.specs.Windows.{Clocked}
use Rattle.optimality.specs.declared.Budgets.{Budgets}
use Rattle.optimality.specs.declared.Cell.{Cell}
use Rattle.optimality.specs.Machine.{Quarter, anywhere}
use Rattle.optimality.specs.Cells.{Sound, Within, InTable, with_most}
use Rattle.geometry.specs.Geometry.{width}
use Rattle.geometry.specs.Layers.{LayerAt, stored_at}
use Rattle.layers.specs.Filling.{quarters_in, between}
use Rattle.halving.specs.Tasks.{Untouched}
use Rattle.months.specs.declared.annual.Caps.{Caps}
use Rattle.months.specs.declared.annual.Year.{Year}
use Rattle.months.specs.declared.chains.Month.{Month}
use Rattle.months.specs.declared.chains.Places.{Places}
use Rattle.months.specs.Chaining.{value_before}

-- ---- the months

-- where month k begins, counted from 0, and where the last one ends
abbrev pub cut_at : List ℕ → ℕ → ℕ
cut_at cuts k = get_or cuts k 0

abbrev pub cap_of : Caps → ℕ → Budgets
cap_of caps k = cond (eqb k caps.apart) caps.other caps.each

abbrev pub month_at : Year → List ℕ → ℕ → Month
month_at y cuts k = record { from = cut_at cuts k; to = cut_at cuts (k + 1); cap = cap_of y.caps k }

abbrev pub quarters_at : Year → List ℤ → List ℕ → ℕ → List Quarter
quarters_at y prices cuts k = between (quarters_in y.hours prices) (cut_at cuts k) (cut_at cuts (k + 1))

-- they follow one another, and together are the horizon
pub record Months (cuts : List ℕ) (n : ℕ) : Type 0 where
  pub some : 2 ≤ length cuts
  pub rising : (k : ℕ) → k + 1 < length cuts → cut_at cuts k < cut_at cuts (k + 1)
  pub inside : (k : ℕ) → k < length cuts → cut_at cuts k ≤ n
  pub first : cut_at cuts 0 ≡ 0
  pub last : cut_at cuts (length cuts - 1) ≡ n

-- ---- where the layers stand

abbrev pub slot_of : Bool → ℕ → ℕ
slot_of true k = k
slot_of false k = k % 2

abbrev pub place_of : Year → ℕ → ℕ
place_of y k = slot_of y.all k * y.width

abbrev pub places_at : Year → ℕ → Places
places_at y k = record { here = place_of y k; after = place_of y (k + 1); work = y.work }

-- how many places there are
abbrev pub slots : Bool → List ℕ → ℕ
slots true cuts = length cuts
slots false cuts = 2

pub record YearAsked (y : Year) (cells : ℕ) (prices : List ℤ) (cuts : List ℕ) : Type 0 where
  pub sound : Sound y.figures
  pub wide : y.width ≡ width y.figures
  pub priced : Priced prices
  pub clocked : Clocked y.hours
  pub short : length prices ≤ most_intervals
  pub months : Months cuts (length prices)
  pub caps : (k : ℕ) → Within (cap_of y.caps k) y.figures.most
  pub layers : slots y.all cuts * y.width ≤ y.work
  pub boxes : (k : ℕ) → let box = width (with_most y.figures (cap_of y.caps k)) in box + box ≤ y.room
  pub fits : y.work + y.room ≤ cells

-- ---- what the year is worth at the beginning of each month, and at its end

pub record Worths (y : Year) (prices : List ℤ) (cuts : List ℕ) (worth : ℕ → Cell → BestProfit) : Type 0 where
  pub last : (z : Cell) → InTable y.figures z → worth (length cuts - 1) z ≡ anywhere z
  pub before : (k : ℕ) → k + 1 < length cuts → (z : Cell) → InTable y.figures z
      → worth k z ≡ value_before y.figures (cap_of y.caps k) (quarters_at y prices cuts k) (worth (k + 1)) z

pub record ChainAsked (y : Year) (cells : ℕ) (prices : List ℤ) (cuts : List ℕ) : Type 0 where
  pub year : YearAsked y cells prices cuts
  pub worth : ℕ → Cell → BestProfit
  pub worths : Worths y prices cuts worth

-- the layer of month k stands in its place
abbrev pub Stands : Year → List ℤ → List ℕ → List ℤ → ℕ → Type 0
Stands y prices cuts cells k =
    (worth : ℕ → Cell → BestProfit) → Worths y prices cuts worth
    → LayerAt y.figures (length prices - cut_at cuts k) (worth k) (stored_at y.figures cells (place_of y k))

-- one month earlier: the layer of the next month stands
pub record Earlier (y : Year) (cells prices : List ℤ) (cuts : List ℕ) (k : ℕ) : Type 0 where
  pub chain : ChainAsked y (length cells) prices cuts
  pub month : k + 1 < length cuts
  pub next : Stands y prices cuts cells (k + 1)

-- back to a month: its layer stands, and those behind it that still have their places
pub record Chained (y : Year) (prices : List ℤ) (cuts : List ℕ) (first : ℕ) (was now : List ℤ) : Type 0 where
  pub stands : (k : ℕ) → first ≤ k → k < length cuts → (y.all ≡ true) ⊎ (k ≤ first + 1) → Stands y prices cuts now k
  pub beyond : Untouched (y.work + y.room) was now

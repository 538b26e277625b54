-- The bid curve of points of level and average heat rate (specification 21): the price of each segment, raised to that of the one before;
-- equal neighbours merged.
use Rattle.std.specs.Prelude.{Bool, cond, ◌&&◌, List, [], ◌∷◌, ℕ, ◌+◌, ◌-◌, ◌*◌, ℤ, pos, ◌-ℤ◌}
use Rattle.std.specs.Int.Signed.{le_z}
use Rattle.integers.specs.Maximum.{maxℤ}
use Rattle.rounding.specs.Fractions.{whole, ◌over◌, SignedFraction, signed, ◌overℤ◌, ◌plusℤ◌, ◌timesℤ◌}
use Rattle.rounding.specs.Rounding.{roundedℤ}
use Rattle.costs.specs.Figures.{heat_units}
use Rattle.curves.specs.declared.CurveInputs.{CurveInputs}
use Rattle.curves.specs.declared.Segment.{Segment}

-- ---- a segment's own price, between two neighbouring points

-- the change in level × rate over the change in level
abbrev pub incremental_rate : ℕ → ℕ → ℕ → ℕ → SignedFraction
incremental_rate level rate level' rate' = (pos (level' * rate') -ℤ pos (level * rate)) overℤ (level' - level)

-- incremental rate × gas / 1000 + om + gmc + adder
abbrev pub price_fraction : CurveInputs → ℕ → ℕ → ℕ → ℕ → SignedFraction
price_fraction k level rate level' rate' =
    incremental_rate level rate level' rate' timesℤ signed (k.gas over heat_units) plusℤ signed (whole (k.om + k.gmc + k.adder))

-- rounded once
unfoldable pub own_price : CurveInputs → ℕ → ℕ → ℕ → ℕ → ℤ
own_price k level rate level' rate' = roundedℤ (price_fraction k level rate level' rate')

abbrev pub segment : ℕ → ℕ → ℤ → Segment
segment from to price = record { from = from; to = to; price = price }

-- the segments behind a point
abbrev pub own_from : CurveInputs → ℕ → ℕ → List ℕ → List ℕ → List Segment
own_from k level rate [] rates = []
own_from k level rate (level' ∷ levels) [] = []
own_from k level rate (level' ∷ levels) (rate' ∷ rates) =
    segment level level' (own_price k level rate level' rate') ∷ own_from k level' rate' levels rates

abbrev pub own_segments : CurveInputs → List ℕ → List ℕ → List Segment
own_segments k [] rates = []
own_segments k (level ∷ levels) [] = []
own_segments k (level ∷ levels) (rate ∷ rates) = own_from k level rate levels rates

-- ---- a segment priced under the one before takes that price, as it was raised

abbrev pub priced : ℤ → Segment → Segment
priced price s = segment s.from s.to price

abbrev pub raised_from : ℤ → List Segment → List Segment
raised_from before [] = []
raised_from before (s ∷ segments) = priced (maxℤ before s.price) s ∷ raised_from (maxℤ before s.price) segments

abbrev pub raised : List Segment → List Segment
raised [] = []
raised (s ∷ segments) = s ∷ raised_from s.price segments

-- ---- neighbours of equal price merge

abbrev pub equal : ℤ → ℤ → Bool
equal x y = le_z x y && le_z y x

abbrev pub extended : Segment → ℕ → Segment
extended s to = segment s.from to s.price

abbrev pub merged_from : Segment → List Segment → List Segment
merged_from last [] = last ∷ []
merged_from last (s ∷ segments) =
    cond (equal last.price s.price) (merged_from (extended last s.to) segments) (last ∷ merged_from s segments)

abbrev pub merged : List Segment → List Segment
merged [] = []
merged (s ∷ segments) = merged_from s segments

-- ---- the curve that is bid

unfoldable pub final_curve : CurveInputs → List ℕ → List ℕ → List Segment
final_curve k levels rates = merged (raised (own_segments k levels rates))

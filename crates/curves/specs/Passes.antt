-- How the code goes, segment by segment: the last one stays open while the next is not dearer.
use Rattle.std.specs.Prelude.{Bool, true, false, List, ℕ, ◌+◌, get_or, drop, set}
use Rattle.std.specs.Int.Signed.{lt_z}
use Rattle.curves.specs.declared.CurveInputs.{CurveInputs}
use Rattle.curves.specs.declared.Segment.{Segment}
use Rattle.curves.specs.Curve.{segment, own_price, own_from, extended, raised_from, merged_from}

-- the own segment between points i and i + 1
abbrev pub own_at : CurveInputs → List ℕ → List ℕ → ℕ → Segment
own_at k levels rates i =
    segment (get_or levels i 0) (get_or levels (i + 1) 0)
    (own_price k (get_or levels i 0) (get_or rates i 0) (get_or levels (i + 1) 0) (get_or rates (i + 1) 0))

-- those behind point i
abbrev pub own_after : CurveInputs → List ℕ → List ℕ → ℕ → List Segment
own_after k levels rates i = own_from k (get_or levels i 0) (get_or rates i 0) (drop (i + 1) levels) (drop (i + 1) rates)

-- the curve from an open segment on
abbrev pub curve_from : Segment → List Segment → List Segment
curve_from last segments = merged_from last (raised_from last.price segments)

abbrev pub dearer : Segment → Segment → Bool
dearer last next = lt_z last.price next.price

-- the segment that is open then, where the last one was closed or not
abbrev pub open_after : Bool → Segment → Segment → Segment
open_after true last next = next
open_after false last next = extended last next.to

-- what a turn leaves in a list
abbrev pub stored : {A : Type 0} → Bool → ℕ → A → List A → List A
stored true at x was = set was at x
stored false at x was = was

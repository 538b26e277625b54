-- The answer of `curve_into` and the three lent lists after it (specification 14, 15).
use Rattle.std.specs.Prelude.{List, map, ◌++◌, ℕ, min, ℤ, length, drop, Ok, Err}
use Rattle.commitment.specs.Types.{Checked}
use Rattle.commitment.specs.Causes.{number_of}
use Rattle.curves.specs.declared.CurveInputs.{CurveInputs}
use Rattle.curves.specs.declared.Segment.{Segment}
use Rattle.curves.specs.Types.{Curved}
use Rattle.curves.specs.Ranges.{curve_checked}
use Rattle.curves.specs.Curve.{final_curve}

-- the segments that three lent lists have room for
abbrev pub room : List ℕ → List ℕ → List ℤ → ℕ
room froms tos prices = min (length froms) (min (length tos) (length prices))

-- ---- the answer

abbrev pub curved_by : Checked → List Segment → Curved
curved_by (Ok _) curve = Ok (length curve)
curved_by (Err cause) curve = Err cause

unfoldable pub curved : CurveInputs → List ℕ → List ℕ → ℕ → Curved
curved k levels rates entries = curved_by (curve_checked k levels rates entries) (final_curve k levels rates)

-- ---- a lent list: its front is filled, and the rest is untouched; on a refusal all of it is

abbrev pub filled : {A : Type 0} → (Segment → A) → List Segment → List A → List A
filled part curve was = map part curve ++ drop (length curve) was

abbrev pub left_by : {A : Type 0} → Checked → (Segment → A) → List Segment → List A → List A
left_by (Ok _) part curve was = filled part curve was
left_by (Err cause) part curve was = was

unfoldable pub curve_left : {A : Type 0} → CurveInputs → List ℕ → List ℕ → ℕ → (Segment → A) → List A → List A
curve_left k levels rates entries part was = left_by (curve_checked k levels rates entries) part (final_curve k levels rates) was

abbrev pub from_of : Segment → ℕ
from_of s = s.from

abbrev pub to_of : Segment → ℕ
to_of s = s.to

abbrev pub price_of : Segment → ℤ
price_of s = s.price

-- each of the three beside the others
abbrev pub froms_left : CurveInputs → List ℕ → List ℕ → List ℕ → List ℕ → List ℤ → List ℕ
froms_left k levels rates froms tos prices = curve_left k levels rates (room froms tos prices) from_of froms

abbrev pub tos_left : CurveInputs → List ℕ → List ℕ → List ℕ → List ℕ → List ℤ → List ℕ
tos_left k levels rates froms tos prices = curve_left k levels rates (room froms tos prices) to_of tos

abbrev pub prices_left : CurveInputs → List ℕ → List ℕ → List ℕ → List ℕ → List ℤ → List ℤ
prices_left k levels rates froms tos prices = curve_left k levels rates (room froms tos prices) price_of prices

-- ---- its number and its count: 0 on a refusal

abbrev pub curved_count : Curved → ℕ
curved_count (Ok count) = count
curved_count (Err cause) = 0

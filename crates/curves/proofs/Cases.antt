-- The request's examples by the definitions, check and all.
use Rattle.std.specs.Prelude.{Err, Ok}
use mathlib.Core.Path.{◌≡◌, refl}
use mathlib.Core.List.{List, [], ◌∷◌}
use Prim.Native.Nat.{ℕ, ◌*◌}
use lib.IntN.{pos, negsuc}
use Rattle.integers.specs.Maximum.{maxℤ}
use Rattle.rounding.specs.Rounding.{roundedℤ}
use Rattle.commitment.specs.declared.Cause.TheVariants.{Range, Levels, Length}
use Rattle.curves.specs.declared.CurveInputs.{CurveInputs}
use Rattle.curves.specs.declared.Segment.{Segment}
use Rattle.curves.specs.Types.{Curved}
use Rattle.curves.specs.Ranges.{points_kept, curve_checked}
use Rattle.curves.specs.Curve.{incremental_rate, own_price, segment, final_curve}
use Rattle.curves.specs.Answers.{curved}

abbrev inputs : ℕ → ℕ → ℕ → ℕ → CurveInputs
inputs gas om gmc adder = record { gas = gas; om = om; gmc = gmc; adder = adder }

-- ---- the points of source document 003's example

abbrev levels : List ℕ
levels = 70 ∷ 150 ∷ 300 ∷ []

abbrev rates : List ℕ
rates = 14440 ∷ 11960 ∷ 10909 ∷ []

-- 9,790 and 9,858
pub incremental :
    (incremental_rate 70 14440 150 11960).num ∷ (incremental_rate 150 11960 300 10909).num ∷ []
    ≡ pos (9790 * 80) ∷ pos (9858 * 150) ∷ []
incremental = refl

pub example : final_curve (inputs 550 280 50 2500) levels rates ≡ segment 70 150 (pos 8214) ∷ segment 150 300 (pos 8252) ∷ []
unfolding final_curve own_price roundedℤ maxℤ
example = refl

-- ---- a third of a cent; a price that is compared with one already raised; 1.5 and 2.5, which merge; −0.5, −1.5 and −2.5

abbrev gas_alone : ℕ → List ℕ → List ℕ → List Segment
gas_alone gas levels rates = final_curve (inputs gas 0 0 0) levels rates

pub priced :
    gas_alone 10000 (1 ∷ 4 ∷ []) (10 ∷ 5 ∷ []) ∷ gas_alone 1000 (1 ∷ 2 ∷ 3 ∷ 4 ∷ []) (10000 ∷ 10000 ∷ 8000 ∷ 7500 ∷ [])
    ∷ gas_alone 500 (1 ∷ 2 ∷ 3 ∷ []) (1 ∷ 2 ∷ 3 ∷ []) ∷ gas_alone 500 (1 ∷ 2 ∷ []) (3 ∷ 1 ∷ []) ∷ gas_alone 500 (1 ∷ 2 ∷ []) (5 ∷ 1 ∷ [])
    ∷ gas_alone 500 (1 ∷ 2 ∷ []) (7 ∷ 1 ∷ []) ∷ []
    ≡ (segment 1 4 (pos 33) ∷ []) ∷ (segment 1 4 (pos 10000) ∷ []) ∷ (segment 1 3 (pos 2) ∷ []) ∷ (segment 1 2 (pos 0) ∷ [])
    ∷ (segment 1 2 (negsuc 1) ∷ []) ∷ (segment 1 2 (negsuc 1) ∷ []) ∷ []
unfolding final_curve own_price roundedℤ maxℤ
priced = refl

-- ---- answers: room for the points less one, and less; levels that fall beside a list of another length; lists of two lengths; a level too high

abbrev answer : List ℕ → List ℕ → ℕ → Curved
answer levels rates room = curved (inputs 550 280 50 2500) levels rates room

pub answered :
    answer levels rates 2 ∷ answer levels rates 1 ∷ answer (2 ∷ 1 ∷ []) rates 0 ∷ answer (2 ∷ 3 ∷ []) rates 9
    ∷ answer (3 ∷ 3 ∷ 501 ∷ []) rates 0 ∷ []
    ≡ Ok 2 ∷ Err Length ∷ Err Levels ∷ Err Length ∷ Err Range ∷ []
unfolding curved curve_checked points_kept final_curve own_price roundedℤ maxℤ
answered = refl

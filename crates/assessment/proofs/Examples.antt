-- C1's plan handed in earns 400000; 0,20,0,0,20,20 does not keep C1.
use Rattle.std.specs.Prelude.{Err, Ok}
use mathlib.Core.Path.{◌≡◌, refl}
use mathlib.Core.List.{[], ◌∷◌}
use lib.IntN.{pos}
use Rattle.commitment.specs.declared.Cause.TheVariants.{NotKept}
use Rattle.commitment.specs.Ranges.{ranges_kept, prices_kept}
use Rattle.commitment.specs.PlanCases.{c1, c1-prices}
use Rattle.assessment.specs.Assessed.{hand_in_checked, assessed}

c1-passed : assessed c1 c1-prices (0 ∷ 20 ∷ 20 ∷ 10 ∷ 20 ∷ 20 ∷ []) ≡ Ok (pos 400000)
unfolding hand_in_checked ranges_kept prices_kept
c1-passed = refl

c1-not-kept : assessed c1 c1-prices (0 ∷ 20 ∷ 0 ∷ 0 ∷ 20 ∷ 20 ∷ []) ≡ Err NotKept
unfolding hand_in_checked ranges_kept prices_kept
c1-not-kept = refl

-- A product is at most that of the bounds.
use Rattle.std.proofs.Common.{ℕ, ◌+◌, ◌*◌, ◌^◌, ◌<◌, ◌≤◌, refl, mul-le-mul, arith}
use Rattle.enumeration.specs.Lists.{room}
use Rattle.enumeration.proofs.lending.cells_of.Goals as goal

few_cells : (states starts ons blocks : ℕ) → states < 2 ^ 9 → starts ≤ room → ons ≤ room → blocks < 2 ^ 12
    → states * (starts + 1) * (ons + 1) * (blocks + 1) < 2 ^ 32
few_cells states starts ons blocks s a b d =
    let by_starts : states * (starts + 1) ≤ 511 * 10 = mul-le-mul {n₂ = 511} {m₂ = 10} (omega arith) (omega arith) in
    let by_ons : states * (starts + 1) * (ons + 1) ≤ 5110 * 10 = mul-le-mul {m₂ = 10} by_starts (omega arith) in
    let by_blocks : states * (starts + 1) * (ons + 1) * (blocks + 1) ≤ 51100 * 4096 = mul-le-mul {m₂ = 4096} by_ons (omega arith) in
    omega (arith, by_blocks)

pub overflow_mul-result-3 : goal.overflow_mul-result-3
overflow_mul-result-3 c = omega (arith, few_cells _ _ _ _ c.requires.0 c.requires.1 c.requires.2 c.requires.3)

pub returns : goal.returns
returns c = (refl, few_cells _ _ _ _ c.requires.0 c.requires.1 c.requires.2 c.requires.3)

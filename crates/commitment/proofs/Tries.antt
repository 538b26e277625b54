-- The tries of an output and of a schedule: in blocks, one schedule behind another, and how many there are at most.
use mathlib.Core.Path.{◌≡◌, refl, ap}
use mathlib.Core.Bool.{true, ◌&&◌}
use mathlib.Core.List.{List, [], ◌∷◌, ◌++◌}
use Prim.Native.Nat.{ℕ, zero, suc, ◌+◌, ◌-◌, ◌*◌, ◌/◌, ◌%◌, ◌≤◌}
use native.Mathlib.Nat.{mul-div_cancel, div-mul-le_self, div-le_of_le-mul, mul-le-mul_right}
use native.Mathlib.Omega.{arith}
use borrow.Author.Tests.{leb-true}
use lib.Dec.{leb, eqb}
use lib.ListN.{length}
use Rattle.lists.specs.Every.{every}
use Rattle.lists.proofs.Conjunctions.{both}
use Rattle.commitment.specs.declared.Generator.{Generator}
use Rattle.commitment.specs.Keeping.{output_sum}
use Rattle.commitment.specs.Schedule.{is_output}
use Rattle.commitment.specs.Tries.{tries_to, tries_for, tries_over}

pub tries-on : (pmin k : ℕ) → 1 ≤ k → tries_to pmin k ≡ k - pmin + 2
tries-on pmin zero h = absurd (omega arith)
tries-on pmin (suc k) h = refl

pub tries-in-blocks : (block pmin k : ℕ) → 1 ≤ block → tries_for block pmin (k * block) ≡ tries_to pmin k
tries-in-blocks block pmin k h = ap (tries_to pmin) (mul-div_cancel k h)

pub tries-append : (block pmin : ℕ) (s t : List ℕ) → tries_over block pmin (s ++ t) ≡ tries_over block pmin s + tries_over block pmin t
tries-append block pmin [] t = omega arith
tries-append block pmin (m ∷ s) t = omega (arith, tries-append block pmin s t)

-- ---- at most one for each output of the unit in each interval

pub tries-most : (pmin pmax k : ℕ) → k ≤ pmax → tries_to pmin k ≤ pmax - pmin + 2
tries-most pmin pmax zero h = omega arith
tries-most pmin pmax (suc k) h = omega arith

output-blocks : (g : Generator) (m : ℕ) → is_output g m ≡ true → m / g.block ≤ g.pmax
output-blocks g zero e = div-le_of_le-mul g.block (omega arith)
output-blocks g (suc m) e =
    let t = both (eqb (suc m % g.block) 0 && leb (g.pmin * g.block) (suc m)) (leb (suc m) (g.pmax * g.block)) e in
    let h = leb-true (suc m) (g.pmax * g.block) t.1 in
    div-le_of_le-mul g.block (omega arith)

pub tries-at-most : (g : Generator) (s : List ℕ) → every (is_output g) s ≡ true → tries_over g.block g.pmin s ≤ length s * (g.pmax - g.pmin + 2)
tries-at-most g [] e = omega arith
tries-at-most g (m ∷ s) e =
    let t = both (is_output g m) (every (is_output g) s) e in
    omega (arith, tries-most g.pmin g.pmax (m / g.block) (output-blocks g m t.0), tries-at-most g s t.1)

-- ---- at most one for each interval and one for each block of output

one-block-more : (pmin k : ℕ) → 1 ≤ pmin → tries_to pmin k ≤ suc k
one-block-more pmin zero h = omega arith
one-block-more pmin (suc k) h = omega arith

pub tries-by-blocks : (block pmin : ℕ) → 1 ≤ pmin → (s : List ℕ) → tries_over block pmin s * block ≤ length s * block + output_sum s
tries-by-blocks block pmin h [] = omega arith
tries-by-blocks block pmin h (m ∷ s) =
    omega
    (arith, mul-le-mul_right block (one-block-more pmin (m / block) h), div-mul-le_self m block, tries-by-blocks block pmin h s)

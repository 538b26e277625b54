-- The quarters from one on to another.
use mathlib.Core.Path.{◌≡◌, ap, ap₂, ◌∙◌}
use mathlib.Core.List.{List, [], ◌∷◌}
use Prim.Native.Nat.{ℕ, suc, ◌-◌, ◌≤◌, ◌<◌}
use native.Mathlib.Omega.{arith}
use lib.ListN.{length, get_or, take, drop, length-drop, length-take}
use lib.Seq.{drop-cons, take-length}
use Rattle.optimality.specs.Machine.{Quarter}
use Rattle.optimality.proofs.Quarters.{no_quarter}
use Rattle.layers.specs.Filling.{between}

pub between_none : (quarters : List Quarter) (t : ℕ) → between quarters t t ≡ []
between_none quarters t = let z : t - t ≡ 0 = omega arith in rw z

pub between_next : (quarters : List Quarter) (t to : ℕ) → t < to → t < length quarters
    → between quarters t to ≡ get_or quarters t no_quarter ∷ between quarters (suc t) to
between_next quarters t to h g =
    let e : to - t ≡ suc (to - suc t) = omega arith in
    ap₂ (λ (n : ℕ) (qs : List Quarter). take n qs) e (drop-cons quarters t no_quarter g)

pub between-length : (quarters : List Quarter) (t to : ℕ) → t ≤ to → to ≤ length quarters → length (between quarters t to) ≡ to - t
between-length quarters t to h g = length-take (to - t) (drop t quarters) ∙ (let d = length-drop t quarters in omega (arith, d))

pub between-all : (quarters : List Quarter) (n : ℕ) → n ≡ length quarters → between quarters 0 n ≡ quarters
between-all quarters n e =
    let k : n - 0 ≡ length quarters = omega (arith, e) in
    ap (λ (m : ℕ). take m quarters) k ∙ take-length quarters

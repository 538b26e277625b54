-- Twice the rest is to the divisor as the rest is to what is missing of it.
use mathlib.Core.Path.{◌≡◌, refl, ◌∙◌, sym, ap₂}
use mathlib.Core.Bool.{Bool, true, false, not, ◌&&◌, ◌||◌}
use Prim.Native.Nat.{ℕ, ◌-◌, ◌*◌, ◌<◌}
use native.Mathlib.Omega.{arith}
use borrow.Author.Rules.{rules}
use borrow.Author.Tests.{ltb-true, ltb-false, lt-ltb, le-ltb, eqb-true, eqb-false, eq-eqb, ne_eqb}
use lib.Dec.{ltb, eqb}
use Rattle.rounding.specs.Rounding.{even, goes_up}
use Rattle.rounding.proofs.goes_up.Statement.{statement}
use Rattle.rounding.proofs.goes_up.Tie as tie

module _ (rest den : ℕ) (h : rest < den) where
  over : ltb (den - rest) rest ≡ ltb den (2 * rest)
  over = go (ltb (den - rest) rest) refl
    where
      go : (t : Bool) → ltb (den - rest) rest ≡ t → ltb (den - rest) rest ≡ ltb den (2 * rest)
      go true e = e ∙ sym (lt-ltb den (2 * rest) (omega (arith, ltb-true (den - rest) rest e)))
      go false e = e ∙ sym (le-ltb den (2 * rest) (omega (arith, ltb-false (den - rest) rest e)))

  at : eqb (den - rest) rest ≡ eqb den (2 * rest)
  at = go (eqb (den - rest) rest) refl
    where
      go : (t : Bool) → eqb (den - rest) rest ≡ t → eqb (den - rest) rest ≡ eqb den (2 * rest)
      go true e = e ∙ sym (eq-eqb den (2 * rest) (omega (arith, eqb-true (den - rest) rest e)))
      go false e = e ∙ sym (ne_eqb den (2 * rest) (λ (d : den ≡ 2 * rest). eqb-false (den - rest) rest e (omega arith)))

decided :
    (quotient rest den : ℕ) → rest < den →
    ltb (den - rest) rest || (eqb (den - rest) rest && not (even quotient)) ≡ goes_up quotient rest den
decided quotient rest den h = ap₂ (λ (o t : Bool). o || (t && not (even quotient))) (over rest den h) (at rest den h)

returns : tie.Need-returns
returns c = decided c.args.quotient c.args.rest c.args.den c.requires

pub goes_up_spec : {M : Type 1} → statement M
goes_up_spec = tie.close (tie.spec (λ c. search rules) returns)

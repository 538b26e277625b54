-- A digit is split off the number and written before those that were.
use Rattle.std.proofs.Common.{◌≡◌, ℕ, zero, suc, ◌-◌, ◌/◌, ◌%◌, ◌<◌, ◌≤◌, List, [], ◌∷◌, ◌++◌, map, length, take, drop, set, replicate, sym, refl, ap, ◌∙◌, ap₂, arith, length-set, length-take-le, drop_at}
use Rattle.std.proofs.lemmas.List.{drop-replicate}
use mathlib.Core.List.{map-append}
use lib.Seq.{append_snoc, set_split}
use Rattle.enumeration.specs.Lists.{room, intervals_of, outputs_of, output_of, digits, outputs_in}
use Rattle.enumeration.proofs.enumerator.list_of.Goals as goal

stored : (l : List ℕ) (j v : ℕ) → j < length l → drop j (set l j v) ≡ v ∷ drop (suc j) l
stored l j v h = ap (drop j) (set_split l j v h) ∙ drop_at (take j l) (v ∷ drop (suc j) l) j (length-take-le j l (omega arith))

-- the last digit is written
last_written : (f : ℕ → ℕ) (base i rest : ℕ) (l : List ℕ) → 0 < i → i ≤ length l
    → map f (digits base i rest) ++ drop i l ≡ map f (digits base (i - 1) (rest / base)) ++ drop (i - 1) (set l (i - 1) (f (rest % base)))
unfolding digits
last_written f base zero rest l some fits = absurd (omega arith)
last_written f base (suc j) rest l some fits =
    let e : suc j - 1 ≡ j = omega arith in
    let front = map f (digits base j (rest / base)) in
    rw e
    (ap (λ (t : List ℕ). t ++ drop (suc j) l) (map-append f (digits base j (rest / base)) (rest % base ∷ []))
    ∙ append_snoc front (f (rest % base)) (drop (suc j) l) ∙ ap (λ (t : List ℕ). front ++ t) (sym (stored l j (f (rest % base)) (omega arith))))

pub loop-i-init : goal.loop-i-init
unfolding outputs_in
loop-i-init c =
    let case = c.args.case in
    let number = c.args.number in (
      refl,
      ap (λ (t : List ℕ). map (output_of case) (digits (outputs_of case) (intervals_of case) number) ++ t)
          (sym (drop-replicate (intervals_of case) room 0))
          ∙ ap₂ (λ (base n : ℕ). map (output_of case) (digits base n number) ++ drop n (replicate room 0)) (sym c.outputs_of-outputs.ensures.0)
          (sym c.intervals_of-i.ensures.0),
    )

pub loop-i-preserved : goal.loop-i-preserved
loop-i-preserved c =
    let l = c.loop-i in
    let base = c.outputs_of-outputs.result in (
      length-set l.list (l.i - 1) _ ∙ l.invariant.0,
      l.invariant.1 ∙ last_written (output_of c.args.case) base l.i l.rest l.list (omega arith) (omega (arith, l.invariant.0))
          ∙ ap (λ (v : ℕ). map (output_of c.args.case) (digits base (l.i - 1) (l.rest / base)) ++ drop (l.i - 1) (set l.list (l.i - 1) v))
          (sym c.output_of.ensures.0),
    )

pub returns : goal.returns
unfolding digits
returns c =
    let l = c.loop-i in
    let none : l.i ≡ 0 = omega arith in
    sym (rw none at l.invariant.1)

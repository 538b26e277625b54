-- Laws on the lists of outputs, by their numbers.
use Rattle.std.proofs.Common.{◌≡◌, ℕ, zero, suc, ◌/◌, ◌%◌, [], ◌∷◌, length, refl, ◌∙◌, arith, length-append}
use lib.ListN.{length-map}
use Rattle.enumeration.specs.declared.enumerator.Case.{Case}
use Rattle.enumeration.specs.Lists.{intervals_of, outputs_of, output_of, digits, outputs_in}

digits-count : (base n number : ℕ) → length (digits base n number) ≡ n
unfolding digits
digits-count base zero number = refl
digits-count base (suc n) number = omega (arith, length-append (digits base n (number / base)) (number % base ∷ []), digits-count base n (number / base))

pub outputs-count : (case : Case) (number : ℕ) → length (outputs_in case number) ≡ intervals_of case
unfolding outputs_in
outputs-count case number =
    length-map (digits (outputs_of case) (intervals_of case) number) (output_of case) ∙ digits-count (outputs_of case) (intervals_of case) number

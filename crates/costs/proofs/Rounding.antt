-- Each figure given is its fraction rounded once, a half to the even neighbour.
use Rattle.std.specs.Prelude.{Err, Ok}
use mathlib.Core.Path.{◌≡◌, refl, subst}
use mathlib.Core.Bool.{true}
use mathlib.Core.List.{List, [], ◌∷◌}
use Prim.Native.Nat.{ℕ, ◌<◌}
use native.Mathlib.Omega.{arith}
use lib.Dec.{lit<}
use Rattle.rounding.proofs.Rounding.{rounded-half-even}
use Rattle.commitment.specs.Bounds.{most_mw}
use Rattle.costs.specs.declared.CostInputs.{CostInputs}
use Rattle.commitment.specs.Types.{Checked}
use Rattle.lists.specs.Every.{every}
use Rattle.costs.specs.Figures.{vec_fraction, suc_fraction, mlc_fraction}
use Rattle.costs.specs.declared.CostFigures.{CostFigures}
use Rattle.costs.specs.Ranges.{one_to, inputs_checked}
use Rattle.costs.specs.Rounding.{RoundedOnce}
use Rattle.costs.specs.Answers.{costed_by, three_figures, costed}
use Rattle.costs.proofs.Ranges.{accepted}
use Rattle.costs.proofs.Segments.{total-some}
use Rattle.costs.proofs.Formulas.{vec-worth, suc-worth, mlc-worth}

vec-positive : (k : CostInputs) (mws heats : List ℕ) → every (one_to most_mw) mws ≡ true → 0 < (vec_fraction k mws heats).den
vec-positive k [] heats e = lit< tt
vec-positive k (mw ∷ mws) heats e = (vec-worth k (mw ∷ mws) heats (omega arith) (total-some most_mw (mw ∷ mws) e (omega arith))).positive

-- what was answered is what was worked out
figured : (found : Checked) (worked answer : CostFigures) → costed_by found worked ≡ Ok answer → (found ≡ Ok tt) × (worked ≡ answer)
figured (Ok _) worked answer e = (refl, cc)
figured (Err cause) worked answer e = let z : ◌≡◌ {A = ℕ} 0 1 = cc in absurd (omega arith)

pub rounded-once : (k : CostInputs) (mws heats : List ℕ) (figures : CostFigures) → costed k mws heats ≡ Ok figures → RoundedOnce k mws heats figures
unfolding costed
rounded-once k mws heats figures e =
    let f = figured (inputs_checked k mws heats) (three_figures k mws heats) figures e in
    let a = accepted k mws heats f.0 in
    subst (RoundedOnce k mws heats) f.1
    (record {
      vec = rounded-half-even (vec_fraction k mws heats) (vec-positive k mws heats a.segments.mws-kept);
      suc = rounded-half-even (suc_fraction k) (suc-worth k).positive;
      mlc = rounded-half-even (mlc_fraction k) (mlc-worth k).positive;
    })

-- The answer of `figures` (specification 15): the three figures, or the first cause; with its number and its figures in every case.
use Rattle.std.specs.Prelude.{List, ℕ, Ok, Err}
use Rattle.costs.specs.declared.CostInputs.{CostInputs}
use Rattle.commitment.specs.Types.{Checked}
use Rattle.commitment.specs.Causes.{number_of}
use Rattle.costs.specs.Figures.{vec_of, suc_of, mlc_of}
use Rattle.costs.specs.declared.CostFigures.{CostFigures}
use Rattle.costs.specs.Types.{Costed}
use Rattle.costs.specs.Ranges.{inputs_checked}

-- ---- the answer

-- formulas (1), (2) and (3)
abbrev pub three_figures : CostInputs → List ℕ → List ℕ → CostFigures
three_figures k mws heats = record { vec = vec_of k mws heats; suc = suc_of k; mlc = mlc_of k }

-- the figures where the check finds nothing
abbrev pub costed_by : Checked → CostFigures → Costed
costed_by (Ok _) figures = Ok figures
costed_by (Err cause) figures = Err cause

unfoldable pub costed : CostInputs → List ℕ → List ℕ → Costed
costed k mws heats = costed_by (inputs_checked k mws heats) (three_figures k mws heats)

-- ---- its number and its figures: on a refusal every other number is 0

abbrev pub costed_vec : Costed → ℕ
costed_vec (Ok figures) = figures.vec
costed_vec (Err cause) = 0

abbrev pub costed_suc : Costed → ℕ
costed_suc (Ok figures) = figures.suc
costed_suc (Err cause) = 0

abbrev pub costed_mlc : Costed → ℕ
costed_mlc (Ok figures) = figures.mlc
costed_mlc (Err cause) = 0

-- Budgets that are within others, and figures with smaller ones.
use mathlib.Core.Path.{◌≡◌, refl}
use mathlib.Core.List.{List}
use native.Mathlib.Omega.{arith}
use Rattle.commitment.specs.Types.{BestProfit}
use Rattle.optimality.specs.declared.Budgets.{Budgets}
use Rattle.optimality.specs.declared.Cell.{Cell}
use Rattle.optimality.specs.declared.Figures.{Figures}
use Rattle.optimality.specs.Machine.{Quarter}
use Rattle.optimality.specs.Cells.{Within, Sound, with_most, less, plan_at, value_at}

pub within-itself : (a : Budgets) → Within a a
within-itself a = record { starts = omega arith; ons = omega arith; blocks = omega arith }

pub within-within : {a b c : Budgets} → Within a b → Within b c → Within a c
within-within p q = record { starts = omega arith; ons = omega arith; blocks = omega arith }

pub less-within : (a b : Budgets) → Within (less a b) a
less-within a b = record { starts = omega arith; ons = omega arith; blocks = omega arith }

pub with-sound : (f : Figures) (most : Budgets) → Within most f.most → Sound f → Sound (with_most f most)
with-sound f most within ok =
    record {
      block = ok.block;
      pmin = ok.pmin;
      pmax = ok.pmax;
      top = ok.top;
      mot = ok.mot;
      mot-most = ok.mot-most;
      mdt = ok.mdt;
      mdt-most = ok.mdt-most;
      vec = ok.vec;
      mlc = ok.mlc;
      suc = ok.suc;
      takes = ok.takes;
      most = within-within within ok.most;
    }

-- no step reads the largest budgets, so plans and values are the same with others
pub with-plan : (f : Figures) (most : Budgets) (ends : Cell → BestProfit) (quarters : List Quarter) (x : Cell)
    → plan_at (with_most f most) ends quarters x ≡ plan_at f ends quarters x
unfolding plan_at
with-plan f most ends quarters x = refl

pub with_value : (f : Figures) (most : Budgets) (ends : Cell → BestProfit) (quarters : List Quarter) (x : Cell)
    → value_at (with_most f most) ends quarters x ≡ value_at f ends quarters x
unfolding value_at
with_value f most ends quarters x = refl

-- C11's vec, halves and the tops of all ranges, by the whole answer of `figures`, check and all.
use Rattle.std.specs.Prelude.{Ok}
use mathlib.Core.Path.{◌≡◌, refl}
use mathlib.Core.List.{[], ◌∷◌}
use Prim.Native.Nat.{ℕ}
use Rattle.rounding.specs.Rounding.{rounded}
use Rattle.costs.specs.declared.CostInputs.{CostInputs}
use Rattle.commitment.specs.Bounds.{most_blocks}
use Rattle.costs.specs.Bounds.{most_tariff, most_rate, most_heat, most_fuel, most_aux, most_minutes, most_adder}
use Rattle.costs.specs.Ranges.{inputs_kept, segments_kept, inputs_checked}
use Rattle.costs.specs.Answers.{costed, costed_vec}
use Rattle.costs.specs.Cases.{c11, c10-mws, c10-heats}

-- the allowances above minimum load
pub c11-vec : costed_vec (costed c11 c10-mws c10-heats) ≡ 6340
unfolding costed inputs_checked inputs_kept segments_kept rounded
c11-vec = refl

-- 1 MW at this gas price and grid charge, without segments: a start is half the charge, an hour half the gas price and the charge
abbrev halves : ℕ → ℕ → CostInputs
halves gas gmc =
    record {
      block = 1;
      pmin = 1;
      pmax = 1;
      gas = gas;
      transport = 0;
      allowance = 0;
      om = 0;
      gmc = gmc;
      rate = 0;
      min_heat = 500;
      fuel = 0;
      aux = 0;
      minutes = 60;
      start_adder = 0;
      load_adder = 0;
    }

-- 10.5 and 52.5, 10.5 and 53.5, 11.5 and 53.5
pub at-halves :
    costed (halves 63 21) [] [] ∷ costed (halves 65 21) [] [] ∷ costed (halves 61 23) [] [] ∷ []
    ≡ Ok (record { vec = 0; suc = 10; mlc = 52 }) ∷ Ok (record { vec = 0; suc = 10; mlc = 54 })
    ∷ Ok (record { vec = 0; suc = 12; mlc = 54 }) ∷ []
unfolding costed inputs_checked inputs_kept segments_kept rounded
at-halves = refl

-- every input at the top of its range, on 500 blocks of 1 MW; it has no segments
abbrev tops : CostInputs
tops =
    record {
      block = 1;
      pmin = most_blocks;
      pmax = most_blocks;
      gas = most_tariff;
      transport = most_tariff;
      allowance = most_tariff;
      om = most_tariff;
      gmc = most_tariff;
      rate = most_rate;
      min_heat = most_heat;
      fuel = most_fuel;
      aux = most_aux;
      minutes = most_minutes;
      start_adder = most_adder;
      load_adder = most_adder;
    }

pub at-the-tops : costed tops [] [] ≡ Ok (record { vec = 0; suc = 2270000000; mlc = 545000000 })
unfolding costed inputs_checked inputs_kept segments_kept rounded
at-the-tops = refl

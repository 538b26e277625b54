-- What a first layer tells: the best profit of every run, and whether there is a plan.
use Rattle.std.specs.Prelude.{None, Some}
use mathlib.Core.Path.{◌≡◌, sym, ◌∙◌}
use mathlib.Core.List.{List}
use Prim.Native.Nat.{ℕ, ◌≤◌, ◌<◌}
use native.Mathlib.Omega.{arith}
use lib.IntN.{ℤ, nat_abs}
use lib.ListN.{length}
use Rattle.commitment.specs.Types.{BestProfit}
use Rattle.commitment.specs.declared.Limits.{Limits}
use Rattle.commitment.specs.declared.UnitRecord.{UnitRecord}
use Rattle.commitment.specs.Best.{best, profit_of}
use Rattle.commitment.specs.Bounds.{most_intervals}
use Rattle.commitment.specs.Keeping.{opens_in}
use Rattle.commitment.specs.Limits.{limited}
use Rattle.commitment.specs.Ranges.{InOrder}
use Rattle.optimality.specs.Machine.{anywhere}
use Rattle.optimality.specs.Cells.{Sound, InTable, figures_of, quarters_of, opening_cell, plan_at, value_at}
use Rattle.optimality.specs.Runs.{Under}
use Rattle.optimality.proofs.Opening.{under-itself, figures-sound, opening-in-table, best-cell}
use Rattle.optimality.proofs.Quarters.{quarters-length}
use Rattle.optimality.proofs.Ranges.{Ranged, ranged}
use Rattle.optimality.proofs.Runs.{profit-under}
use Rattle.geometry.specs.Geometry.{width}
use Rattle.geometry.specs.Layers.{told, in_front, Holds, Layer}
use Rattle.geometry.proofs.Telling.{front-told}
use Rattle.valuation.specs.Telling.{amount, most_amount, Told}

stored-small : (n : ℕ) (v : BestProfit) (r : ℤ) → n ≤ most_intervals → Holds n v r → nat_abs (amount v) < most_amount
stored-small n None r h k = omega arith
stored-small n (Some p) r h k = omega (arith, k.1)

-- of a case in order, the first layer at the front
pub told_in : (u : UnitRecord) (prices cells : List ℤ) → InOrder u (length prices) → width (figures_of u (length prices)) ≤ length cells
    → Layer (figures_of u (length prices)) anywhere (quarters_of u prices) (in_front (figures_of u (length prices)) cells) → Told u prices cells
told_in u prices cells order wide layer =
    let f = figures_of u (length prices) in
    let quarters = quarters_of u prices in
    let short : length quarters ≤ most_intervals = omega (arith, quarters-length (opens_in u.permit) 0 prices, order.short) in
    record {
      order = order;
      wide = wide;
      first = λ c i. front-told f anywhere quarters cells c layer short i;
      small = λ c i. stored-small (length quarters) (value_at f anywhere quarters c) _ short (layer.holds c i);
    }

module _ (u : UnitRecord) (prices cells : List ℤ) (t : Told u prices cells) where
  pub unit-ranged : Ranged u
  unit-ranged = ranged u t.order.ranges t.order.shape

  pub sound : Sound (figures_of u (length prices))
  sound = figures-sound u unit-ranged (length prices) t.order.short

  module _ (limits : Limits) (under : Under limits u.limits) where
    pub run_inside : InTable (figures_of u (length prices)) (opening_cell (limited u limits) (length prices))
    run_inside = opening-in-table u unit-ranged (length prices) limits under

    -- the opening cell under smaller limitations tells their best profit
    pub run-told : told (in_front (figures_of u (length prices)) cells (opening_cell (limited u limits) (length prices)))
        ≡ profit_of (best (limited u limits) prices)
    run-told = t.first (opening_cell (limited u limits) (length prices)) run_inside ∙ sym (profit-under u unit-ranged prices limits under)

    pub run_small : nat_abs (amount (profit_of (best (limited u limits) prices))) < most_amount
    run_small = rw (profit-under u unit-ranged prices limits under) (t.small (opening_cell (limited u limits) (length prices)) run_inside)

  pub opening-inside : InTable (figures_of u (length prices)) (opening_cell u (length prices))
  opening-inside = run_inside u.limits (under-itself u.limits)

  pub opening-plan : plan_at (figures_of u (length prices)) anywhere (quarters_of u prices) (opening_cell u (length prices)) ≡ best u prices
  opening-plan = sym (best-cell u unit-ranged prices)

  -- where there is a schedule, the opening cell has a plan
  pub opening-some : (profit_of (best u prices) ≡ None → ⊥)
      → value_at (figures_of u (length prices)) anywhere (quarters_of u prices) (opening_cell u (length prices)) ≡ None → ⊥
  opening-some some none = some (profit-under u unit-ranged prices u.limits (under-itself u.limits) ∙ none)

-- The totals of a walk stay small: so much for each interval.
use mathlib.Core.Path.{◌≡◌}
use mathlib.Core.Bool.{Bool, true, false, ◌&&◌}
use Prim.Native.Nat.{ℕ, zero, suc, ◌+◌, ◌*◌, ◌%◌, ◌≤◌}
use native.Mathlib.Nat.{mul-le-mul_right}
use native.Mathlib.Omega.{arith}
use borrow.Author.Tests.{leb-true}
use lib.Dec.{leb, eqb}
use lib.IntN.{ℤ, pos, nat_abs}
use Rattle.commitment.specs.Bounds.{most_mw, most_held, most_suc, most_price, most_intervals}
use Rattle.integers.proofs.Ranges.{Within, within-at, within-weaken, within-sum, within-diff, abs-within}
use Rattle.commitment.specs.declared.UnitRecord.{UnitRecord}
use Rattle.commitment.specs.Profit.{earned, start_cost}
use Rattle.commitment.specs.Ranges.{ranges_kept, shape_kept}
use Rattle.commitment.specs.Schedule.{is_output}
use Rattle.lists.proofs.Conjunctions.{both}
use Rattle.commitment.proofs.Margins.{margin-within, most_margin}
use Rattle.commitment.proofs.Ranges.{in-range, in-shape}
use Rattle.assessment.specs.declared.Walk.{Walk}
use Rattle.assessment.specs.Walking.{Small, advanced, stepped, opening_walk}

-- the most that one interval can bring: its margin, and a start
abbrev pub most_step : ℕ
most_step = most_margin + 4 * most_suc

-- after i intervals
pub record Bounded (i : ℕ) (at : Walk) : Type 0 where
  pub spent : at.spent ≤ most_held + i
  pub starts : at.starts ≤ i
  pub running : at.running ≤ i
  pub output : at.output ≤ most_mw * i
  pub profit : Within (most_step * i) at.profit

pub bounded-small : (i : ℕ) (at : Walk) → i ≤ most_intervals → Bounded i at → Small at
bounded-small i at h b =
    record {
      spent = omega arith;
      starts = omega arith;
      running = omega arith;
      output = omega arith;
      profit = omega (arith, abs-within b.profit);
    }

module _ (u : UnitRecord) (ranges : ranges_kept u ≡ true) (shape : shape_kept u.generator ≡ true) where
  pub output-most : (m : ℕ) → is_output u.generator m ≡ true → m ≤ most_mw
  output-most zero e = omega arith
  output-most (suc m) e =
      let g = u.generator in
      let top = g.pmax * g.block in
      let f = both (eqb (suc m % g.block) 0 && leb (g.pmin * g.block) (suc m)) (leb (suc m) top) e in
      omega (arith, leb-true (suc m) top f.1, (in-shape g shape).most)

  pub opening-bounded : Bounded 0 (opening_walk u.opening)
  opening-bounded =
      record {
        spent = omega (arith, (in-range u ranges).opening.held-most);
        starts = omega arith;
        running = omega arith;
        output = omega arith;
        profit = within-at 0;
      }

  earned-within : (price : ℤ) (m : ℕ) → nat_abs price ≤ most_price → suc m ≤ most_mw → Within most_margin (earned u.generator u.costs price (suc m))
  earned-within price m p o =
      let h = in-range u ranges in
      let s = in-shape u.generator shape in
      margin-within price (suc m) u.costs.vec (u.generator.pmin * u.generator.block) u.costs.mlc p o h.costs.vec-most
      (omega (arith, mul-le-mul_right u.generator.block s.ordered, s.most))
      h.costs.mlc-most

  start-within : Within (4 * most_suc) (pos (start_cost u.costs))
  start-within = within-weaken (omega (arith, (in-range u ranges).costs.suc-most)) (within-at (start_cost u.costs))

  -- one interval more
  pub step-bounded : (i : ℕ) (at : Walk) (price : ℤ) (m : ℕ) → nat_abs price ≤ most_price → m ≤ most_mw → Bounded i at → Bounded (i + 1) (stepped u at price m)
  unfolding stepped
  step-bounded i at price m p o b = go at.on m o
    where
      kept : Within (most_step * (i + 1)) at.profit
      kept = within-weaken (omega arith) b.profit

      go : (on : Bool) (m : ℕ) → m ≤ most_mw → Bounded (i + 1) (advanced u at price on m)
      go true zero o = record { spent = omega arith; starts = omega arith; running = omega arith; output = omega arith; profit = kept }
      go false zero o = record { spent = omega arith; starts = omega arith; running = omega arith; output = omega arith; profit = kept }
      go true (suc m) o =
          record {
            spent = omega arith;
            starts = omega arith;
            running = omega arith;
            output = omega arith;
            profit = within-weaken (omega arith) (within-sum b.profit (earned-within price m p o));
          }
      go false (suc m) o =
          record {
            spent = omega arith;
            starts = omega arith;
            running = omega arith;
            output = omega arith;
            profit = within-weaken (omega arith) (within-sum b.profit (within-diff (earned-within price m p o) start-within));
          }

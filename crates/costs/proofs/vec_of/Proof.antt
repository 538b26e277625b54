-- The sum over the segments fits, their MW are more than 0, and (1) is the sum over the code's denominator.
use mathlib.Core.Path.{sym}
use Prim.Native.Nat.{◌<◌, ◌≤◌}
use native.Mathlib.Omega.{arith}
use lib.ListN.{length}
use Rattle.commitment.specs.Bounds.{most_mw}
use Rattle.costs.specs.Figures.{total_mw}
use Rattle.costs.proofs.Ranges.{accepted, heat-sizes, range-mw}
use Rattle.costs.proofs.Segments.{total-some, weighted-fits}
use Rattle.costs.proofs.Formulas.{vec-none, vec-rounds}
use Rattle.costs.proofs.vec_of.Statement.{statement}
use Rattle.costs.proofs.vec_of.Tie as tie

returns : tie.Need-returns-then-mws-eq0
returns c =
    let a = c.before.before.before.args in
    vec-none a.inputs a.mws.now a.heats.now c.if-mws-eq0.true

heat-price-requires : tie.Need-heat_price-price-requires
heat-price-requires c κs = let o = c.before.before.before in heat-sizes o.args.inputs (accepted _ _ _ o.requires).inputs

weighted-units-requires : tie.Need-weighted_units-sum-requires
weighted-units-requires c κs =
    let o = c.before.before.before.before in
    let a = accepted _ _ _ o.requires in
    (a.lengths, (a.segments.mws-kept, rw c.heat_price-price.ensures (weighted-fits _ _ _ a)))

-- ---- the MW

record Mw (c : tie.Else-mws-eq0) : Type 0 where
  some : 0 < length c.before.before.before.args.mws.now
  positive : 0 < total_mw c.before.before.before.args.mws.now
  most : total_mw c.before.before.before.args.mws.now ≤ most_mw

mw : (c : tie.Else-mws-eq0) → Mw c
mw c =
    let o = c.before.before.before in
    let a = accepted _ _ _ o.requires in
    let some : 0 < length o.args.mws.now = omega arith in
    record {
      some = some;
      positive = total-some most_mw o.args.mws.now a.segments.mws-kept some;
      most = omega (arith, a.total, range-mw o.args.inputs a.inputs a.shape);
    }

total-mw-requires : tie.Need-total_mw-total-requires
total-mw-requires c κs = omega (arith, mw c.before.before)

mul-rounded : tie.Need-overflow_mul-total
mul-rounded c = omega (arith, mw c.before.before.before)

rounded-requires : tie.Need-rounded-requires
rounded-requires c κs = omega (arith, mw c.before.before.before)

returns-2 : tie.Need-returns
returns-2 c =
    let e = c.before.before.before.before in
    let a = e.before.before.before.args in
    rw (c.rounded.ensures, c.before.before.weighted_units-sum.ensures, c.before.before.before.heat_price-price.ensures, c.before.total_mw-total.ensures)
    (sym (vec-rounds a.inputs a.mws.now a.heats.now (mw e).some (mw e).positive))

pub vec_of_spec : {M : Type 1} → statement M
vec_of_spec =
    tie.close
    (tie.spec
    returns
    heat-price-requires
    weighted-units-requires
    total-mw-requires
    mul-rounded
    rounded-requires
    returns-2)
